-- The cases of a reply of a mapper to a call.
use Rattle.std.proofs.Common.{zero, suc, ◌≡◌, ℕ, Option, Some, None, option_map, refl, ap, subst}
use Rattle.std.proofs.lemmas.Option.{same_Some}
use Rattle.x86_64_model.specs.Call as machine
use Rattle.x86_64_model.specs.Call.{Call, Translate, TranslateAddress, CleanUp}
use Rattle.x86_64_model.specs.Refusal.{Answer}
use Rattle.x86_64_model.specs.Translation.{Translated}
use Rattle.x86_64_page.specs.declared.page.Size4KiB.{Size4KiB as Small}
use Rattle.x86_64_page.specs.declared.page.Size2MiB.{Size2MiB as Large}
use Rattle.x86_64_page.specs.declared.page.Size1GiB.{Size1GiB as Giant}
use Rattle.x86_64_tables.specs.declared.translation.TranslateResult.{TranslateResult}
use Rattle.x86_64.specs.declared.call_values.MapperReply.TheVariants as reply
use Rattle.x86_64.specs.declared.call_values.SizeCallIn.{SizeCallIn}
use Rattle.x86_64.specs.declared.call_values.SizeCallIn.TheVariants as size
use Rattle.x86_64.specs.Calls.{page_call}
use Rattle.x86_64.specs.Replies.{SizeReply, Reply, if_on_page, sized, translate_result, reply_of}
use Rattle.x86_64.specs.private.Served.{size_reply}

-- the call is one on a page of the level
abbrev pub IsOnPage : (level : ℕ) → Call → Type 0
IsOnPage level call = if_on_page (λ l replies. Some l) call ≡ Some level

pub is_on_page : {S L P5 : Type 0} (level : ℕ) (bits : P5 → ℕ) (call : SizeCallIn S L P5) → IsOnPage level (page_call level bits call)
is_on_page level bits (size.Unmap page) = refl
is_on_page level bits call = refl

pub page_reply : (call : Call) (level : ℕ) → IsOnPage level call → (r : machine.Reply) → reply_of call r ≡ sized (λ S. size_reply call) r level
page_reply (Translate p) level on r = cc
page_reply (TranslateAddress p) level on r = cc
page_reply (CleanUp low high) level on r = cc
page_reply call level on r = ap (sized (λ S. size_reply call) r) (same_Some _ _ on)

-- what holds of each reply that a call may get holds of the reply
module _ (P : Call → machine.Reply → Reply → Type 0)
    (none : (call : Call) (level : ℕ) → IsOnPage level call → P call machine.NotAllowed reply.NotAllowed)
    (small : (call : Call) → IsOnPage 1 call → (a : Answer) (told : SizeReply Small) → size_reply call a ≡ Some told → P call (machine.Answered a) (reply.Of4KiB told))
    (large : (call : Call) → IsOnPage 2 call → (a : Answer) (told : SizeReply Large) → size_reply call a ≡ Some told → P call (machine.Answered a) (reply.Of2MiB told))
    (giant : (call : Call) → IsOnPage 3 call → (a : Answer) (told : SizeReply Giant) → size_reply call a ≡ Some told → P call (machine.Answered a) (reply.Of1GiB told))
    (translated : (p : ℕ) (t : Translated) (told : TranslateResult) → translate_result t ≡ Some told → P (Translate p) (machine.Position t) (reply.Translate told))
    (address : (p : ℕ) (a : Option ℕ) → P (TranslateAddress p) (machine.Address a) (reply.Address a))
    (cleaned : (low high : ℕ) → P (CleanUp low high) machine.Cleaned reply.Cleaned) where
  by_some : {R : Type 0} (call : Call) (r : machine.Reply) (wrap : R → Reply) (o : Option R) → ((told : R) → o ≡ Some told → P call r (wrap told)) → (x : Reply) → option_map wrap o ≡ Some x → P call r x
  by_some call r wrap None each x e = cc
  by_some call r wrap (Some told) each x e = subst (P call r) (same_Some _ _ e) (each told refl)

  on_page : (call : Call) (level : ℕ) → IsOnPage level call → (r : machine.Reply) (x : Reply) → sized (λ S. size_reply call) r level ≡ Some x → P call r x
  on_page call level on machine.NotAllowed x e = subst (P call machine.NotAllowed) (same_Some _ _ e) (none call level on)
  on_page call zero on (machine.Answered a) x e = cc
  on_page call (suc zero) on (machine.Answered a) x e = by_some call _ reply.Of4KiB (size_reply call a) (small call on a) x e
  on_page call (suc (suc zero)) on (machine.Answered a) x e = by_some call _ reply.Of2MiB (size_reply call a) (large call on a) x e
  on_page call (suc (suc (suc zero))) on (machine.Answered a) x e = by_some call _ reply.Of1GiB (size_reply call a) (giant call on a) x e
  on_page call (suc (suc (suc (suc n)))) on (machine.Answered a) x e = cc
  on_page call level on (machine.Position t) x e = cc
  on_page call level on (machine.Address a) x e = cc
  on_page call level on machine.Cleaned x e = cc

  pub reply_cases : (call : Call) (r : machine.Reply) (x : Reply) → reply_of call r ≡ Some x → P call r x
  reply_cases (Translate p) (machine.Position t) x e = by_some _ _ reply.Translate (translate_result t) (translated p t) x e
  reply_cases (Translate p) r x e = cc
  reply_cases (TranslateAddress p) (machine.Address a) x e = subst (P (TranslateAddress p) (machine.Address a)) (same_Some _ _ e) (address p a)
  reply_cases (TranslateAddress p) r x e = cc
  reply_cases (CleanUp low high) machine.Cleaned x e = subst (P (CleanUp low high) machine.Cleaned) (same_Some _ _ e) (cleaned low high)
  reply_cases (CleanUp low high) r x e = cc
  reply_cases call r x e = on_page call _ refl r x e
