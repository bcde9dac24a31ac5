-- The result of a call on a page, as that of a call of a mapper.
use Rattle.std.proofs.Common.{◌≡◌, ℕ, Option, Some, None, option_map, refl, ap, ◌∙◌}
use Rattle.x86_64_model.specs.Call as machine
use Rattle.x86_64_model.specs.Call.{Call}
use Rattle.x86_64_model.specs.Machine.{Machine, State, step}
use Rattle.x86_64_model.specs.Refusal.{Answer}
use Rattle.x86_64.specs.declared.call_values.MapperReply.TheVariants as reply
use Rattle.x86_64.specs.private.Served.{size_reply, size_answer, size_step}
use Rattle.x86_64.specs.Replies.{Reply, SizeReply, sized, reply_of}
use Rattle.x86_64.specs.Runs.{AfterStep, step_by}
use Rattle.x86_64.proofs.ReplyCases.{IsOnPage, page_reply}

-- the mapper's reply that holds one to a call on a page, or that the call isn't allowed
abbrev pub wrapped : {S : Type 0} → (SizeReply S → Reply) → Option (SizeReply S) → Reply
wrapped wrap None = reply.NotAllowed
wrapped wrap (Some told) = wrap told

wrapped_some : {S : Type 0} (wrap : SizeReply S → Reply) (o : Option (SizeReply S)) → option_map wrap o ≡ option_map (wrapped wrap) (option_map Some o)
wrapped_some wrap None = refl
wrapped_some wrap (Some told) = refl

module _ {S : Type 0} (wrap : SizeReply S → Reply) (level : ℕ) (wraps : (replies : (S : Type 0) → Answer → Option (SizeReply S)) (a : Answer) → sized replies (machine.Answered a) level ≡ option_map wrap (replies S a)) where
  told : (call : Call) → IsOnPage level call → (r : machine.Reply) → reply_of call r ≡ option_map (wrapped wrap) (size_answer call r)
  told call on (machine.Answered a) = page_reply call level on (machine.Answered a) ∙ wraps (λ S. size_reply call) a ∙ wrapped_some wrap (size_reply call a)
  told call on machine.NotAllowed = page_reply call level on machine.NotAllowed
  told call on (machine.Position t) = page_reply call level on (machine.Position t)
  told call on (machine.Address a) = page_reply call level on (machine.Address a)
  told call on machine.Cleaned = page_reply call level on machine.Cleaned

  pub stepped : (m : Machine) (s : State) (call c : Call) → c ≡ call → IsOnPage level call → (after : State) (given : Option (SizeReply S))
      → size_step m s call ≡ record { state = after; reply = Some given } → step_by m s c ≡ record { state = after; reply = Some (wrapped wrap given) }
  stepped m s call c is on after given steps =
      ap (step_by m s) is ∙ ap (λ o. record { state = (step m s call).state; reply = o }) (told call on (step m s call).reply)
      ∙ ap (λ (x : AfterStep (Option (SizeReply S))). record { state = x.state; reply = option_map (wrapped wrap) x.reply }) steps
