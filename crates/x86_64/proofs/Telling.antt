-- The machine's reply to a call, recovered from the Rust reply.
use Rattle.std.proofs.Common.{◌≡◌, ℕ, ◌==◌, Bool, true, false, cond, Option, Some, None, option_map, Ok, Err, refl, sym, ap, ◌∙◌, eqb-true}
use Rattle.std.proofs.lemmas.Option.{same_Some}
use Rattle.x86_64_model.specs.Call as machine
use Rattle.x86_64_model.specs.Call.{Call, MapTo, MapToWithTableFlags, IdentityMap, UpdateFlags, SetFlags, TranslatePage, Unmap as UnmapPage}
use Rattle.x86_64_model.specs.Refusal as refusal
use Rattle.x86_64_model.specs.Refusal.{Refusal, Done, Refused}
use Rattle.x86_64_model.specs.Translation.{Translated, NotMapped as Nowhere, Mapped as At}
use Rattle.x86_64_tables.specs.MapperAnswers.{map_refusal, refusal_of_unmap, refusal_of_update, refusal_of_translate}
use Rattle.x86_64_tables.specs.declared.errors.MapToError.{MapToError}
use Rattle.x86_64_tables.specs.declared.errors.UnmapError.{UnmapError}
use Rattle.x86_64_tables.specs.declared.errors.FlagUpdateError.{FlagUpdateError}
use Rattle.x86_64_tables.specs.declared.errors.TranslateError.{TranslateError}
use Rattle.x86_64_tables.specs.declared.translation.MappedFrame.{MappedFrame}
use Rattle.x86_64_tables.specs.declared.translation.MappedFrame.TheVariants.{Size4KiB, Size2MiB, Size1GiB}
use Rattle.x86_64_tables.specs.declared.translation.TranslateResult.{TranslateResult}
use Rattle.x86_64_tables.specs.declared.translation.TranslateResult.TheVariants.{Mapped, NotMapped, InvalidFrameAddress}
use Rattle.x86_64.specs.declared.call_values.PageReply.TheVariants.{Map, Unmap, Update, TableFlags, Frame}
use Rattle.x86_64.specs.declared.call_values.MapperReply.TheVariants as reply
use Rattle.x86_64.specs.Replies.{SizeReply, Reply, map_error, unmap_error, update_error, translate_error, translate_result, reply_of}
use Rattle.x86_64.specs.ToldReplies.{told_part, RepliesTell}
use Rattle.x86_64.specs.private.Served.{size_reply}
use Rattle.x86_64.proofs.ReplyCases.{IsOnPage, reply_cases}

-- ---- errors

map_back : {S : Type 0} (why : Refusal) (error : MapToError S) → map_error why ≡ Some error → map_refusal error ≡ why
map_back refusal.FrameAllocationFailed error is = ap map_refusal (sym (same_Some _ _ is))
map_back refusal.ParentEntryHugePage error is = ap map_refusal (sym (same_Some _ _ is))
map_back (refusal.PageAlreadyMapped frame) error is = ap map_refusal (sym (same_Some _ _ is))
map_back refusal.PageNotMapped error is = cc
map_back (refusal.InvalidFrameAddress address) error is = cc

unmap_back : (why : Refusal) (error : UnmapError) → unmap_error why ≡ Some error → refusal_of_unmap error ≡ why
unmap_back refusal.ParentEntryHugePage error is = ap refusal_of_unmap (sym (same_Some _ _ is))
unmap_back refusal.PageNotMapped error is = ap refusal_of_unmap (sym (same_Some _ _ is))
unmap_back (refusal.InvalidFrameAddress address) error is = ap refusal_of_unmap (sym (same_Some _ _ is))
unmap_back (refusal.PageAlreadyMapped frame) error is = cc
unmap_back refusal.FrameAllocationFailed error is = cc

update_back : (why : Refusal) (error : FlagUpdateError) → update_error why ≡ Some error → refusal_of_update error ≡ why
update_back refusal.PageNotMapped error is = ap refusal_of_update (sym (same_Some _ _ is))
update_back refusal.ParentEntryHugePage error is = ap refusal_of_update (sym (same_Some _ _ is))
update_back (refusal.InvalidFrameAddress address) error is = cc
update_back (refusal.PageAlreadyMapped frame) error is = cc
update_back refusal.FrameAllocationFailed error is = cc

translate_back : (why : Refusal) (error : TranslateError) → translate_error why ≡ Some error → refusal_of_translate error ≡ why
translate_back refusal.PageNotMapped error is = ap refusal_of_translate (sym (same_Some _ _ is))
translate_back refusal.ParentEntryHugePage error is = ap refusal_of_translate (sym (same_Some _ _ is))
translate_back (refusal.InvalidFrameAddress address) error is = ap refusal_of_translate (sym (same_Some _ _ is))
translate_back (refusal.PageAlreadyMapped frame) error is = cc
translate_back refusal.FrameAllocationFailed error is = cc

-- ---- replies on pages

abbrev size_back : {S : Type 0} → SizeReply S → machine.Reply
size_back (Map (Ok page)) = machine.Answered (Done 0)
size_back (Map (Err why)) = machine.Answered (Refused (map_refusal why))
size_back (Unmap (Ok unmapped)) = machine.Answered (Done unmapped.0)
size_back (Unmap (Err why)) = machine.Answered (Refused (refusal_of_unmap why))
size_back (Update (Ok page)) = machine.Answered (Done 0)
size_back (Update (Err why)) = machine.Answered (Refused (refusal_of_update why))
size_back (TableFlags (Ok done)) = machine.Answered (Done 0)
size_back (TableFlags (Err why)) = machine.Answered (Refused (refusal_of_update why))
size_back (Frame (Ok frame)) = machine.Answered (Done frame)
size_back (Frame (Err why)) = machine.Answered (Refused (refusal_of_translate why))

not_allowed_told : (call : Call) (level : ℕ) → IsOnPage level call → told_part call machine.NotAllowed ≡ machine.NotAllowed
not_allowed_told (UnmapPage l page) level on = refl
not_allowed_told call level on = refl

module _ {S : Type 0} where
  done_back : (told answer : SizeReply S) → Some told ≡ Some answer → size_back told ≡ size_back answer
  done_back told answer e = ap size_back (same_Some _ _ e)

  refused_back : {E : Type 0} (wrap : E → SizeReply S) (why : Refusal) (error : Option E) → ((w : E) → error ≡ Some w → size_back (wrap w) ≡ machine.Answered (Refused why))
      → (answer : SizeReply S) → option_map wrap error ≡ Some answer → machine.Answered (Refused why) ≡ size_back answer
  refused_back wrap why None back answer e = cc
  refused_back wrap why (Some w) back answer e = sym (back w refl) ∙ ap size_back (same_Some _ _ e)

  map_told : (why : Refusal) (answer : SizeReply S) → option_map (λ w. Map (Err w)) (map_error why) ≡ Some answer → machine.Answered (Refused why) ≡ size_back answer
  map_told why = refused_back (λ w. Map (Err w)) why (map_error why) (λ w is. ap (λ x. machine.Answered (Refused x)) (map_back why w is))

  answer_back : (call : Call) (level : ℕ) → IsOnPage level call → (a : refusal.Answer) (answer : SizeReply S) → size_reply call a ≡ Some answer → told_part call (machine.Answered a) ≡ size_back answer
  answer_back (MapTo l page frame flags) level on (Done f) = done_back _
  answer_back (MapTo l page frame flags) level on (Refused why) = map_told why
  answer_back (MapToWithTableFlags l page frame flags more) level on (Done f) = done_back _
  answer_back (MapToWithTableFlags l page frame flags more) level on (Refused why) = map_told why
  answer_back (IdentityMap l frame flags) level on (Done f) = done_back _
  answer_back (IdentityMap l frame flags) level on (Refused why) = map_told why
  answer_back (UnmapPage l page) level on (Done f) = done_back _
  answer_back (UnmapPage l page) level on (Refused why) = refused_back (λ w. Unmap (Err w)) why (unmap_error why) (λ w is. ap (λ x. machine.Answered (Refused x)) (unmap_back why w is))
  answer_back (UpdateFlags l page flags) level on (Done f) = done_back _
  answer_back (UpdateFlags l page flags) level on (Refused why) = refused_back (λ w. Update (Err w)) why (update_error why) (λ w is. ap (λ x. machine.Answered (Refused x)) (update_back why w is))
  answer_back (SetFlags at l page flags) level on (Done f) = done_back _
  answer_back (SetFlags at l page flags) level on (Refused why) = refused_back (λ w. TableFlags (Err w)) why (update_error why) (λ w is. ap (λ x. machine.Answered (Refused x)) (update_back why w is))
  answer_back (TranslatePage l page) level on (Done f) = done_back _
  answer_back (TranslatePage l page) level on (Refused why) = refused_back (λ w. Frame (Err w)) why (translate_error why) (λ w is. ap (λ x. machine.Answered (Refused x)) (translate_back why w is))
  answer_back call level on a = λ answer e. cc

-- ---- all replies

abbrev frame_back : MappedFrame → (offset flags : ℕ) → Translated
frame_back (Size4KiB start) offset flags = At 0x1000 start offset flags
frame_back (Size2MiB start) offset flags = At 0x20_0000 start offset flags
frame_back (Size1GiB start) offset flags = At 0x4000_0000 start offset flags

abbrev result_back : TranslateResult → Translated
result_back NotMapped = Nowhere
result_back (Mapped frame offset flags) = frame_back frame offset flags.0
result_back (InvalidFrameAddress address) = Nowhere

abbrev back : Reply → machine.Reply
back (reply.Of4KiB answer) = size_back answer
back (reply.Of2MiB answer) = size_back answer
back (reply.Of1GiB answer) = size_back answer
back (reply.Translate result) = machine.Position (result_back result)
back (reply.Address address) = machine.Address address
back reply.Cleaned = machine.Cleaned
back reply.NotAllowed = machine.NotAllowed

mapped_back : (size start offset flags : ℕ) (small large huge : Bool) → (size == 0x1000) ≡ small → (size == 0x20_0000) ≡ large → (size == 0x4000_0000) ≡ huge → (x : TranslateResult)
    → option_map (λ frame. Mapped frame offset (record { 0 = flags })) (cond small (Some (Size4KiB start)) (cond large (Some (Size2MiB start)) (cond huge (Some (Size1GiB start)) None))) ≡ Some x
    → At size start offset flags ≡ result_back x
mapped_back size start offset flags true large huge is _ _ x e = ap (λ n. At n start offset flags) (eqb-true size 0x1000 is) ∙ ap result_back (same_Some _ _ e)
mapped_back size start offset flags false true huge _ is _ x e = ap (λ n. At n start offset flags) (eqb-true size 0x20_0000 is) ∙ ap result_back (same_Some _ _ e)
mapped_back size start offset flags false false true _ _ is x e = ap (λ n. At n start offset flags) (eqb-true size 0x4000_0000 is) ∙ ap result_back (same_Some _ _ e)
mapped_back size start offset flags false false false _ _ _ x e = cc

translation_back : (t : Translated) (x : TranslateResult) → translate_result t ≡ Some x → t ≡ result_back x
translation_back Nowhere x e = ap result_back (same_Some _ _ e)
translation_back (At size start offset flags) x e = mapped_back size start offset flags _ _ _ refl refl refl x e

is_back : (call : Call) (r : machine.Reply) (x : Reply) → reply_of call r ≡ Some x → told_part call r ≡ back x
is_back = reply_cases (λ call r x. told_part call r ≡ back x) not_allowed_told (λ call. answer_back call 1) (λ call. answer_back call 2) (λ call. answer_back call 3)
    (λ p t told e. ap machine.Position (translation_back t told e)) (λ p a. refl) (λ low high. refl)

pub replies_tell : RepliesTell
replies_tell call r s x first second = is_back call r x first ∙ sym (is_back call s x second)
