-- The replies for the machine's replies, for any number of levels, or none if a call never gets that reply of the machine.
use Rattle.std.specs.Prelude.{zero, suc, ℕ, ◌==◌, cond, Bool, true, false, Option, Some, None, option_map, Result, Ok, Err, is_err}
use Rattle.x86_64_model.specs.Call as machine
use Rattle.x86_64_model.specs.Call.{Call, MapTo, MapToWithTableFlags, IdentityMap, Unmap, UpdateFlags, SetFlags, TranslatePage, Translate, TranslateAddress, CleanUp}
use Rattle.x86_64_model.specs.Refusal as refusal
use Rattle.x86_64_model.specs.Refusal.{Refusal, Answer, Done, Refused}
use Rattle.x86_64_model.specs.Translation.{Translated, NotMapped as Nowhere, Mapped as At}
use Rattle.x86_64_tables.specs.declared.errors.MapToError.{MapToError}
use Rattle.x86_64_tables.specs.declared.errors.MapToError.TheVariants as map_to
use Rattle.x86_64_tables.specs.declared.errors.UnmapError.{UnmapError}
use Rattle.x86_64_tables.specs.declared.errors.UnmapError.TheVariants as unmap
use Rattle.x86_64_tables.specs.declared.errors.FlagUpdateError.{FlagUpdateError}
use Rattle.x86_64_tables.specs.declared.errors.FlagUpdateError.TheVariants as update
use Rattle.x86_64_tables.specs.declared.errors.TranslateError.{TranslateError}
use Rattle.x86_64_tables.specs.declared.errors.TranslateError.TheVariants as page_frame
use Rattle.x86_64_tables.specs.declared.translation.MappedFrame.{MappedFrame}
use Rattle.x86_64_tables.specs.declared.translation.MappedFrame.TheVariants.{Size4KiB, Size2MiB, Size1GiB}
use Rattle.x86_64_tables.specs.declared.translation.TranslateResult.{TranslateResult}
use Rattle.x86_64_tables.specs.declared.translation.TranslateResult.TheVariants.{Mapped, NotMapped}
use Rattle.x86_64_page.specs.declared.page.Size4KiB.{Size4KiB as Small}
use Rattle.x86_64_page.specs.declared.page.Size2MiB.{Size2MiB as Large}
use Rattle.x86_64_page.specs.declared.page.Size1GiB.{Size1GiB as Giant}
use Rattle.x86_64.specs.declared.call_values.PageReply.{PageReply}
use Rattle.x86_64.specs.declared.call_values.PageReply.TheVariants as page_reply
use Rattle.x86_64.specs.declared.call_values.MapperReply.{MapperReply}
use Rattle.x86_64.specs.declared.call_values.MapperReply.TheVariants as reply

-- A reply to a call on a page of the size S, for any number of levels. A page in it is its position (its address counted without
-- the gap).
abbrev pub SizeReply : (S : Type 0) → Type 0
SizeReply S = PageReply ℕ S

-- A reply to a call of a mapper, for any number of levels, with the replies to calls on pages of each size.
abbrev pub Reply : Type 0
Reply = MapperReply (SizeReply Small) (SizeReply Large) (SizeReply Giant)

-- The error of a map for a refusal by the machine, or `None` if no map is refused for this reason.
abbrev pub map_error : {S : Type 0} → Refusal → Option (MapToError S)
map_error refusal.FrameAllocationFailed = Some map_to.FrameAllocationFailed
map_error refusal.ParentEntryHugePage = Some map_to.ParentEntryHugePage
map_error (refusal.PageAlreadyMapped frame) = Some (map_to.PageAlreadyMapped frame)
map_error other = None

-- The error of an `unmap` for a refusal by the machine, or `None` if no `unmap` is refused for this reason.
abbrev pub unmap_error : Refusal → Option UnmapError
unmap_error refusal.ParentEntryHugePage = Some unmap.ParentEntryHugePage
unmap_error refusal.PageNotMapped = Some unmap.PageNotMapped
unmap_error (refusal.InvalidFrameAddress address) = Some (unmap.InvalidFrameAddress address)
unmap_error other = None

-- The error of a change of flags for a refusal by the machine, or `None` if no change of flags is refused for this reason.
abbrev pub update_error : Refusal → Option FlagUpdateError
update_error refusal.PageNotMapped = Some update.PageNotMapped
update_error refusal.ParentEntryHugePage = Some update.ParentEntryHugePage
update_error other = None

-- The error of a `translate_page` for a refusal by the machine, or `None` if none is refused for this reason.
abbrev pub translate_error : Refusal → Option TranslateError
translate_error refusal.PageNotMapped = Some page_frame.PageNotMapped
translate_error refusal.ParentEntryHugePage = Some page_frame.ParentEntryHugePage
translate_error (refusal.InvalidFrameAddress address) = Some (page_frame.InvalidFrameAddress address)
translate_error other = None

-- The reply to a call on a page for the machine's answer, which `wrap` makes of the result: the value that `done` makes of the
-- answer's frame, or the error that `refused` makes of its refusal. It is `None` if there is no such error.
abbrev pub result_reply : {X E S : Type 0} → (wrap : Result X E → SizeReply S) → (done : ℕ → X) → (refused : Refusal → Option E) → Answer → Option (SizeReply S)
result_reply wrap done refused (Done frame) = Some (wrap (Ok (done frame)))
result_reply wrap done refused (Refused why) = option_map (λ error. wrap (Err error)) (refused why)

-- The frame of a size in bytes that starts at an address, or `None` if there are no pages of this size.
abbrev pub mapped_frame : (size start : ℕ) → Option MappedFrame
mapped_frame size start = cond (size == 0x1000) (Some (Size4KiB start)) (cond (size == 0x20_0000) (Some (Size2MiB start)) (cond (size == 0x4000_0000) (Some (Size1GiB start)) None))

-- The result of `translate` for the machine's translation of a position, or `None` if there are no pages of its size.
abbrev pub translate_result : Translated → Option TranslateResult
translate_result Nowhere = Some NotMapped
translate_result (At size frame offset flags) = option_map (λ frame. Mapped frame offset (record { 0 = flags })) (mapped_frame size frame)

-- The reply to a call on a page of a level for the machine's reply, or `None` if the machine never replies so to such a call.
-- `replies` says what the machine's answer means for a page of the size S.
abbrev pub sized : (replies : (S : Type 0) → Answer → Option (SizeReply S)) → machine.Reply → (level : ℕ) → Option Reply
sized replies machine.NotAllowed level = Some reply.NotAllowed
sized replies (machine.Answered answer) (suc zero) = option_map reply.Of4KiB (replies Small answer)
sized replies (machine.Answered answer) (suc (suc zero)) = option_map reply.Of2MiB (replies Large answer)
sized replies (machine.Answered answer) (suc (suc (suc zero))) = option_map reply.Of1GiB (replies Giant answer)
sized replies r level = None

-- The result of `by` for a call on a page, or `None` for any other call. It takes the level of the page, and the reply that the machine's
-- answer becomes for a page of the size S.
abbrev pub if_on_page : {R : Type 0} → ((level : ℕ) → (replies : (S : Type 0) → Answer → Option (SizeReply S)) → Option R) → Call → Option R
if_on_page by (MapTo level page frame flags) = by level (λ S. result_reply page_reply.Map (λ mapped. page) map_error)
if_on_page by (MapToWithTableFlags level page frame flags parent_flags) = by level (λ S. result_reply page_reply.Map (λ mapped. page) map_error)
if_on_page by (IdentityMap level frame flags) = by level (λ S. result_reply page_reply.Map (λ mapped. frame) map_error)
if_on_page by (Unmap level page) = by level (λ S. result_reply page_reply.Unmap (λ frame. (frame, page)) unmap_error)
if_on_page by (UpdateFlags level page flags) = by level (λ S. result_reply page_reply.Update (λ frame. page) update_error)
if_on_page by (SetFlags at level page flags) = by level (λ S. result_reply page_reply.TableFlags (λ frame. tt) update_error)
if_on_page by (TranslatePage level page) = by level (λ S. result_reply page_reply.Frame (λ frame. frame) translate_error)
if_on_page by call = None

-- The reply to a call for the machine's reply, or `None` if the machine never replies to this call so.
abbrev pub reply_of : Call → machine.Reply → Option Reply
reply_of (Translate position) (machine.Position translated) = option_map reply.Translate (translate_result translated)
reply_of (TranslateAddress position) (machine.Address address) = Some (reply.Address address)
reply_of (CleanUp low high) machine.Cleaned = Some reply.Cleaned
reply_of call r = if_on_page (λ level replies. sized replies r level) call

-- ---- replies of calls that change nothing

-- Whether a reply to a call on a page shows that no word changed: the call is a translation, or it was refused and isn't a map. A
-- refused map may have created tables.
abbrev pub size_changes_nothing : {S : Type 0} → SizeReply S → Bool
size_changes_nothing (page_reply.Map mapped) = false
size_changes_nothing (page_reply.Unmap unmapped) = is_err unmapped
size_changes_nothing (page_reply.Update updated) = is_err updated
size_changes_nothing (page_reply.TableFlags done) = is_err done
size_changes_nothing (page_reply.Frame frame) = true

-- Whether a mapper's reply shows that no word changed: the call is a translation, wasn't allowed, or was refused and isn't a map.
abbrev pub changes_nothing : Reply → Bool
changes_nothing (reply.Of4KiB answer) = size_changes_nothing answer
changes_nothing (reply.Of2MiB answer) = size_changes_nothing answer
changes_nothing (reply.Of1GiB answer) = size_changes_nothing answer
changes_nothing reply.Cleaned = false
changes_nothing other = true
