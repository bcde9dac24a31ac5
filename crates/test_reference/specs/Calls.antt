-- The calls, replies and refusals of the plain program as those of the model.
use Rattle.std.specs.Prelude.{ℕ, List, Option, Some, None}
use Rattle.x86_64_model.specs.PathMap.{PathMap}
use Rattle.x86_64_model.specs.PageRules.{AfterChange}
use Rattle.x86_64_model.specs.MapRule.{AfterMap}
use Rattle.x86_64_model.specs.Refusal as refusal
use Rattle.x86_64_model.specs.Translation as translation
use Rattle.x86_64_model.specs.Call as call
use Rattle.test_reference.specs.declared.plain_calls.Refusal.{Refusal}
use Rattle.test_reference.specs.declared.plain_calls.Refusal.TheVariants.{PageNotMapped, ParentEntryHugePage, InvalidFrameAddress, PageAlreadyMapped, FrameAllocationFailed}
use Rattle.test_reference.specs.declared.plain_calls.Answer.{Answer}
use Rattle.test_reference.specs.declared.plain_calls.Answer.TheVariants.{Done, Refused}
use Rattle.test_reference.specs.declared.plain_calls.Translated.{Translated}
use Rattle.test_reference.specs.declared.plain_calls.Translated.TheVariants.{NotMapped, Mapped}
use Rattle.test_reference.specs.declared.plain_calls.PlainCall.{PlainCall}
use Rattle.test_reference.specs.declared.plain_calls.PlainCall.TheVariants.{MapTo, MapToWithTableFlags, IdentityMap, Unmap, UpdateFlags, SetFlags, TranslatePage, Translate, TranslateAddress, CleanUp}
use Rattle.test_reference.specs.declared.plain_calls.PlainReply.{PlainReply}
use Rattle.test_reference.specs.declared.plain_calls.PlainReply.TheVariants.{NotAllowed, Answered, Position, Address, Cleaned}

-- The plain program's reason for a refusal, as that of the model.
abbrev pub plain_refusal : Refusal → refusal.Refusal
plain_refusal PageNotMapped = refusal.PageNotMapped
plain_refusal ParentEntryHugePage = refusal.ParentEntryHugePage
plain_refusal (InvalidFrameAddress address) = refusal.InvalidFrameAddress address
plain_refusal (PageAlreadyMapped frame) = refusal.PageAlreadyMapped frame
plain_refusal FrameAllocationFailed = refusal.FrameAllocationFailed

-- The plain program's reason for a refusal, or None without a refusal, as that of the model.
abbrev pub refusals_of : Option Refusal → Option refusal.Refusal
refusals_of None = None
refusals_of (Some why) = Some (plain_refusal why)

-- The plain program's answer to a call on a page, as that of the model.
abbrev pub answer_of : Answer → refusal.Answer
answer_of (Done frame) = refusal.Done frame
answer_of (Refused why) = refusal.Refused (plain_refusal why)

-- The path map and the plain program's answer after a call on one entry, as the model has them.
abbrev pub plain_change : PathMap → Answer → AfterChange
plain_change paths answer = record { paths = paths; answer = answer_of answer }

-- The path map, the free frames and the plain program's answer after a map, as the model has them.
abbrev pub plain_map : PathMap → (supply : List ℕ) → Answer → AfterMap
plain_map paths supply answer = record { paths = paths; supply = supply; answer = answer_of answer }

-- The plain program's result of a translation, as that of the model.
abbrev pub translated_of : Translated → translation.Translated
translated_of NotMapped = translation.NotMapped
translated_of (Mapped size frame offset flags) = translation.Mapped size frame offset flags

-- The plain program's call, as that of the model.
abbrev pub plain_call : PlainCall → call.Call
plain_call (MapTo page frame flags) = call.MapTo page.level page.position frame flags
plain_call (MapToWithTableFlags page frame flags parent_flags) = call.MapToWithTableFlags page.level page.position frame flags parent_flags
plain_call (IdentityMap level frame flags) = call.IdentityMap level frame flags
plain_call (Unmap page) = call.Unmap page.level page.position
plain_call (UpdateFlags page flags) = call.UpdateFlags page.level page.position flags
plain_call (SetFlags level page flags) = call.SetFlags level page.level page.position flags
plain_call (TranslatePage page) = call.TranslatePage page.level page.position
plain_call (Translate position) = call.Translate position
plain_call (TranslateAddress position) = call.TranslateAddress position
plain_call (CleanUp low high) = call.CleanUp low high

-- The plain program's reply to a call, as that of the model.
abbrev pub plain_reply : PlainReply → call.Reply
plain_reply NotAllowed = call.NotAllowed
plain_reply (Answered answer) = call.Answered (answer_of answer)
plain_reply (Position translated) = call.Position (translated_of translated)
plain_reply (Address address) = call.Address address
plain_reply Cleaned = call.Cleaned
