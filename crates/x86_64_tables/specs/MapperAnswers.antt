-- The results of a mapper's calls, as answers of the model.
use Rattle.std.specs.Prelude.{ℕ, Option, Some, None, Result, Ok, Err}
use Rattle.x86_64_model.specs.Refusal as refusal
use Rattle.x86_64_model.specs.Refusal.{Refusal, Answer, Done, Refused, answer_unless}
use Rattle.x86_64_tables.specs.declared.errors.MapToError.{MapToError}
use Rattle.x86_64_tables.specs.declared.errors.MapToError.TheVariants as map_to
use Rattle.x86_64_tables.specs.declared.errors.UnmapError.{UnmapError}
use Rattle.x86_64_tables.specs.declared.errors.UnmapError.TheVariants as unmap
use Rattle.x86_64_tables.specs.declared.errors.FlagUpdateError.{FlagUpdateError}
use Rattle.x86_64_tables.specs.declared.errors.FlagUpdateError.TheVariants as update
use Rattle.x86_64_tables.specs.declared.errors.TranslateError.{TranslateError}
use Rattle.x86_64_tables.specs.declared.errors.TranslateError.TheVariants as translate

-- The model's refusal for an error of a call that maps a page.
abbrev pub map_refusal : {S : Type 0} → MapToError S → Refusal
map_refusal map_to.FrameAllocationFailed = refusal.FrameAllocationFailed
map_refusal map_to.ParentEntryHugePage = refusal.ParentEntryHugePage
map_refusal (map_to.PageAlreadyMapped frame) = refusal.PageAlreadyMapped frame

-- The model's answer for the result of a call that maps a page to the frame: done with this frame, or refused.
abbrev pub map_answer : {S X : Type 0} → (frame : ℕ) → Result X (MapToError S) → Answer
map_answer frame (Ok _) = Done frame
map_answer frame (Err why) = Refused (map_refusal why)

-- The model's refusal for an error of a call that unmaps a page.
abbrev pub refusal_of_unmap : UnmapError → Refusal
refusal_of_unmap unmap.ParentEntryHugePage = refusal.ParentEntryHugePage
refusal_of_unmap unmap.PageNotMapped = refusal.PageNotMapped
refusal_of_unmap (unmap.InvalidFrameAddress address) = refusal.InvalidFrameAddress address

-- The model's answer for the result of a call that unmaps a page: done with the frame that it was mapped to, or refused. If done,
-- the call returned this frame and a token for the TLB flush.
abbrev pub unmap_answer : Result (ℕ × ℕ) UnmapError → Answer
unmap_answer (Ok unmapped) = Done unmapped.0
unmap_answer (Err why) = Refused (refusal_of_unmap why)

-- The model's answer for the result of a call that unmaps the page at a path: done with the frame that it was mapped to, or
-- refused. If done, the call returned this frame and no token.
abbrev pub frame_answer : Result ℕ UnmapError → Answer
frame_answer (Ok frame) = Done frame
frame_answer (Err why) = Refused (refusal_of_unmap why)

-- The model's refusal for an error of a call that changes the flags of an entry.
abbrev pub refusal_of_update : FlagUpdateError → Refusal
refusal_of_update update.PageNotMapped = refusal.PageNotMapped
refusal_of_update update.ParentEntryHugePage = refusal.ParentEntryHugePage

-- The reason why a call didn't change the flags of an entry, None if it changed them.
abbrev pub flags_refusal : {X : Type 0} → Result X FlagUpdateError → Option Refusal
flags_refusal (Ok _) = None
flags_refusal (Err why) = Some (refusal_of_update why)

-- The model's answer for the result of a call that changes the flags of an entry: done with the frame that the entry names, or
-- refused.
abbrev pub flags_answer : {X : Type 0} → (frame : ℕ) → Result X FlagUpdateError → Answer
flags_answer frame result = answer_unless (flags_refusal result) (Done frame)

-- The model's refusal for an error of a call that translates a page.
abbrev pub refusal_of_translate : TranslateError → Refusal
refusal_of_translate translate.PageNotMapped = refusal.PageNotMapped
refusal_of_translate translate.ParentEntryHugePage = refusal.ParentEntryHugePage
refusal_of_translate (translate.InvalidFrameAddress address) = refusal.InvalidFrameAddress address

-- The model's answer for the result of a call that translates a page: done with the frame that it is mapped to, or refused.
abbrev pub translate_answer : Result ℕ TranslateError → Answer
translate_answer (Ok frame) = Done frame
translate_answer (Err why) = Refused (refusal_of_translate why)
