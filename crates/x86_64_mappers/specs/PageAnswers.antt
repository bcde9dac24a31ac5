-- What hierarchies say to calls on a page, in the form in which mappers state it.
use Rattle.std.specs.Prelude.{◌≡◌, ℕ, Bool, true, Result}
use Rattle.x86_64_model.specs.Call.{Call}
use Rattle.x86_64_model.specs.Entry.{present}
use Rattle.x86_64_model.specs.Hierarchy.{Hierarchy, Does, ArrivesIn, allows_map, named, page_translation, path_of}
use Rattle.x86_64_model.specs.Refusal.{Answer}
use Rattle.x86_64_tables.specs.MapperAnswers.{flags_answer}
use Rattle.x86_64_tables.specs.declared.errors.FlagUpdateError.{FlagUpdateError}

-- Whether the page of a level may be mapped with these flags and parent flags, to any frame.
abbrev pub allows_page : {Lent : Type 0} → Hierarchy Lent → (level page flags parent_flags : ℕ) → Bool
allows_page h level page given more = allows_map h (path_of h level page) given more

-- The answer of `translate_page` for the page of a level.
abbrev pub translated_page : {Lent : Type 0} → Hierarchy Lent → (level page : ℕ) → Answer
translated_page h level page = page_translation h (path_of h level page)

-- The hierarchy answers a change of flags, and is `after` then. If the change is done, the answer names the frame that the changed
-- entry names.
abbrev pub DoesFlags : {Lent X : Type 0} → Hierarchy Lent → Call → Result X FlagUpdateError → (after : Hierarchy Lent) → Type 0
DoesFlags h call result after = Does h call (flags_answer (named h call) result) after

-- If the flags have PRESENT, the page walk at each offset of a page of this size arrives at the frame's start plus the offset, with
-- exactly the rights of the flags.
abbrev pub ArrivesIfPresent : {Lent : Type 0} → Hierarchy Lent → (size page frame flags : ℕ) → Type 0
ArrivesIfPresent h size page frame given = present given ≡ true → ArrivesIn h size page frame given
