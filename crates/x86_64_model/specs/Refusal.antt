-- The answers of calls that map, unmap or change a page, and the refusal by the page's parents.
use Rattle.std.specs.Prelude.{ℕ, ◌&&◌, Bool, not, cond, List, find, Option, Some, None, option_map}
use Rattle.x86_64_model.specs.Entry.{present, huge}
use Rattle.x86_64_model.specs.Path.{parents}

-- Why a call on a page is refused. An address is the one in the entry that refuses, and a frame is the one that was to be
-- mapped.
pub data Refusal : Type 0 where
  PageNotMapped : Refusal
  ParentEntryHugePage : Refusal
  InvalidFrameAddress : (address : ℕ) → Refusal
  PageAlreadyMapped : (frame : ℕ) → Refusal
  FrameAllocationFailed : Refusal

-- The answer of a call on a page: done, with the address of the frame or table that the entry names, or refused.
pub data Answer : Type 0 where
  Done : (frame : ℕ) → Answer
  Refused : Refusal → Answer

-- The refusal by the shortest parent of a path that isn't a present table entry, None if there is no such parent. It refuses
-- with ParentEntryHugePage if it is present, since it is huge then, and with PageNotMapped otherwise. E returns the entry at a
-- path.
unfoldable pub first_stop : (E : List ℕ → ℕ) → List ℕ → Option Refusal
first_stop E q = option_map (λ p. cond (present (E p)) ParentEntryHugePage PageNotMapped)
    (find (λ p. not (present (E p) && not (huge (E p)))) (parents q))

-- The refusal if a test holds, otherwise what comes next.
abbrev pub refused_if : (test : Bool) → Refusal → (next : Option Refusal) → Option Refusal
refused_if test why next = cond test (Some why) next

-- The refusal as an answer, or this answer if there is no refusal.
abbrev pub answer_unless : Option Refusal → Answer → Answer
answer_unless None next = next
answer_unless (Some why) next = Refused why

-- The refusal in an answer, None if the call was done.
abbrev pub refusal_of : Answer → Option Refusal
refusal_of (Done frame) = None
refusal_of (Refused why) = Some why
