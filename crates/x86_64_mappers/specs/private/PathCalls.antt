-- The conditions and effects of calls on the page at a path, by the rules of calls.
use Rattle.std.specs.Prelude.{ℕ, Bool, List, Result}
use Rattle.x86_64_model.specs.Allowed.{table_flags_allowed}
use Rattle.x86_64_model.specs.Entry.{address}
use Rattle.x86_64_model.specs.Hierarchy.{Hierarchy, paths, read_entry}
use Rattle.x86_64_model.specs.Path.{front_at}
use Rattle.x86_64_model.specs.private.MapperCalls.{ChangesBy, after_unmap, after_update, after_set_flags}
use Rattle.x86_64_model.specs.Refusal.{Answer}
use Rattle.x86_64_tables.specs.MapperAnswers.{flags_answer}
use Rattle.x86_64_tables.specs.declared.errors.FlagUpdateError.{FlagUpdateError}

-- Whether the flags of the entry of a level on a page's path may be set to these.
abbrev pub flags_may_be_set : {Lent : Type 0} → Hierarchy Lent → (level : ℕ) → (page : List ℕ) → (flags : ℕ) → Bool
flags_may_be_set h level page given = table_flags_allowed h.layout.levels h.layout.window (paths h) level page given

-- The page at the path was unmapped with this answer.
abbrev pub UnmapsPath : {Lent : Type 0} → Hierarchy Lent → (page : List ℕ) → Answer → (after : Hierarchy Lent) → Type 0
UnmapsPath h page answer after = ChangesBy h (after_unmap h.layout h.memory page) answer after

-- The flags of the page at the path were updated with this result.
abbrev pub UpdatesPath : {Lent X : Type 0} → Hierarchy Lent → (page : List ℕ) → (flags : ℕ) → Result X FlagUpdateError → (after : Hierarchy Lent) → Type 0
UpdatesPath h page given result after = ChangesBy h (after_update h.layout h.memory page given) (flags_answer (address (read_entry h page)) result) after

-- The flags of the entry of a level on the path were set with this result.
abbrev pub SetsFlagsOnPath : {Lent X : Type 0} → Hierarchy Lent → (level : ℕ) → (page : List ℕ) → (flags : ℕ) → Result X FlagUpdateError → (after : Hierarchy Lent) → Type 0
SetsFlagsOnPath h level page given result after =
    ChangesBy h (after_set_flags h.layout h.memory level page given) (flags_answer (address (read_entry h (front_at h.layout.levels level page))) result) after
