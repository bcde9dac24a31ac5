-- The summaries of tables that are known.
use Rattle.std.specs.Prelude.{◌≡◌, ℕ, ◌+◌, List, IfSome, nat_eq, slice_get}
use Rattle.std.specs.declared.hash.FoldHasher.{FoldHasher}
use Rattle.std.specs.declared.hash.BuildHasherDefault.{BuildHasherDefault}
use Rattle.std.specs.HashMap.{HashMap, get}
use Rattle.x86_64_mappings.specs.declared.summaries.summary.Summary.{Summary}
use Rattle.x86_64_mappings.specs.declared.summaries.query.Query.{Query}
use Rattle.x86_64_mappings.specs.Summaries.{summary_of}
use Rattle.x86_64_mappings.specs.Wanted.{Asked, Asking, asked_mappings}

-- Summaries of tables of one level, by the addresses of their frames.
abbrev pub Level : Type 0
Level = HashMap ℕ Summary (BuildHasherDefault FoldHasher)

-- Each summary is that of the mappings that a query asks for below its frame's table, taken as the root of a hierarchy of `level`
-- levels.
abbrev pub IsLevel : Asked → (level : ℕ) → Level → Type 0
IsLevel asked level m = (frame : ℕ) → IfSome (get nat_eq m frame) (λ s. s ≡ summary_of (asked_mappings asked level frame))

-- Each summary in a list of levels, from level one on, is that of the mappings that a query asks for below its frame's table.
abbrev pub AreLevels : Asked → List Level → Type 0
AreLevels asked levels = (i : ℕ) → IfSome (slice_get levels i) (IsLevel asked (i + 1))

-- The memory, the mapping of frames to places, and the wanted physical address of a query.
abbrev pub asking : {T P : Type 0} → Query T P → Asking T P
asking q = record { memory = q.memory.now; mapping = q.mapping.now; wanted = q.wanted }
