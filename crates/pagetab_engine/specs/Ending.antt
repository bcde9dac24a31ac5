-- Exit statuses.
use Rattle.std.specs.Prelude.{ℕ}
use Rattle.pagetab_engine.specs.declared.ending.Fault.TheVariants.{BadLine, InvalidHierarchy, OutOfMemory, Input, Output, Usage}
use Rattle.pagetab_engine.specs.declared.ending.Ending.{Ending}
use Rattle.pagetab_engine.specs.declared.ending.Ending.TheVariants.{Done, Stopped}

-- The exit status of an ending: 0 at the end of the input, and another one by the kind of fault, which is the same for reads and
-- writes.
abbrev pub status_of : Ending → ℕ
status_of Done = 0
status_of (Stopped (BadLine number)) = 1
status_of (Stopped InvalidHierarchy) = 2
status_of (Stopped OutOfMemory) = 3
status_of (Stopped Input) = 4
status_of (Stopped Output) = 4
status_of (Stopped Usage) = 5
