-- The exit code of the program.
use Rattle.std.specs.Prelude.{◌≡◌, ◌⊎◌, ℕ, List, Option}
use Rattle.std.specs.Process.{exit_status}
use Rattle.std.specs.declared.process.ExitCode.{ExitCode}
use Rattle.pagetab_engine.specs.Ending.{status_of}
use Rattle.pagetab_engine.specs.Program.{Runs}
use Rattle.pagetab_engine.specs.declared.ending.Ending.{Ending}
use Rattle.pagetab_engine.specs.declared.ending.Ending.TheVariants.{Done, Stopped}
use Rattle.pagetab_engine.specs.declared.ending.Fault.TheVariants.{Output}

-- The exit code is that of the ending. If the text of a fault can't be written, it may be that of a failed write.
abbrev pub Reports : Ending → ExitCode → Type 0
Reports Done code = exit_status code ≡ status_of Done
Reports (Stopped fault) code = (exit_status code ≡ status_of (Stopped fault)) ⊎ (exit_status code ≡ status_of (Stopped Output))

-- The exit code reports a run on these arguments, with some input.
abbrev pub EndsRun : (words : List (List ℕ)) → ExitCode → Type 0
EndsRun words code = (input : List ℕ) × (before after : Option (List ℕ)) × (ending : Ending) × Runs words input before after ending × Reports ending code
