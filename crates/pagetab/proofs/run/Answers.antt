use Rattle.std.proofs.Common.{ℕ, List, Option}
use Rattle.pagetab.specs.Exit.{EndsRun, Reports}
use Rattle.pagetab.proofs.run.Goals as goal
use Rattle.pagetab_engine.specs.Program.{Runs}
use Rattle.pagetab_engine.specs.declared.ending.Ending.{Ending}
use Rattle.std.specs.declared.process.ExitCode.{ExitCode}

ends : (words : List (List ℕ)) (code : ExitCode) (input : List ℕ) {before after : Option (List ℕ)} (ending : Ending) → Runs words input before after ending → Reports ending code → EndsRun words code
ends words code input {before} {after} ending runs reports = (input, before, after, ending, runs, reports)

pub returns : goal.returns
returns c = let ran = c.run-ending.ensures in ends _ _ ran.0 c.run-ending.result ran.2 c.report.ensures
