-- The exit status of the program.
use Rattle.std.specs.Borrow.{Bor}
use Rattle.std.specs.Prelude.{ℕ, Bool, true, false, List, Result, Ok, Err, if◌then◌else◌}
use Rattle.clap.specs.declared.error.Error.{Error}
use Rattle.clap.specs.declared.error.kind.ErrorKind.{ErrorKind}
use Rattle.clap.specs.declared.error.kind.ErrorKind.TheVariants as kind
use Rattle.ptdump_engine.specs.Failure.{failure_status}
use Rattle.ptdump_engine.specs.declared.failure.Failure.{Failure}
use Rattle.ptdump_engine.specs.declared.failure.Failure.TheVariants as failures
use Rattle.ptdump_engine.specs.declared.request.Outcome.{Outcome}
use Rattle.ptdump.specs.declared.stop.Stop.{Stop}
use Rattle.ptdump.specs.declared.stop.Stop.TheVariants.{Help, Usage, NoText, NoCommand, NoAddress, NoNumber, NoLevels, NoRange, BaseAndRanges, NoAccess, NoSetting, NoPhysicalBits, NoDirectMap, NoRights, Unopened, NoLength, Unread, ReaderLeft, Failed}

-- The exit status for a reason to stop: 0 for help, 2 for the command line, 3 for the file, 5 if the reader of standard output
-- has left, and otherwise that of the run that failed.
abbrev pub stop_status : Stop → ℕ
stop_status (Help text) = 0
stop_status (Usage error) = 2
stop_status NoText = 2
stop_status (NoCommand name) = 2
stop_status (NoAddress text) = 2
stop_status (NoNumber option text) = 2
stop_status (NoLevels levels) = 2
stop_status (NoRange text) = 2
stop_status BaseAndRanges = 2
stop_status (NoAccess name) = 2
stop_status (NoSetting word) = 2
stop_status (NoPhysicalBits bits) = 2
stop_status (NoDirectMap text) = 2
stop_status (NoRights text) = 2
stop_status (Unopened path error) = 3
stop_status (NoLength path error) = 3
stop_status (Unread path error) = 3
stop_status ReaderLeft = 5
stop_status (Failed failure) = failure_status failure

-- The exit status of a run: 0 if its report is complete, 1 if there are findings, or an address doesn't arrive or isn't found,
-- and otherwise that of the reason to stop.
abbrev pub exit_status_of : Result Outcome Stop → ℕ
exit_status_of (Ok outcome) = if outcome.is_complete then 0 else 1
exit_status_of (Err stop) = stop_status stop

-- The reason to stop if the command line can't be parsed: memory allocation failed, help or the version is requested, or the
-- words are wrong.
abbrev pub stop_for : ErrorKind → Error → Stop
stop_for kind.OutOfMemory error = Failed failures.OutOfMemory
stop_for kind.DisplayHelp error = Help error
stop_for kind.DisplayVersion error = Help error
stop_for other error = Usage error

-- The reason to stop if a write failed, perhaps since the reader of standard output has left.
abbrev pub stop_of_output : (has_reader_left : Bool) → Stop
stop_of_output true = ReaderLeft
stop_of_output false = Failed failures.Output

-- The reason to stop if the run on the file at a path failed. A failed read is one of this file.
abbrev pub stop_of_run : (path : Bor (List ℕ)) → (has_reader_left : Bool) → Failure → Stop
stop_of_run path left (failures.Read error) = Unread path error
stop_of_run path left failures.Output = stop_of_output left
stop_of_run path left failure = Failed failure
