-- Failures: the exit statuses of runs that fail.
use Rattle.std.specs.Prelude.{ℕ}
use Rattle.x86_64_dump.specs.declared.error.DumpError.{DumpError}
use Rattle.x86_64_dump.specs.declared.error.DumpError.TheVariants as dump
use Rattle.x86_64_dump.specs.declared.error.Fault.TheVariants.{PlacementGiven, RangeEmpty, RangeOutside, RangeTooHigh}
use Rattle.ptdump_engine.specs.declared.failure.Failure.{Failure}
use Rattle.ptdump_engine.specs.declared.failure.Failure.TheVariants as failures

-- The exit status of a run that fails: 2 for the request, 3 for the file, 4 for memory allocation, and 5 for a failed write.
abbrev pub failure_status : Failure → ℕ
failure_status failures.NoCr3 = 2
failure_status failures.VirtualBox = 2
failure_status (failures.NoProcessor cpu count) = 2
failure_status failures.NoProcessors = 2
failure_status (failures.WrongMode cpu mode) = 2
failure_status (failures.NotCanonical address levels) = 2
failure_status (failures.NotPhysical address) = 2
failure_status (failures.Dump PlacementGiven) = 2
failure_status (failures.Dump (RangeEmpty offset address)) = 2
failure_status (failures.Dump (RangeOutside offset size length)) = 2
failure_status (failures.Dump (RangeTooHigh address size)) = 2
failure_status (failures.FromAboveTo from to) = 2
failure_status (failures.DirectMapReversed first last) = 2
failure_status (failures.Dump fault) = 3
failure_status (failures.NoRoot root) = 3
failure_status (failures.Read error) = 3
failure_status failures.OutOfMemory = 4
failure_status failures.Output = 5

-- The failure of a run for an error that occurred while the dump was read.
abbrev pub failure_of : DumpError → Failure
failure_of dump.OutOfMemory = failures.OutOfMemory
failure_of (dump.Read cause) = failures.Read cause
failure_of (dump.Fault fault) = failures.Dump fault
