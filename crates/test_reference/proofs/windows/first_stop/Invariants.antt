use Rattle.std.proofs.Common.{◌≡◌}
use Rattle.x86_64_model.specs.Window.{entry_at as entry_at_of}
use Rattle.x86_64_model.specs.Refusal.{first_stop as first_stop_of}
use Rattle.test_reference.specs.Windows.{window_of}
use Rattle.test_reference.proofs.Parents.{stop, rest}
use Rattle.test_reference.proofs.windows.first_stop.Given as goal

abbrev pub invariant-loop-length : goal.invariant-loop-length
invariant-loop-length l = stop (entry_at_of (window_of l.window) l.paths) (rest l.path l.length) ≡ first_stop_of (entry_at_of (window_of l.window) l.paths) l.path
