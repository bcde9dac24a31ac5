use Rattle.std.proofs.Common.{◌≡◌}
use Rattle.std.specs.List.{list_all}
use Rattle.x86_64_model.specs.Path.{parents}
use Rattle.x86_64_model.specs.CleanUp.{in_range}
use Rattle.test_reference.proofs.Parents.{rest}
use Rattle.test_reference.proofs.cleaning.CleanUpRange.has_parents.Given as goal

abbrev pub invariant-loop-length : goal.invariant-loop-length
invariant-loop-length l = list_all (in_range l.self.levels l.paths l.self.low l.self.high) (rest l.path l.length) ≡ list_all (in_range l.self.levels l.paths l.self.low l.self.high) (parents l.path)
