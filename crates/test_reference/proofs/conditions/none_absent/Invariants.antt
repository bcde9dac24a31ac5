use Rattle.std.proofs.Common.{◌≡◌}
use Rattle.x86_64_model.specs.Path.{parents}
use Rattle.test_reference.specs.Fronts.{first_present}
use Rattle.test_reference.proofs.Parents.{rest}
use Rattle.test_reference.proofs.conditions.none_absent.Given as goal

abbrev pub invariant-loop-length : goal.invariant-loop-length
invariant-loop-length l = first_present l.paths (rest l.path l.length) ≡ first_present l.paths (parents l.path)
