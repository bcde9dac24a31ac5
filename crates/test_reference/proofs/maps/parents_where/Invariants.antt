use Rattle.std.proofs.Common.{◌≡◌, ◌++◌, filter}
use Rattle.x86_64_model.specs.Path.{parents}
use Rattle.test_reference.specs.Fronts.{fronts, is_wanted_front}
use Rattle.test_reference.proofs.Parents.{rest}
use Rattle.test_reference.proofs.maps.parents_where.Given as goal

abbrev pub invariant-loop-length : goal.invariant-loop-length
invariant-loop-length l = fronts l.path l.lengths.items ++ filter (is_wanted_front l.paths l.used) (rest l.path l.length) ≡ filter (is_wanted_front l.paths l.used) (parents l.path)
