use Rattle.std.proofs.Common.{◌≡◌, ◌&&◌}
use Rattle.std.specs.List.{list_any}
use Rattle.x86_64_model.specs.Entry.{used, huge}
use Rattle.x86_64_model.specs.Path.{parents}
use Rattle.x86_64_model.specs.PathMap.{entry}
use Rattle.test_reference.proofs.Parents.{rest}
use Rattle.test_reference.proofs.maps.has_huge_parent.Given as goal

abbrev pub invariant-loop-length : goal.invariant-loop-length
invariant-loop-length l = list_any (λ p. used (entry l.paths p) && huge (entry l.paths p)) (rest l.path l.length) ≡ list_any (λ p. used (entry l.paths p) && huge (entry l.paths p)) (parents l.path)
