use Rattle.std.proofs.Common.{◌≡◌, ◌+◌, drop}
use Rattle.ptdump_engine.specs.private.Alike.{alike}
use Rattle.ptdump_engine.proofs.check.tables.count_alike.Given as goal

-- what is counted, and what is still to come
abbrev pub invariant-loop-name : goal.invariant-loop-name
invariant-loop-name l = (l.count ≡ l.name-index) × (l.count + alike (λ name. name.frame) l.frame (drop l.name-index l.names) ≡ alike (λ name. name.frame) l.frame l.names)
