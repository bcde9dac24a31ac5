use Rattle.std.proofs.Common.{◌≡◌, ◌+◌, length, sum_by}
use Rattle.ptdump_engine.proofs.totals.count_mappings.Given as goal

-- what is counted and what is still to come are all
abbrev pub invariant-loop-mapping : goal.invariant-loop-mapping
invariant-loop-mapping g l =
    (l.count + length l.mapping-iterator ≡ length l.initial.mapping-iterator)
    × (l.bytes + sum_by (λ m. m.size) l.mapping-iterator ≡ sum_by (λ m. m.size) l.initial.mapping-iterator)
