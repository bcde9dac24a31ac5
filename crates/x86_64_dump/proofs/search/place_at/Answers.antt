use Rattle.std.proofs.Common.{◌≡◌, ◌-◌, true, false, None, leb, sym, arith, rules}
use Rattle.std.proofs.lemmas.List.Sorted.{IsPartitionPoint-from_clause, IsPartitionedBy-leb}
use Rattle.std.specs.List.Sorted.{IsPartitionPoint}
use Rattle.x86_64_dump.proofs.Stretches.{none_begins, last_begins}
use Rattle.x86_64_dump.proofs.search.place_at.Goals as goal
use Rattle.x86_64_dump.proofs.search.place_at.Goals.{After-partition_point-count}

-- the stretches up to the count are those that begin at the address or before it
point : (c : After-partition_point-count) → IsPartitionPoint (λ s. leb s.from c.args.address ≡ true) (λ s. leb s.from c.args.address ≡ false) c.args.stretches.now c.partition_point-count.result
point c =
    let parted = IsPartitionedBy-leb (λ s. s.from) c.args.stretches.now c.args.address c.requires in
    IsPartitionPoint-from_clause (λ s. leb s.from c.args.address) _ _ c.partition_point-count.ensures.partitioned parted (λ a r q k. search rules)

pub returns-then-count-eq0 : goal.returns-then-count-eq0
returns-then-count-eq0 c =
    let at = point (goal.at.returns-then-count-eq0 c).After-partition_point-count in
    sym (none_begins c.args.address None c.args.stretches.now (λ i d below. at.1 i d (omega (arith, c.if-count-eq0.true)) below))

pub returns : goal.returns
returns c =
    let at = point (goal.at.returns c).After-partition_point-count in
    sym (last_begins c.args.address None c.args.stretches.now (c.partition_point-count.result - 1) _ (omega (arith, c.partition_point-count.ensures.bound, c.if-count-eq0.false))
    (λ i d low. at.0 i d (omega arith) (omega (arith, c.if-count-eq0.false, low)))
    (λ i d low below. at.1 i d (omega (arith, low)) below))
