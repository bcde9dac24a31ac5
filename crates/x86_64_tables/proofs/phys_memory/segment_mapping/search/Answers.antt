use Rattle.std.proofs.Common.{◌≡◌, ◌-◌, ◌<◌, true, false, leb, length, sym, ap, ◌∙◌, arith, rules}
use Rattle.std.specs.Option.{option_map}
use Rattle.std.proofs.lemmas.List.Sorted.{IsPartitionPoint-from_clause, IsPartitionedBy-leb}
use Rattle.std.specs.List.Sorted.{IsPartitionPoint}
use Rattle.x86_64_tables.specs.FrameSegments.{place_in}
use Rattle.x86_64_tables.proofs.SegmentsInOrder.{begin_in_order, end_below_limit, none_has, last_has}
use Rattle.x86_64_tables.proofs.phys_memory.segment_mapping.search.Goals as goal
use Rattle.x86_64_tables.proofs.phys_memory.segment_mapping.search.Goals.{After-partition_point-count}

-- the segments up to the count are those that don't begin after the frame
point : (c : After-partition_point-count) → IsPartitionPoint (λ s. leb s.first c.args.number ≡ true) (λ s. leb s.first c.args.number ≡ false) c.args.segments.now c.partition_point-count.result
point c =
    let parted = IsPartitionedBy-leb (λ s. s.first) c.args.segments.now c.args.number (begin_in_order c.args.segments.now c.requires) in
    IsPartitionPoint-from_clause (λ s. leb s.first c.args.number) _ _ c.partition_point-count.ensures.partitioned parted (λ a r q k. search rules)

pub returns-then-count-eq0 : goal.returns-then-count-eq0
returns-then-count-eq0 c =
    let at = point (goal.at.returns-then-count-eq0 c).After-partition_point-count in
    sym (ap (option_map (place_in c.args.number)) (none_has c.args.number c.args.segments.now (λ i d below. at.1 i d (omega (arith, c.if-count-eq0.true)) below)))

pub place_of-requires : goal.place_of-requires
place_of-requires c =
    end_below_limit c.args.segments.now (c.partition_point-count.result - 1) _ c.requires (omega (arith, c.partition_point-count.ensures.bound, c.if-count-eq0.false))

pub returns : goal.returns
returns c =
    let at = point (goal.at.returns c).After-partition_point-count in
    let within : c.partition_point-count.result - 1 < length c.args.segments.now = omega (arith, c.partition_point-count.ensures.bound, c.if-count-eq0.false) in
    c.place_of.ensures
    ∙ sym (last_has c.args.number c.args.segments.now (c.partition_point-count.result - 1) _ c.requires within
    (at.0 (c.partition_point-count.result - 1) _ (omega arith) (omega (arith, c.if-count-eq0.false)))
    (λ i d low below. at.1 i d (omega (arith, low)) below))
