use Rattle.std.proofs.Common.{rules, ◌≡◌, ◌∙◌, ◌≤◌, ◌<◌, false, true, None, Some, get_or, length, nat_lt, sym, ap, subst, arith}
use Rattle.std.proofs.Math.Nat.{min-le_left, min-le_right}
use Rattle.std.proofs.lemmas.Bool.{ltb-false, ltb-true}
use Rattle.std.proofs.lemmas.List.{get_or_read}
use Rattle.std.proofs.lemmas.List.Sorted.{IsPartitionPoint-from_clause, IsPartitionedBy-ltb}
use Rattle.std.specs.Option.{option_or}
use Rattle.x86_64_mappings.specs.Wanted.{leads_to}
use Rattle.ptdump_check.specs.private.Reaching.{address_leading_to}
use Rattle.ptdump_check.proofs.Noted.{ended_early, ended_last, noted_here, noted_more, min_same, so_many, BeginsAt}
use Rattle.ptdump_check.proofs.reached.firsts.note.Goals as goal

pub returns-then-not-leads_to : goal.returns-then-not-leads_to
returns-then-not-leads_to g c = λ ms ascend is.
    let L = g.L.LevelCount.LEVELS in
    let frames = c.args.frames.now in
    let m = c.args.mapping.now in
    let begin = c.partition_point-begin.result in
    let i = c.loop-i.i in
    let point = IsPartitionPoint-from_clause (λ f. nat_lt f c.as_u64-start.result) frames begin c.partition_point-begin.ensures.partitioned
    (IsPartitionedBy-ltb (λ f. f) frames c.as_u64-start.result ascend) (λ a r f k. search rules) in
    let start : c.as_u64-start.result ≡ m.frame = search (rules, c.mapping.view_is) in
    let starts : BeginsAt frames m.frame begin = subst (λ s. BeginsAt frames s begin) start (record {
      low = λ j low. ltb-true (get_or frames j 0) c.as_u64-start.result (point.0 j 0 (omega arith) low);
      high = λ j from less. ltb-false (get_or frames j 0) c.as_u64-start.result (point.1 j 0 from less);
    }) in
    let least = min-le_left (length frames) (length c.args.firsts.now) in
    let within : i < length frames = omega (arith, c.loop-i-test.true, c.min-end.ensures, least) in
    let frame : c.index-frames-i.result ≡ get_or frames i 0 = get_or_read frames i c.index-frames-i.result within c.index-frames-i.is 0 in
    let none : leads_to (get_or frames i 0) m ≡ false = ap (λ f. leads_to f m) (sym frame) ∙ sym c.leads_to.ensures ∙ c.if-not-leads_to.true in
    ended_early L frames m begin i ms c.args.firsts.now c.loop-i.firsts starts is c.loop-i.invariant ascend c.loop-i.auto.i within none

pub loop-i-preserved : goal.loop-i-preserved
loop-i-preserved g c =
    let L = g.L.LevelCount.LEVELS in
    let frames = c.args.frames.now in
    let m = c.args.mapping.now in
    let i = c.loop-i.i in
    let old = c.args.firsts.now in
    let now = c.loop-i.firsts in
    let least = min-le_left (length frames) (length old) in
    let most = min-le_right (length frames) (length old) in
    let within : i < length frames = omega (arith, c.loop-i-test.true, c.min-end.ensures, least) in
    let here : i < length now = omega (arith, c.loop-i-test.true, c.min-end.ensures, most, c.loop-i.invariant.count) in
    let frame : c.index-frames-i.result ≡ get_or frames i 0 = get_or_read frames i c.index-frames-i.result within c.index-frames-i.is 0 in
    let leads : leads_to (get_or frames i 0) m ≡ true = ap (λ f. leads_to f m) (sym frame) ∙ sym c.leads_to.ensures ∙ c.if-not-leads_to.false in
    let again : c.index-frames-i-in-loop-i.result ≡ get_or frames i 0 = get_or_read frames i c.index-frames-i-in-loop-i.result within c.index-frames-i-in-loop-i.is 0 in
    let address : c.address_leading_to.result ≡ address_leading_to L (get_or frames i 0) m = c.address_leading_to.ensures ∙ ap (λ f. address_leading_to L f m) again in
    let value : c.or.result ≡ option_or (get_or now i None) (Some c.address_leading_to.result) = search rules in
    noted_more L frames m c.partition_point-begin.result i old now c.or.result c.loop-i.invariant c.loop-i.auto.i here
    (value ∙ (λ k. option_or (c.loop-i.invariant.after i (omega arith) k) (Some (address k))) ∙ noted_here L (get_or frames i 0) m (get_or old i None) leads)

pub returns : goal.returns
returns g c = λ ms ascend is.
    let L = g.L.LevelCount.LEVELS in
    let frames = c.args.frames.now in
    let m = c.args.mapping.now in
    let begin = c.partition_point-begin.result in
    let i = c.loop-i.i in
    let point = IsPartitionPoint-from_clause (λ f. nat_lt f c.as_u64-start.result) frames begin c.partition_point-begin.ensures.partitioned
    (IsPartitionedBy-ltb (λ f. f) frames c.as_u64-start.result ascend) (λ a r f k. search rules) in
    let start : c.as_u64-start.result ≡ m.frame = search (rules, c.mapping.view_is) in
    let starts : BeginsAt frames m.frame begin = subst (λ s. BeginsAt frames s begin) start (record {
      low = λ j low. ltb-true (get_or frames j 0) c.as_u64-start.result (point.0 j 0 (omega arith) low);
      high = λ j from less. ltb-false (get_or frames j 0) c.as_u64-start.result (point.1 j 0 from less);
    }) in
    let same : length c.args.firsts.now ≡ length frames = ap length is ∙ so_many L frames ms in
    let end = min_same (length frames) (length c.args.firsts.now) (sym same) in
    let all : length frames ≤ i = omega (arith, c.loop-i-test.false, c.min-end.ensures, end) in
    ended_last L frames m begin i ms c.args.firsts.now c.loop-i.firsts starts is c.loop-i.invariant all
