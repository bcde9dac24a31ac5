use Rattle.std.proofs.Common.{◌≡◌, ◌<◌, ◌≤◌, ◌+◌, ◌-◌, ◌*◌, ◌++◌, true, false, length, get_or, take, drop, sym, ap, ◌∙◌, subst, subst₂, arith, append-nil}
use Rattle.std.proofs.Math.Seq.{take-add}
use Rattle.std.proofs.lemmas.List.{get_or-drop, get_or_read, length-drop, length-take-le, take_all, take_rest}
use Rattle.std.specs.List.{prefix_len}
use Rattle.x86_64_model.specs.Entry.{present}
use Rattle.x86_64_model.specs.Mappings.{granted}
use Rattle.x86_64_model.specs.Position.{position_count}
use Rattle.x86_64_mappings.specs.private.Joined.{Joins, region_between}
use Rattle.x86_64_mappings.specs.private.Runs.{has_page_bits}
use Rattle.x86_64_mappings.specs.private.Targets.{asked_on}
use Rattle.x86_64_mappings.proofs.Joined.{joins_none, joins_both, joins_region, joins_whole}
use Rattle.x86_64_mappings.proofs.Runs.{AreAlike, run_some, run_within, run_alike, run_whole, run_nothing}
use Rattle.x86_64_mappings.proofs.Spans.{span_in_half, within_half}
use Rattle.x86_64_mappings.proofs.Tables.{on-append}
use Rattle.x86_64_mappings.proofs.summaries.regions.join_small_pages.Goals as goal
use Rattle.x86_64_mappings.proofs.summaries.regions.join_small_pages.Goals.{then-has_flag+in_ok-visit_joined, else-has_flag}

pub loop-index-init : goal.loop-index-init
loop-index-init g c = record {
  within = omega arith;
  joined = λ asked every. joins_none g.V.Visitor.Visits g.L.LevelCount.LEVELS g.met.V.Visitor.none _ _;
}

pub overflow_mul-size : goal.overflow_mul-size
overflow_mul-size g c =
    let within = run_within c.args.entries.now c.loop-index.index _ c.run_length-run.result c.loop-index-test.true c.run_length-run.ensures in
    omega (arith, within, c.requires.size)

pub region_from-region-requires-clause-inside : goal.region_from-region-requires-clause-inside
region_from-region-requires-clause-inside g c =
    let within = run_within c.args.entries.now c.loop-index.index _ c.run_length-run.result c.loop-index-test.true c.run_length-run.ensures in
    omega (arith, within, c.requires.size, c.requires.inside)

pub overflow_add-index : goal.overflow_add-index
overflow_add-index g c =
    let within = run_within c.args.entries.now c.loop-index.index _ c.run_length-run.result c.loop-index-test.true c.run_length-run.ensures in
    omega (arith, within, c.requires.size)

pub loop-index-preserved : goal.loop-index-preserved
loop-index-preserved g c =
    let L = g.L.LevelCount.LEVELS in
    let visits = g.V.Visitor.Visits in
    let words = c.args.entries.now in
    let s = c.args.start in
    let r = c.args.above in
    let i = c.loop-index.index in
    let n = c.run_length-run.result in
    let rest = drop i words in
    let run = take n rest in
    let e = c.index-entries-index.result in
    let a = s + i * 4096 in
    let b = a + n * 4096 in
    let less : i < length words = c.loop-index-test.true in
    let entry : e ≡ get_or words i 0 = get_or_read words i e less c.index-entries-index.is 0 in
    let held = c.args.joiner.now in
    let old = c.args.visitor.now in
    let left : length rest ≡ length words - i = length-drop i words in
    let past = take_rest words i in
    let first : get_or rest 0 0 ≡ e = get_or-drop i words 0 0 ∙ ap (λ k. get_or words k 0) (let z : i + 0 ≡ i = omega arith in z) ∙ sym entry in
    let found : n ≡ prefix_len (has_page_bits (get_or rest 0 0)) rest = c.run_length-run.ensures ∙ ap (λ rest. prefix_len (has_page_bits (get_or rest 0 0)) rest) past in
    let some = run_some rest (omega (arith, left, less)) in
    let within : i + n ≤ length words = run_within words i _ n less c.run_length-run.ensures in
    let many : length run ≡ n = length-take-le n rest (omega (arith, within, left)) in
    let alike : AreAlike e run = subst (λ n. AreAlike e (take n rest)) (sym (found ∙ ap (λ e. prefix_len (has_page_bits e) rest) first)) (run_alike e rest) in
    let inside : i + n ≤ 512 = omega (arith, within, c.requires.size) in
    record {
      within = omega (arith, inside);
      joined = λ asked every.
          let front = asked_on asked 1 s r (take i words) in
          let back = asked_on asked 1 a r run in
          let more : asked_on asked 1 s r (take (i + n) words) ≡ front ++ back =
          ap (asked_on asked 1 s r) (take-add i n words) ∙ on-append asked 1 s r (take i words) run
          ∙ ap (λ k. front ++ asked_on asked 1 (s + k * 4096) r run) (length-take-le i words (omega (arith, less))) in
          elim c.if-has_flag.branch [
            | then-has_flag+in_ok-visit_joined w ↦
                let after = w.join.new.self in
                let visited = w.visit_joined.new.visitor in
                let region = w.region_from-region.result in
                let there : present e ≡ true = sym c.has_flag.ensures ∙ w.if-has_flag.true in
                let half = within_half L s (s + position_count 1) a b (omega arith) (omega (arith, inside)) (span_in_half L 1 s (let l = g.L.LevelCount.at_least_four in omega (arith, l)) c.requires.aligned) in
                subst₂ (λ h v. Joins visits L (asked_on asked 1 s r (take (i + n) words)) held old h v) (sym w.joiner-is) (sym w.visitor-is)
                (subst (λ ms. Joins visits L ms held old after visited) (sym more)
                (joins_both visits L g.met.V.Visitor.both front back held c.loop-index.joiner after old c.loop-index.visitor visited (c.loop-index.invariant.joined asked every)
                (joins_whole visits L a b (granted r e) back (omega (arith, some, found)) (run_whole asked a b r e run every there alike (omega (arith, many))) half
                region (w.region_from-region.ensures ∙ ap (region_between a b) w.below.ensures) _ _ _ _
                (joins_region visits L region _ w.join.result _ _ _ w.join.ensures.given w.join.ensures.held w.in_ok-visit_joined.ensures))))
            | else-has_flag w ↦
                let absent : present e ≡ false = sym c.has_flag.ensures ∙ w.if-has_flag.false in
                subst₂ (λ h v. Joins visits L (asked_on asked 1 s r (take (i + n) words)) held old h v) (sym w.joiner-is) (sym w.visitor-is)
                (subst (λ ms. Joins visits L ms held old c.loop-index.joiner c.loop-index.visitor)
                (sym (append-nil front) ∙ ap (λ ms. front ++ ms) (sym (run_nothing asked a r e run absent alike)) ∙ sym more)
                (c.loop-index.invariant.joined asked every))
          ];
    }

pub returns : goal.returns
returns g c asked every =
    subst (λ ms. Joins g.V.Visitor.Visits g.L.LevelCount.LEVELS ms c.args.joiner.now c.args.visitor.now c.loop-index.joiner c.loop-index.visitor)
    (ap (asked_on asked 1 c.args.start c.args.above) (take_all c.loop-index.index c.args.entries.now c.loop-index-test.false))
    (c.loop-index.invariant.joined asked every)
