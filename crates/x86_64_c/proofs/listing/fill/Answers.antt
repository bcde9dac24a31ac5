use Rattle.std.proofs.Common.{length, map, ◌++◌, drop, slice_set, sym, ap, ◌∙◌, arith}
use native.Mathlib.Numerals.{unary_clauses}
use Rattle.x86_64_mappings.proofs.Filling.{ended, all_taken, none_left, more_within, more_left, more_filled}
use Rattle.x86_64_c.specs.Listing.{mapping_written}
use Rattle.x86_64_c.proofs.listing.fill.Goals as goal

pub returns-in-None-clause-count : goal.returns-in-None-clause-count
returns-in-None-clause-count g c =
    let all = c.args.coming.now in let none = sym c.loop-n.invariant.1 ∙ c.in-None.ensures.steps.0 in
    sym (ended all c.loop-n.n c.loop-n.invariant.0 none) ∙ sym (ap length (all_taken all c.loop-n.n _ c.loop-n.invariant.0 (omega (arith, c.loop-n-test.true)) none))

pub returns-in-None-clause-rest : goal.returns-in-None-clause-rest
returns-in-None-clause-rest g c =
    let all = c.args.coming.now in let none = sym c.loop-n.invariant.1 ∙ c.in-None.ensures.steps.0 in
    c.in-None.ensures.steps.1 ∙ sym (none_left all c.loop-n.n _ c.loop-n.invariant.0 (omega (arith, c.loop-n-test.true)) none)

pub returns-in-None-clause-array : goal.returns-in-None-clause-array
returns-in-None-clause-array g c =
    let all = c.args.coming.now in let none = sym c.loop-n.invariant.1 ∙ c.in-None.ensures.steps.0 in
    c.loop-n.invariant.2 ∙ ap (λ items. map (mapping_written g.L.LevelCount.LEVELS) items ++ drop c.loop-n.n c.args.mappings.now)
    (all_taken all c.loop-n.n c.loop-n.n c.loop-n.invariant.0 (omega arith) none ∙ sym (all_taken all c.loop-n.n _ c.loop-n.invariant.0 (omega (arith, c.loop-n-test.true)) none))

pub loop-n-preserved : goal.loop-n-preserved
loop-n-preserved g c =
    let all = c.args.coming.now in let is = sym c.loop-n.invariant.1 ∙ c.in-Some.ensures.steps in (
      more_within all c.loop-n.n _ _ is,
      simp unary_clauses (more_left all c.loop-n.n _ _ is),
      simp unary_clauses (ap (λ ms. slice_set ms c.loop-n.n c.of.result) c.loop-n.invariant.2 ∙ ap (slice_set _ c.loop-n.n) c.of.ensures
          ∙ more_filled (mapping_written g.L.LevelCount.LEVELS) all c.args.mappings.now c.loop-n.n _ _ is (omega (arith, c.loop-n-test.true))),
    )
