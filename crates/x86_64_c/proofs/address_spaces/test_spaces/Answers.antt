use Rattle.std.proofs.Common.{◌≡◌, ◌≤◌, ◌<◌, ℕ, Some, None, sym, ap, ◌∙◌, length, refl, rules, arith}
use Rattle.std.specs.FinMap.{len}
use Rattle.std.proofs.lemmas.List.{length-take-le}
use Rattle.std.proofs.lemmas.Bool.{le-leb, lt-leb}
use Rattle.x86_64_c.specs.AddressSpaces.{wrong_indices, wrong_room}
use Rattle.x86_64_c.specs.PoolCalls.{Loan, loan}
use Rattle.x86_64_c.specs.Status as status
use Rattle.x86_64_c.proofs.ArgumentsGiven.{counted, kept}
use Rattle.x86_64_c.proofs.TogetherFit.{told}
use Rattle.x86_64_c.proofs.address_spaces.test_spaces.Goals as goal
use Rattle.x86_64_c.proofs.address_spaces.test_spaces.Goals.{then-pool-free_count-via-then-pool-free_count, then-pool-free_count-via-else-pool-free_count+then-marks-count}

-- with room for the free frames and the marks only the indices can be wrong
with_room : (from to : ℕ) (lent : Loan) (marks : ℕ) → lent.free ≤ length lent.array → length lent.tables ≤ marks
    → wrong_room from to lent marks ≡ wrong_indices from to
with_room from to lent marks free tables = rw (le-leb lent.free (length lent.array) free, le-leb (length lent.tables) marks tables) refl

-- without room for the free frames, or for the marks, the array is bad
few_places : (from to : ℕ) (lent : Loan) (marks : ℕ) → length lent.array < lent.free → wrong_room from to lent marks ≡ Some status.bad_array
few_places from to lent marks few = rw (lt-leb lent.free (length lent.array) few) refl

few_marks : (from to : ℕ) (lent : Loan) (marks : ℕ) → lent.free ≤ length lent.array → marks < length lent.tables → wrong_room from to lent marks
    ≡ Some status.bad_array
few_marks from to lent marks free few = rw (le-leb lent.free (length lent.array) free, lt-leb (length lent.tables) marks few) refl

pub returns-then-pool-free_count : goal.returns-then-pool-free_count
returns-then-pool-free_count g c =
    let lent = loan c.args.tables.now c.args.pool.now c.args.free_count in
    let marks = length c.args.marks.now in
    let wrong : wrong_room c.args.shared_from c.args.shared_to lent marks ≡ Some status.bad_array = elim c.then-pool-free_count.branch [
      | then-pool-free_count-via-then-pool-free_count w ↦ few_places c.args.shared_from c.args.shared_to lent marks
          (omega (arith, w.if-pool-free_count.true))
      | then-pool-free_count-via-else-pool-free_count+then-marks-count w ↦
          few_marks c.args.shared_from c.args.shared_to lent marks (omega (arith, w.if-pool-free_count.false)) (omega (arith, w.if-marks-count.true))
    ] in
    record {
      bad = λ why is. let same : Some status.bad_array ≡ Some why = sym wrong ∙ is in (cc, refl);
      fit = λ good. absurd (let z : None ≡ Some status.bad_array = sym good ∙ wrong in cc);
      tables = refl;
    }

pub returns-clause-bad : goal.returns-clause-bad
returns-clause-bad g c = λ status is.
    let lent = loan c.args.tables.now c.args.pool.now c.args.free_count in
    let room = with_room c.args.shared_from c.args.shared_to lent (length c.args.marks.now) (omega (arith, c.if-pool-free_count.false))
    (omega (arith, c.if-marks-count.false)) in
    let never : None ≡ Some status = sym c.in-Ok.ensures.good ∙ sym room ∙ is in
    absurd cc

pub fit-passed-requires-clause-marks : goal.fit-passed-requires-clause-marks
fit-passed-requires-clause-marks g c = length-take-le (length c.args.tables.now) c.args.marks.now (omega (arith, c.if-marks-count.false)) ∙ sym (ap len c.new-memory.ensures.tables ∙ counted c.args.tables.now)

pub returns-clause-fit : goal.returns-clause-fit
returns-clause-fit g c = λ good.
    told (g.P.PageTableFrameMapping.places c.args.mapping.now) c.args.levels c.args.shared_from c.args.shared_to c.args.roots.now (loan c.args.tables.now c.args.pool.now c.args.free_count) c.in-Ok.shared _ c.in-Ok.ensures.shared
    c.new-memory.ensures.tables c.fit-passed.result c.status_of_test.result c.status_of_test.ensures c.fit-passed.ensures

pub returns-in-Err : goal.returns-in-Err
returns-in-Err g c =
    let lent = loan c.args.tables.now c.args.pool.now c.args.free_count in
    let room = with_room c.args.shared_from c.args.shared_to lent (length c.args.marks.now) (omega (arith, c.if-pool-free_count.false))
    (omega (arith, c.if-marks-count.false)) in
    record {
      bad = λ status is. let same : Some c.in-Err.status ≡ Some status = sym c.in-Err.ensures.bad ∙ sym room ∙ is in (cc, refl);
      fit = λ good. absurd (let z : None ≡ Some c.in-Err.status = sym good ∙ room ∙ c.in-Err.ensures.bad in cc);
      tables = refl;
    }

pub returns-clause-tables : goal.returns-clause-tables
returns-clause-tables g c = kept _ _ (search rules)
