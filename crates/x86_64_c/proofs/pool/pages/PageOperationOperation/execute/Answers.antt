use Rattle.std.proofs.Common.{◌≡◌, ◌≤◌, ◌∙◌, ℕ, Option, None, length, refl, sym}
use Rattle.std.specs.Option.{option_or}
use Rattle.std.proofs.lemmas.Result.{err_from_is_err_and}
use Rattle.x86_64_c.specs.Arguments.{wrong_page}
use Rattle.x86_64_c.specs.PoolCalls.{bad_pool}
use Rattle.x86_64_c.proofs.ArgumentsGiven.{with_room}
use Rattle.x86_64_c.proofs.pool.pages.PageOperationOperation.execute.Goals as goal

-- with a right page, too, only what a step asks can be wrong
step_alone : (free capacity : ℕ) (page step : Option ℕ) → free ≤ capacity → page ≡ None → bad_pool free capacity (option_or page step) ≡ step
step_alone free capacity page step room right = with_room free capacity (option_or page step) room ∙ rw right refl

pub returns-in_err-page-clause-bad : goal.returns-in_err-page-clause-bad
returns-in_err-page-clause-bad g c =
    let e = err_from_is_err_and c.from_residual.result c.from_residual.ensures.1 in
    rw e.1 (with_room _ _ _ c.if-array-count.false ∙ rw (c.in_err-page.ensures.bad, e.2) refl)

pub take-requires-clause-fits : goal.take-requires-clause-fits
take-requires-clause-fits g c = λ right.
    let size = rw c.in-Of4KiB.is at c.in_ok-page.ensures.size in
    c.requires.may (with_room _ _ _ c.if-array-count.false ∙ rw (c.in_ok-page.ensures.good, size) right)

pub take-requires-in-Of2MiB-clause-fits : goal.take-requires-in-Of2MiB-clause-fits
take-requires-in-Of2MiB-clause-fits g c = λ right.
    let size = rw c.in-Of2MiB.is at c.in_ok-page.ensures.size in
    c.requires.may (with_room _ _ _ c.if-array-count.false ∙ rw (c.in_ok-page.ensures.good, size) right)

pub take-requires-in-Of1GiB-clause-fits : goal.take-requires-in-Of1GiB-clause-fits
take-requires-in-Of1GiB-clause-fits g c = λ right.
    let size = rw c.in-Of1GiB.is at c.in_ok-page.ensures.size in
    c.requires.may (with_room _ _ _ c.if-array-count.false ∙ rw (c.in_ok-page.ensures.good, size) right)

pub returns-in-Of4KiB : goal.returns-in-Of4KiB
returns-in-Of4KiB g c =
    let on = c.args.self.now in
    let size = rw c.in-Of4KiB.is at c.in_ok-page.ensures.size in
    let is = rw c.in-Of4KiB.is at c.in_ok-page.ensures.page in
    let wrong = step_alone on.free_count (length c.args.array.now) (wrong_page g.L.LevelCount.LEVELS on.page.now)
    (g.K.PageStep.wrong on.step on.page.now.size) c.if-array-count.false c.in_ok-page.ensures.good in
    record {
      bad = rw (wrong, size) c.take.ensures.bad;
      unchanged = c.take.ensures.unchanged;
      good = rw (wrong, size) c.take.ensures.good;
      does = rw (sym is.level_is, sym is.position_is) c.take.ensures.does;
      lent = c.take.ensures.lent;
    }

pub returns-in-Of2MiB : goal.returns-in-Of2MiB
returns-in-Of2MiB g c =
    let on = c.args.self.now in
    let size = rw c.in-Of2MiB.is at c.in_ok-page.ensures.size in
    let is = rw c.in-Of2MiB.is at c.in_ok-page.ensures.page in
    let wrong = step_alone on.free_count (length c.args.array.now) (wrong_page g.L.LevelCount.LEVELS on.page.now)
    (g.K.PageStep.wrong on.step on.page.now.size) c.if-array-count.false c.in_ok-page.ensures.good in
    record {
      bad = rw (wrong, size) c.take-in-Of2MiB.ensures.bad;
      unchanged = c.take-in-Of2MiB.ensures.unchanged;
      good = rw (wrong, size) c.take-in-Of2MiB.ensures.good;
      does = rw (sym is.level_is, sym is.position_is) c.take-in-Of2MiB.ensures.does;
      lent = c.take-in-Of2MiB.ensures.lent;
    }

pub returns-in-Of1GiB : goal.returns-in-Of1GiB
returns-in-Of1GiB g c =
    let on = c.args.self.now in
    let size = rw c.in-Of1GiB.is at c.in_ok-page.ensures.size in
    let is = rw c.in-Of1GiB.is at c.in_ok-page.ensures.page in
    let wrong = step_alone on.free_count (length c.args.array.now) (wrong_page g.L.LevelCount.LEVELS on.page.now)
    (g.K.PageStep.wrong on.step on.page.now.size) c.if-array-count.false c.in_ok-page.ensures.good in
    record {
      bad = rw (wrong, size) c.take-in-Of1GiB.ensures.bad;
      unchanged = c.take-in-Of1GiB.ensures.unchanged;
      good = rw (wrong, size) c.take-in-Of1GiB.ensures.good;
      does = rw (sym is.level_is, sym is.position_is) c.take-in-Of1GiB.ensures.does;
      lent = c.take-in-Of1GiB.ensures.lent;
    }
