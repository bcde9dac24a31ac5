use Rattle.std.proofs.Common.{◌∙◌, refl, sym}
use Rattle.std.proofs.lemmas.Result.{err_from_is_err_and}
use Rattle.x86_64_c.proofs.changes.OnPageOperation.execute.Goals as goal
use Rattle.x86_64_c.proofs.changes.OnPageOperation.execute.Goals.{in-Of4KiB, in-Of2MiB, in-Of1GiB}

pub returns-in_err-page-clause-bad : goal.returns-in_err-page-clause-bad
returns-in_err-page-clause-bad g c =
    let e = err_from_is_err_and c.from_residual.result c.from_residual.ensures.1 in
    let asked = rw c.LEVELS.ensures at c.wrong_with.ensures in
    rw (e.1, ← asked, c.in_default.is, c.in_err-page.ensures.bad, e.2) refl

pub returns-clause-good : goal.returns-clause-good
returns-clause-good g c =
    let right = rw c.LEVELS.ensures at (sym c.wrong_with.ensures ∙ c.in_default.is) in
    rw right c.in_ok-page.ensures.good

pub returns-clause-does : goal.returns-clause-does
returns-clause-does g c =
    elim c.match-page.branch [
      | in-Of4KiB w ↦ let is = rw w.in-Of4KiB.is at c.in_ok-page.ensures.page in rw (w.memory-is, w.result-is, sym is.level_is, sym is.position_is)
          w.make.ensures.makes
      | in-Of2MiB w ↦ let is = rw w.in-Of2MiB.is at c.in_ok-page.ensures.page in rw (w.memory-is, w.result-is, sym is.level_is, sym is.position_is)
          w.make-in-Of2MiB.ensures.makes
      | in-Of1GiB w ↦ let is = rw w.in-Of1GiB.is at c.in_ok-page.ensures.page in rw (w.memory-is, w.result-is, sym is.level_is, sym is.position_is)
          w.make-in-Of1GiB.ensures.makes
    ]

pub returns-clause-lent : goal.returns-clause-lent
returns-clause-lent g c =
    elim c.match-page.branch [
      | in-Of4KiB w ↦ rw w.memory-is w.make.ensures.lent
      | in-Of2MiB w ↦ rw w.memory-is w.make-in-Of2MiB.ensures.lent
      | in-Of1GiB w ↦ rw w.memory-is w.make-in-Of1GiB.ensures.lent
    ]

pub make-requires : goal.make-requires
make-requires g c =
    let right = rw c.LEVELS.ensures at (sym c.wrong_with.ensures ∙ c.in_default.is) in
    record { good = right; valid = c.requires.may (rw right c.in_ok-page.ensures.good) }

pub make-requires-in-Of2MiB : goal.make-requires-in-Of2MiB
make-requires-in-Of2MiB g c =
    let right = rw c.LEVELS.ensures at (sym c.wrong_with.ensures ∙ c.in_default.is) in
    record { good = right; valid = c.requires.may (rw right c.in_ok-page.ensures.good) }

pub make-requires-in-Of1GiB : goal.make-requires-in-Of1GiB
make-requires-in-Of1GiB g c =
    let right = rw c.LEVELS.ensures at (sym c.wrong_with.ensures ∙ c.in_default.is) in
    record { good = right; valid = c.requires.may (rw right c.in_ok-page.ensures.good) }
