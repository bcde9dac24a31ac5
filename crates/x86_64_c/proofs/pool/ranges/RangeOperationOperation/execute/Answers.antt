use Rattle.std.proofs.Common.{◌≡◌, ◌∙◌, true, false, length, refl}
use Rattle.std.proofs.lemmas.Result.{err_from_is_err_and}
use Rattle.x86_64_c.specs.Arguments.{wrong_ends}
use Rattle.x86_64_c.proofs.ArgumentsGiven.{with_room}
use Rattle.x86_64_c.proofs.pool.ranges.RangeOperationOperation.execute.Goals as goal

pub returns-in_err-range_at-clause-bad : goal.returns-in_err-range_at-clause-bad
returns-in_err-range_at-clause-bad g c =
    let e = err_from_is_err_and c.from_residual.result c.from_residual.ensures.1 in
    rw e.1 (with_room _ _ _ c.if-array-self.false ∙ rw (c.in_err-range_at.ensures.bad, e.2) refl)

pub with_pool-requires : goal.with_pool-requires
with_pool-requires g c =
    let new = c.args.self.now in
    let room = with_room new.free_count (length c.args.array.now) (wrong_ends g.L.LevelCount.LEVELS new.first new.last) c.if-array-self.false in
    record {
      in_array = c.if-array-self.false;
      fits = c.requires.may (room ∙ c.in_ok-range_at.ensures.good);
      root = λ is. absurd (let z : false ≡ true = is in cc);
    }

pub returns : goal.returns
returns g c =
    let new = c.args.self.now in
    record {
      bad = tt;
      unchanged = tt;
      good = with_room new.free_count (length c.args.array.now) (wrong_ends g.L.LevelCount.LEVELS new.first new.last) c.if-array-self.false
          ∙ c.in_ok-range_at.ensures.good;
      does = rw (c.in_ok-range_at.ensures.first, c.in_ok-range_at.ensures.last) at c.with_pool.ensures.does;
      lent = c.with_pool.ensures.lent;
    }
