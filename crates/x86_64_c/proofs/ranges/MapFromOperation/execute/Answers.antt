use Rattle.std.proofs.Common.{◌≡◌, ◌≤◌, ◌∙◌, ℕ, length, Option, Some, None, Result, IfOk, IfErr, refl, sym, subst}
use Rattle.std.proofs.lemmas.Result.{err_from_is_err_and}
use Rattle.x86_64_c.specs.PoolCalls.{bad_pool}
use Rattle.x86_64_c.specs.Ranges.{bad_maps}
use Rattle.x86_64_c.proofs.ArgumentsGiven.{with_room}
use Rattle.x86_64_c.proofs.ranges.MapFromOperation.execute.Goals as goal

bad_told : {X : Type 0} (free capacity : ℕ) (other : Option ℕ) (result : Result X ℕ) → free ≤ capacity → IfErr result (λ status. other ≡ Some status)
    → IfErr result (λ status. bad_pool free capacity other ≡ Some status)
bad_told free capacity other result room = subst (λ wrong. IfErr result (λ status. wrong ≡ Some status)) (sym (with_room free capacity other room))

good_told : {X : Type 0} (free capacity : ℕ) (other : Option ℕ) (result : Result X ℕ) → free ≤ capacity → IfOk result (λ _. other ≡ None)
    → IfOk result (λ _. bad_pool free capacity other ≡ None)
good_told free capacity other result room = subst (λ wrong. IfOk result (λ _. wrong ≡ None)) (sym (with_room free capacity other room))

pub returns-in_err-page-clause-bad : goal.returns-in_err-page-clause-bad
returns-in_err-page-clause-bad g c =
    let e = err_from_is_err_and c.from_residual.result c.from_residual.ensures.1 in
    rw e.1 (with_room _ _ _ c.if-array-self.false ∙ rw (c.in_err-page.ensures.bad, e.2) refl)

pub map_from-requires-clause-fits : goal.map_from-requires-clause-fits
map_from-requires-clause-fits g c = λ right. c.requires.may (with_room _ _ _ c.if-array-self.false ∙ right)

pub map_from-requires-in-Of2MiB-clause-fits : goal.map_from-requires-in-Of2MiB-clause-fits
map_from-requires-in-Of2MiB-clause-fits g c = λ right. c.requires.may (with_room _ _ _ c.if-array-self.false ∙ right)

pub map_from-requires-in-Of1GiB-clause-fits : goal.map_from-requires-in-Of1GiB-clause-fits
map_from-requires-in-Of1GiB-clause-fits g c = λ right. c.requires.may (with_room _ _ _ c.if-array-self.false ∙ right)

pub returns-in-Of4KiB : goal.returns-in-Of4KiB
returns-in-Of4KiB g c =
    let map = c.args.self.now in
    let maps = bad_maps g.L.LevelCount.LEVELS map.request.now map.count in
    record {
      bad = bad_told map.free_count (length c.args.array.now) maps c.map_from.result c.if-array-self.false c.map_from.ensures.bad;
      unchanged = c.map_from.ensures.unchanged;
      good = good_told map.free_count (length c.args.array.now) maps c.map_from.result c.if-array-self.false c.map_from.ensures.good;
      does = c.map_from.ensures.does;
      lent = c.map_from.ensures.lent;
    }

pub returns-in-Of2MiB : goal.returns-in-Of2MiB
returns-in-Of2MiB g c =
    let map = c.args.self.now in
    let maps = bad_maps g.L.LevelCount.LEVELS map.request.now map.count in
    record {
      bad = bad_told map.free_count (length c.args.array.now) maps c.map_from-in-Of2MiB.result c.if-array-self.false c.map_from-in-Of2MiB.ensures.bad;
      unchanged = c.map_from-in-Of2MiB.ensures.unchanged;
      good = good_told map.free_count (length c.args.array.now) maps c.map_from-in-Of2MiB.result c.if-array-self.false
          c.map_from-in-Of2MiB.ensures.good;
      does = c.map_from-in-Of2MiB.ensures.does;
      lent = c.map_from-in-Of2MiB.ensures.lent;
    }

pub returns-in-Of1GiB : goal.returns-in-Of1GiB
returns-in-Of1GiB g c =
    let map = c.args.self.now in
    let maps = bad_maps g.L.LevelCount.LEVELS map.request.now map.count in
    record {
      bad = bad_told map.free_count (length c.args.array.now) maps c.map_from-in-Of1GiB.result c.if-array-self.false c.map_from-in-Of1GiB.ensures.bad;
      unchanged = c.map_from-in-Of1GiB.ensures.unchanged;
      good = good_told map.free_count (length c.args.array.now) maps c.map_from-in-Of1GiB.result c.if-array-self.false
          c.map_from-in-Of1GiB.ensures.good;
      does = c.map_from-in-Of1GiB.ensures.does;
      lent = c.map_from-in-Of1GiB.ensures.lent;
    }
