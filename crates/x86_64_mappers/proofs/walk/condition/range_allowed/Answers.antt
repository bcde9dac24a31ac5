use Rattle.std.proofs.Common.{◌≡◌, ◌<◌, ◌+◌, ◌-◌, ◌*◌, ◌%◌, ◌↔◌, ◌∙◌, ℕ, Bool, true, false, cond, nat_lt, Some, None, IsTrue, ap, sym, subst, rules}
use Rattle.x86_64_model.specs.Position.{position_count, span}
use Rattle.x86_64_mappers.specs.private.MapConditions.{AreOutside}
use Rattle.x86_64_mappers.proofs.Way.PageRanges.{range_from, outside_from}
use Rattle.x86_64_mappers.proofs.walk.condition.range_allowed.Goals as goal

-- a step that leads to a page leads there
steps_up : (b : Bool) (x y : ℕ) → Some y ≡ cond b (Some x) None → y ≡ x
steps_up true x y is = cc
steps_up false x y is = cc

pub returns-in-Some : goal.returns-in-Some
returns-in-Some g c =
    let s = c.args.mapper.now in
    let h = g.M.Tables.hierarchy s in
    let level = g.S.PageSize.LEVEL in
    let page = c.args.page in
    let count = c.args.count in
    let some : 0 < count = search rules in
    let aligned : page % g.S.PageSize.SIZE ≡ 0 = search rules in
    let multiple : page % span level ≡ 0 = ap (λ z. page % z) (sym g.S.PageSize.size) ∙ aligned in
    let end = steps_up (nat_lt (page + (count - 1) * g.S.PageSize.SIZE) (position_count g.L.LevelCount.LEVELS)) (page + (count - 1) * g.S.PageSize.SIZE) c.in-Some.last c.in-Some.ensures in
    let last : c.in-Some.last ≡ page + (count - 1) * span level = end ∙ ap (λ z. page + (count - 1) * z) g.S.PageSize.size in
    let below : c.in-Some.last < position_count g.L.LevelCount.LEVELS = search rules in
    let there : page + (count - 1) * span level < position_count h.layout.levels = rw (sym last, g.met.M.TablesIn.level_count s) below in
    let tests = subst (λ e. IsTrue c.are_outside_window.result ↔ AreOutside h level page e) last c.are_outside_window.ensures in (
      λ test. range_from h level page multiple count some there (tests.0 test),
      λ range. tests.1 (outside_from h level page multiple count some range),
    )
