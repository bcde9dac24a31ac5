use Rattle.std.proofs.Common.{◌≡◌, ◌&&◌, ◌||◌, true, refl, sym, ◌∙◌, ne_eqb, arith}
use Rattle.x86_64_model.specs.Entry.{used}
use Rattle.x86_64_mappers.proofs.Entry.Flags.{tested}
use Rattle.x86_64_mappers.proofs.walk.leaf.maps_page.Goals as goal

pub returns-else-LEVEL-eq1 : goal.returns-else-LEVEL-eq1
returns-else-LEVEL-eq1 g c =
    let e = c.args.entry.now in
    let there : used e ≡ true = (let a = c.is_unused.ensures in let b = c.if-not-is_unused.true in grind arith) in
    let large = ne_eqb g.S.PageSize.LEVEL 1 (λ one. c.if-LEVEL-eq1.false (c.LEVEL.ensures ∙ one)) in
    let huge = tested e c.flags.result.0 0x80 _ c.flags.ensures.value refl (c.contains.ensures tt) in
    sym (λ i. there i && (large i || huge i))
