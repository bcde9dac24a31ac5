use Rattle.std.proofs.Common.{◌≡◌, ◌∙◌, cond, [], ◌∷◌, OnOk, sym, ap, subst}
use Rattle.std.specs.Vec.{with_items}
use Rattle.ptdump_check.specs.declared.reached.search.Found.{Found}
use Rattle.ptdump_check.specs.private.Reaching.{sought, TakesFound}
use Rattle.ptdump_check.proofs.Reaches.{sought_one, takes_nothing, takes_note}
use Rattle.ptdump_check.proofs.reached.search.note_page.Goals as goal

pub returns-then-not-seeks : goal.returns-then-not-seeks
returns-then-not-seeks g c =
    let search = c.args.search.now in
    let page = c.args.page.now in
    subst (TakesFound g.L.LevelCount.LEVELS search c.args.found.now c.args.found.now)
    (sym (sought_one search page ∙ ap (λ b. cond b (page ∷ []) []) (sym c.seeks.ensures ∙ c.if-not-seeks.true)))
    (takes_nothing g.L.LevelCount.LEVELS search c.args.found.now)

pub returns-then-size-gt-SIZE : goal.returns-then-size-gt-SIZE
returns-then-size-gt-SIZE g c =
    let search = c.args.search.now in
    let page = c.args.page.now in
    subst (λ ms. OnOk c.note_large_page.result (TakesFound g.L.LevelCount.LEVELS search c.args.found.now c.note_large_page.new.found ms))
    (sym (sought_one search page ∙ ap (λ b. cond b (page ∷ []) []) (sym c.seeks.ensures ∙ c.if-not-seeks.false)))
    c.note_large_page.ensures

pub returns : goal.returns
returns g c =
    let L = g.L.LevelCount.LEVELS in
    let search = c.args.search.now in
    let page = c.args.page.now in
    let old = c.args.found.now in
    let new : Found = record { firsts = with_items old.firsts c.note.new.firsts; visited = old.visited; pages = old.pages } in
    let seeks : sought search (page ∷ []) ≡ page ∷ [] = sought_one search page ∙ ap (λ b. cond b (page ∷ []) []) (sym c.seeks.ensures ∙ c.if-not-seeks.false) in
    subst (TakesFound L search old new) (sym seeks)
    (takes_note L search old page c.note.new.firsts (λ ms ascend is. c.note.ensures ms ascend (c.deref_mut.ensures.value ∙ is)))
