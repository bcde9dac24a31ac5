use Rattle.std.proofs.Common.{rules, ◌≡◌, ◌∙◌, ◌≤◌, cond, nat_eq, Some, refl, subst}
use Rattle.std.specs.HashMap.{get}
use Rattle.std.specs.Option.{IsSomeAnd}
use Rattle.std.specs.Vec.{with_items}
use Rattle.ptdump_check.specs.declared.reached.search.Found.{Found}
use Rattle.ptdump_check.proofs.Reaches.{takes_large_page, takes_note, takes_noted}
use Rattle.ptdump_check.proofs.reached.search.note_large_page.Goals as goal

pub returns-then-is_noted : goal.returns-then-is_noted
returns-then-is_noted g c =
    let page = c.args.page.now in
    let found = c.args.found.now in
    let start : c.as_u64-start.result ≡ page.frame = search (rules, c.page.view_is) in
    let size : c.size.result ≡ page.size = search (rules, c.page.view_is) in
    takes_noted g.L.LevelCount.LEVELS c.args.search.now found page
    (subst (λ f. IsSomeAnd (get nat_eq found.pages f) (λ noted. page.size ≤ noted)) start
    (subst (λ s. IsSomeAnd (get nat_eq found.pages c.as_u64-start.result) (λ noted. s ≤ noted)) size (c.is_noted.ensures c.if-is_noted.true)))

pub returns : goal.returns
returns g c =
    let L = g.L.LevelCount.LEVELS in
    let sought = c.args.search.now in
    let page = c.args.page.now in
    let old = c.args.found.now in
    let between : Found = record { firsts = with_items old.firsts c.note.new.firsts; visited = old.visited; pages = old.pages } in
    let new : Found = record { firsts = between.firsts; visited = old.visited; pages = c.insert.new.self } in
    let start : c.as_u64-start.result ≡ page.frame = search (rules, c.page.view_is) in
    let size : c.size-2.result ≡ page.size = search (rules, c.page.view_is) in
    takes_large_page L sought old between new page
    (takes_note L sought old page c.note.new.firsts (λ ms ascend is. c.note.ensures ms ascend (c.deref_mut.ensures.value ∙ is)))
    refl refl
    (λ q. c.in_ok-insert.ensures.updates.0 q ∙ (λ k. cond (nat_eq (start k) q) (Some (size k)) (get nat_eq old.pages q)))
