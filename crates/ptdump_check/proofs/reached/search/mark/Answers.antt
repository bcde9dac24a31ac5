use Rattle.std.proofs.Common.{◌≡◌, ◌<◌, ◌∙◌, true, cond, nat_eq, refl, sym, ap, arith}
use Rattle.std.specs.HashSet.{contains}
use Rattle.ptdump_check.specs.declared.reached.search.Found.{Found}
use Rattle.ptdump_check.specs.private.Reaching.{are_apart, span_of_table}
use Rattle.ptdump_check.proofs.Reaches.{marked}
use Rattle.ptdump_check.proofs.reached.search.mark.Goals as goal

pub returns : goal.returns
returns g c = λ ms after.
    let search = c.args.search.now in
    let table = c.args.table.now in
    let old = c.args.found.now in
    let new : Found = record { firsts = old.firsts; visited = c.insert.new.self; pages = old.pages } in
    let apart : are_apart search.left_out (span_of_table table) ≡ true = ap (are_apart search.left_out) (sym c.positions.ensures) ∙ sym c.is_apart.ensures ∙ c.if-not-is_apart.false in
    let high : table.level < 4096 = omega (arith, c.requires.high) in
    marked g.L.LevelCount.LEVELS search old new ms table c.requires.rights c.requires.low apart high c.key.ensures.aligned refl refl
    (λ key. c.in_ok-insert.ensures.updates.0 key ∙ ap (λ k. cond (nat_eq k key) true (contains nat_eq old.visited key)) c.key.ensures.sum)
    after
