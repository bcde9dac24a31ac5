use Rattle.std.proofs.Common.{◌≡◌, ◌∙◌, ◌+◌, ◌<◌, Bool, true, false, not, nat_eq, refl, sym, ap, arith}
use Rattle.std.specs.HashSet.{contains}
use Rattle.ptdump_check.specs.private.Reaching.{are_left_out}
use Rattle.ptdump_check.proofs.Reaches.{takes_left_out, takes_no_right, takes_visited}
use Rattle.ptdump_check.proofs.reached.search.is_new.Goals as goal

there : (b : Bool) → not b ≡ false → b ≡ true
there true h = refl
there false h = absurd (let e : true ≡ false = h in cc)

pub returns-then-not-includes-clause-old : goal.returns-then-not-includes-clause-old
returns-then-not-includes-clause-old g c = λ old.
    takes_no_right g.L.LevelCount.LEVELS c.args.search.now c.args.found.now c.args.table.now (sym c.includes.ensures ∙ c.if-not-includes.true)

pub returns-then-leaves_out-clause-old : goal.returns-then-leaves_out-clause-old
returns-then-leaves_out-clause-old g c = λ old.
    takes_left_out g.L.LevelCount.LEVELS c.args.search.now c.args.found.now c.args.table.now c.requires.low
    (ap (are_left_out c.args.search.now.left_out) (sym c.positions.ensures) ∙ sym c.leaves_out.ensures ∙ c.if-leaves_out.true)

pub returns-clause-old : goal.returns-clause-old
returns-clause-old g c = λ old.
    let visit = c.args.table.now in
    let is : contains nat_eq c.args.found.now.visited (visit.frame + visit.level) ≡ true =
    ap (contains nat_eq c.args.found.now.visited) (sym c.key.ensures.sum) ∙ sym c.contains.ensures ∙ there c.contains.result old in
    let low : visit.level < 4096 = omega (arith, c.requires.high) in
    takes_visited g.L.LevelCount.LEVELS c.args.search.now c.args.found.now visit (sym c.includes.ensures ∙ c.if-not-includes.false) low c.key.ensures.aligned is
