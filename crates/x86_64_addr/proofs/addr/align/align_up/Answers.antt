use Rattle.std.proofs.Common.{◌≡◌, ◌+◌, ◌-◌, ◌%◌, ◌<◌, sym, ap, ◌∙◌, subst, arith}
use Rattle.std.proofs.Math.Nat.{mod-eq_of_lt}
use Rattle.std.specs.Int.{next_multiple_of}
use Rattle.x86_64_model.specs.Alignment.{IsLeastMultiple}
use Rattle.x86_64_addr.proofs.Alignments.{least}
use Rattle.x86_64_addr.proofs.addr.align.align_up.Goals as goal

pub returns-else-rest-eq0-clause-least : goal.returns-else-rest-eq0-clause-least
returns-else-rest-eq0-clause-least c =
    let addr = c.args.addr in let align = c.args.align in let rest = c.remainder-rest.result in
    let value = c.remainder-rest.ensures.value in let l = c.remainder-rest.ensures.below in
    let small : align - rest < align = grind (arith, c.if-rest-eq0.false) in
    let up : addr + (align - rest) ≡ next_multiple_of addr align =
    ap (λ m. addr + m) (sym (mod-eq_of_lt small)) ∙ ap (λ m. addr + (align - m) % align) value in
    subst (IsLeastMultiple align addr) (sym up) (least align addr c.requires.power)
