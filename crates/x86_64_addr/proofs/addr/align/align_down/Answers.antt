use Rattle.std.proofs.Common.{◌-◌, sym, subst}
use Rattle.x86_64_model.specs.Alignment.{IsGreatestMultiple}
use Rattle.x86_64_addr.proofs.Alignments.{greatest}
use Rattle.x86_64_addr.proofs.addr.align.align_down.Goals as goal

pub returns-clause-greatest : goal.returns-clause-greatest
returns-clause-greatest c = subst (λ rest. IsGreatestMultiple c.args.align c.args.addr (c.args.addr - rest)) (sym c.remainder.ensures.value) (greatest c.args.align c.args.addr c.requires)
