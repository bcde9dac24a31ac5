use Rattle.x86_64.proofs.SharedEntries.{apart}
use Rattle.x86_64.proofs.sharing.are_unshared.Goals as goal

pub returns : goal.returns
returns c = rw (c.from-first.ensures.0, c.from-last.ensures.0) (apart c.args.shared.from c.args.shared.to c.args.first c.args.last)
