use Rattle.x86_64.proofs.FlushesTold.{flushes_settle, flushes_are_least}
use Rattle.x86_64.proofs.laws.flushes_settle_what_is_due.Goals as goal

pub returns-clause-settled : goal.returns-clause-settled
returns-clause-settled c = flushes_settle

pub returns-clause-least : goal.returns-clause-least
returns-clause-least c = flushes_are_least
