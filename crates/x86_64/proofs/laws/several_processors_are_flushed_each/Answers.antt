use Rattle.x86_64.proofs.SeveralProcessors.{each_is_flushed, all_see_the_same}
use Rattle.x86_64.proofs.laws.several_processors_are_flushed_each.Goals as goal

pub returns-clause-each : goal.returns-clause-each
returns-clause-each c = each_is_flushed

pub returns-clause-same : goal.returns-clause-same
returns-clause-same c = all_see_the_same
