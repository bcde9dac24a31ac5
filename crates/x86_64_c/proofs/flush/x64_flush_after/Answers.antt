use Rattle.x86_64_c.proofs.FlushCalls.{tells_flush, tells_flushes}
use Rattle.x86_64_c.proofs.flush.x64_flush_after.Goals as goal

pub returns-clause-call : goal.returns-clause-call
returns-clause-call c = tells_flush c.args.call c.args.parent_flags c.args.status c.flush_by.result c.flush_by.ensures

pub returns-clause-each : goal.returns-clause-each
returns-clause-each c = tells_flushes c.args.call c.args.parent_flags c.args.status c.flush_by.result c.flush_by.ensures
