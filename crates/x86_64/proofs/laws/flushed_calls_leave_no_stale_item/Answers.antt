use Rattle.x86_64.proofs.CallsFlushed.{arises_by_flushed_calls}
use Rattle.x86_64.proofs.Processors.{arises_first, arises_by_caching, arises_by_calls, arises_by_flushes, flushed_accesses_go}
use Rattle.x86_64.proofs.laws.flushed_calls_leave_no_stale_item.Goals as goal

pub returns-clause-first : goal.returns-clause-first
returns-clause-first c = arises_first

pub returns-clause-caching : goal.returns-clause-caching
returns-clause-caching c = arises_by_caching

pub returns-clause-calls : goal.returns-clause-calls
returns-clause-calls c = arises_by_calls

pub returns-clause-flushes : goal.returns-clause-flushes
returns-clause-flushes c = arises_by_flushes

pub returns-clause-accesses : goal.returns-clause-accesses
returns-clause-accesses c = flushed_accesses_go

pub returns-clause-both : goal.returns-clause-both
returns-clause-both c = arises_by_flushed_calls
