use Rattle.x86_64.proofs.SwitchingProcessors.{reached_first, reached_by_events, reached_by_calls, reached_by_flushes, reached_by_flushed_calls, reached_accesses_go}
use Rattle.x86_64.proofs.laws.flushed_calls_leave_no_stale_item_of_a_space.Goals as goal

pub returns-clause-first : goal.returns-clause-first
returns-clause-first c = reached_first

pub returns-clause-events : goal.returns-clause-events
returns-clause-events c = reached_by_events

pub returns-clause-calls : goal.returns-clause-calls
returns-clause-calls c = reached_by_calls

pub returns-clause-flushes : goal.returns-clause-flushes
returns-clause-flushes c = reached_by_flushes

pub returns-clause-both : goal.returns-clause-both
returns-clause-both c = reached_by_flushed_calls

pub returns-clause-accesses : goal.returns-clause-accesses
returns-clause-accesses c = reached_accesses_go
