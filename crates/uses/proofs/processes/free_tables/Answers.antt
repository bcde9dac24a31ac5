use Rattle.std.proofs.Common.{rules, ◌+◌}
use Rattle.x86_64_model.specs.Call.{CleanUp}
use Rattle.uses.proofs.ProcessCalls.{served_cleaned, step_led}
use Rattle.uses.proofs.processes.free_tables.Goals as goal

pub returns-clause-served : goal.returns-clause-served
returns-clause-served g c = served_cleaned c.args.process _ c.range_inclusive.result.start (c.range_inclusive.result.end + 0xfff) _ _ _ _ (search rules) (search rules)
    (step_led c.args.process (CleanUp c.range_inclusive.result.start (c.range_inclusive.result.end + 0xfff)) c.call_on.result (g.T.TableMemory.tables c.args.memory.now) (g.T.TableMemory.tables c.call_on.new.memory) c.args.pool.now.frames c.call_on.new.frames.frames c.call_on.ensures.step)
    c.call_on.ensures.beside.keeps c.call_on.ensures.beside
