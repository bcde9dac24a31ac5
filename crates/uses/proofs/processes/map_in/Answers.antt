use Rattle.std.proofs.Common.{rules}
use Rattle.x86_64_model.specs.Call.{MapTo}
use Rattle.x86_64_tables.specs.PageTableFlags.{bits_of}
use Rattle.uses.proofs.ProcessCalls.{served_by, served_own, page_avoids, step_led}
use Rattle.uses.proofs.processes.map_in.Goals as goal

pub returns-clause-served : goal.returns-clause-served
returns-clause-served g c = served_own c.args.process c.args.page _ _ _ _ _ _ (search rules) (served_by c.args.process _ (MapTo 1 c.args.page c.args.frame (bits_of c.args.flags)) _ _ _ _
    (step_led c.args.process (MapTo 1 c.args.page c.args.frame (bits_of c.args.flags)) c.call_on.result (g.T.TableMemory.tables c.args.memory.now) (g.T.TableMemory.tables c.call_on.new.memory) c.args.pool.now.frames c.call_on.new.frames.frames c.call_on.ensures.step)
    c.call_on.ensures.beside.keeps c.call_on.ensures.beside (page_avoids c.args.page (search rules)))
