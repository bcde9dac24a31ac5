use Rattle.std.proofs.Common.{rules}
use Rattle.x86_64_model.specs.Call.{Unmap}
use Rattle.uses.proofs.ProcessCalls.{served_by, served_own, page_avoids, step_led}
use Rattle.uses.proofs.processes.unmap_in.Goals as goal

pub returns-then-not-is_kernels-clause-served : goal.returns-then-not-is_kernels-clause-served
returns-then-not-is_kernels-clause-served g c = served_own c.args.process c.args.page _ _ _ _ _ _ (search rules) (served_by c.args.process _ (Unmap 1 c.args.page) _ _ _ _
    (step_led c.args.process (Unmap 1 c.args.page) c.call_on.result (g.T.TableMemory.tables c.args.memory.now) (g.T.TableMemory.tables c.call_on.new.memory) c.args.pool.now.frames c.call_on.new.frames.frames c.call_on.ensures.step)
    c.call_on.ensures.beside.keeps c.call_on.ensures.beside (page_avoids c.args.page (search rules)))
