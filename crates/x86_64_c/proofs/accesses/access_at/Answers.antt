use Rattle.std.proofs.Common.{true, arith, rules}
use Rattle.x86_64_access.specs.Accesses.{access_of}
use Rattle.x86_64_c.proofs.Marked.{still_fits}
use Rattle.x86_64_c.proofs.accesses.access_at.Goals as goal

pub returns-then-mark-clause-keeps : goal.returns-then-mark-clause-keeps
returns-then-mark-clause-keeps g c =
    still_fits c.accesses_leave_only_marks.ensures c.marks_keep_hierarchies.ensures g.L.LevelCount.LEVELS (omega (arith, g.L.LevelCount.at_least_four)) (g.P.PageTableFrameMapping.places c.args.located.mapping)
    (g.met.P.PageTableFrameMapping.is_mapping c.args.located.mapping) c.args.located.root
    (g.T.TableMemory.tables c.args.memory.now) c.args.controls.now c.args.address (access_of c.args.asked) true (g.T.TableMemory.tables c.access_and_mark.new.memory) (search rules)
