use Rattle.std.proofs.Common.{◌≡◌, ◌-◌, true}
use Rattle.x86_64_model.specs.Memory.{words_of}
use Rattle.x86_64_model.specs.PageWalk.{walk_on}
use Rattle.x86_64_tables.proofs.phys_memory.walk.walk_from.Given as goal

-- the rest of the walk from here arrives where the walk from the root arrives
abbrev pub invariant-loop-above : goal.invariant-loop-above
invariant-loop-above g l =
    let words = words_of (g.T.TableMemory.tables l.memory) (g.P.PageTableFrameMapping.places l.mapping) in
    walk_on words l.position (l.levels - l.above) l.rights.write l.rights.user l.frame ≡ walk_on words l.position l.levels true true l.fn.root
