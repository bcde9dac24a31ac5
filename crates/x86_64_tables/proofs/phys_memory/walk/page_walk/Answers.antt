use Rattle.std.proofs.Common.{◌∙◌, ap₂, true}
use Rattle.x86_64_model.specs.Memory.{words_of}
use Rattle.x86_64_model.specs.PageWalk.{walk_on, page_walk}
use Rattle.x86_64_tables.proofs.phys_memory.walk.page_walk.Goals as goal

pub returns : goal.returns
unfolding page_walk
returns g c =
    let words = words_of (g.T.TableMemory.tables c.args.memory.now) (g.P.PageTableFrameMapping.places c.args.mapping.now) in
    c.walk_from.ensures ∙ ap₂ (λ position levels. walk_on words position levels true true c.args.root) c.position.ensures.value c.LEVELS.ensures
