use Rattle.std.proofs.Common.{◌∙◌, ap, slice_index}
use Rattle.x86_64_model.specs.Hierarchy.{◌laid_in◌, words}
use Rattle.x86_64_mappers.proofs.Memory.Words.{entry_is_word}
use Rattle.x86_64_mappers.proofs.walk.entry.Goals as goal

pub returns-clause-value : goal.returns-clause-value
returns-clause-value g c =
    c.index.ensures.0 ∙ ap (slice_index c.table.result.now) c.from.ensures.0
    ∙ entry_is_word (words ((g.M.Tables.hierarchy c.args.mapper.now).layout laid_in (g.M.Tables.hierarchy c.args.mapper.now).memory)) c.args.frame c.args.index c.table.result.now c.table.ensures (rw c.from.ensures.0 at c.from.ensures.1)
