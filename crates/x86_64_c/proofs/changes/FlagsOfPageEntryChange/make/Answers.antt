use Rattle.std.proofs.Common.{rules}
use Rattle.x86_64_model.specs.Call.{UpdateFlags}
use Rattle.x86_64_mappers.specs.Layouts.{direct_at}
use Rattle.x86_64_tables.specs.MapperAnswers.{flags_answer}
use Rattle.x86_64_tables.specs.PageTableFlags.{bits_of}
use Rattle.x86_64_c.proofs.EntryChanges.{changes, is_page_level, plain}
use Rattle.x86_64_c.proofs.changes.FlagsOfPageEntryChange.make.Goals as goal

pub returns-clause-makes : goal.returns-clause-makes
returns-clause-makes g c =
    let L = g.L.LevelCount.LEVELS in
    let layout = direct_at L (g.P.PageTableFrameMapping.places c.args.located.mapping) c.args.located.root in
    let is = is_page_level L g.L.LevelCount.at_least_four g.S.PageSize.LEVEL g.S.PageSize.low g.S.PageSize.high in (
      λ refused. let fits = c.has_address_bits.ensures in absurd (search rules),
      λ may. (
        flags_answer _ c.update_flags-updated.result,
        changes _ _ layout (g.T.TableMemory.tables c.args.memory.now) _ c.new-mapper.ensures.layout c.new-mapper.ensures.memory (search rules)
            (UpdateFlags g.S.PageSize.LEVEL c.args.page (bits_of c.args.self.now.flags)) _ c.updated_status.result plain is may c.update_flags-updated.ensures.does
            (c.updated_status.ensures _),
      ),
    )
