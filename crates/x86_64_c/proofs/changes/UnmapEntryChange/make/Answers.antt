use Rattle.std.proofs.Common.{refl, rules}
use Rattle.x86_64_model.specs.Call.{Unmap}
use Rattle.x86_64_mappers.specs.Layouts.{direct_at}
use Rattle.x86_64_tables.specs.MapperAnswers.{unmap_answer}
use Rattle.x86_64_c.proofs.EntryChanges.{changes, is_page_level, plain}
use Rattle.x86_64_c.proofs.changes.UnmapEntryChange.make.Goals as goal

pub returns-clause-makes : goal.returns-clause-makes
returns-clause-makes g c =
    let L = g.L.LevelCount.LEVELS in
    let layout = direct_at L (g.P.PageTableFrameMapping.places c.args.located.mapping) c.args.located.root in
    let answer = unmap_answer c.unmap-unmapped.result in
    let is = is_page_level L g.L.LevelCount.at_least_four g.S.PageSize.LEVEL g.S.PageSize.low g.S.PageSize.high in (
      answer,
      changes _ _ layout (g.T.TableMemory.tables c.args.memory.now) _ c.new-mapper.ensures.layout c.new-mapper.ensures.memory (search rules)
          (Unmap g.S.PageSize.LEVEL c.args.page) answer c.tell_unmapped.result.status plain is refl c.unmap-unmapped.ensures.does c.tell_unmapped.ensures.status,
      c.tell_unmapped.ensures.address,
    )
