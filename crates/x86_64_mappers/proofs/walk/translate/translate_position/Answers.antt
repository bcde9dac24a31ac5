use Rattle.x86_64_mappers.proofs.Translate.Translations.{leads_where_the_walk_does}
use Rattle.x86_64_mappers.proofs.walk.translate.translate_position.Goals as goal

pub returns-clause-walk : goal.returns-clause-walk
returns-clause-walk g c =
    leads_where_the_walk_does (g.M.Tables.hierarchy c.args.mapper.now).layout (g.M.Tables.hierarchy c.args.mapper.now).memory c.args.addr c.translate_along.result c.requires.valid c.translate_along.ensures
