use Rattle.std.proofs.Common.{rules}
use Rattle.x86_64_mappers.proofs.mapped_page_table.DirectTableAccess.clear_unnamed.Goals as goal

pub returns-clause-cleared : goal.returns-clause-cleared
returns-clause-cleared g c = search rules
