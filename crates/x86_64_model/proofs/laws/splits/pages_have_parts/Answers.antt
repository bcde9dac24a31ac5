use Rattle.x86_64_model.proofs.Lemmas.Live.PartWords.{pages_have_parts}
use Rattle.x86_64_model.proofs.Lemmas.Live.Tables.{large_pages_have_tables}
use Rattle.x86_64_model.proofs.laws.splits.pages_have_parts.Goals as goal

pub returns-clause-parts : goal.returns-clause-parts
returns-clause-parts c = pages_have_parts

pub returns-clause-tables : goal.returns-clause-tables
returns-clause-tables c = large_pages_have_tables
