use Rattle.x86_64_c.proofs.ArgumentsGiven.{kept}
use Rattle.x86_64_c.proofs.reads.x64_page_walk.Goals as goal

pub returns-in-Ok-clause-tables : goal.returns-in-Ok-clause-tables
returns-in-Ok-clause-tables c = kept _ _ c.in-Ok.ensures.does.0
