use Rattle.x86_64_c.proofs.ArgumentsGiven.{kept}
use Rattle.x86_64_c.proofs.listing.x64_mappings.Goals as goal

pub returns-in-Some-clause-tables : goal.returns-in-Some-clause-tables
returns-in-Some-clause-tables c = kept _ _ c.in-Ok.ensures.does.0

pub returns-in-None-clause-tables : goal.returns-in-None-clause-tables
returns-in-None-clause-tables c = kept _ _ c.in-Ok.ensures.does.0
