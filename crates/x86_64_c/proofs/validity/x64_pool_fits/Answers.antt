use Rattle.x86_64_c.proofs.ArgumentsGiven.{kept}
use Rattle.x86_64_c.proofs.SpaceArguments.{tells}
use Rattle.x86_64_c.proofs.validity.x64_pool_fits.Goals as goal

pub returns-in-Ok-clause-fits : goal.returns-in-Ok-clause-fits
returns-in-Ok-clause-fits c = λ _. tells _ _ c.status_of_test.ensures c.in-Ok.ensures.does.1 (λ fits. fits, λ fits. fits)

pub returns-in-Ok-clause-tables : goal.returns-in-Ok-clause-tables
returns-in-Ok-clause-tables c = kept _ _ c.in-Ok.ensures.does.0
