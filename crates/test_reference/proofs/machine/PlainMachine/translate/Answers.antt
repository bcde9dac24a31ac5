use Rattle.test_reference.proofs.Addresses.{can_add, can_add_if_ok}
use Rattle.test_reference.proofs.machine.PlainMachine.translate.Goals as goal

pub returns-clause-can_add : goal.returns-clause-can_add
returns-clause-can_add c = can_add_if_ok c.translate.result _ (can_add _ _ _) c.translate.ensures
