use Rattle.test_reference.proofs.EntryCalls.{changed_along, unmap_is}
use Rattle.test_reference.proofs.machine.PlainMachine.unmap.Goals as goal

pub returns : goal.returns
returns c = changed_along _ _ _ _ (unmap_is _ _ _ _ _ _ c.or-refusal.ensures _ _ _ c.entry_at-word.ensures c.address.ensures c.first_stop.ensures c.unmap_refusal.ensures) c.change.ensures
