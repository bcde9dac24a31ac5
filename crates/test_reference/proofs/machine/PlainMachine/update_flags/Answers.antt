use Rattle.test_reference.proofs.EntryCalls.{changed_along, update_flags_is}
use Rattle.test_reference.proofs.machine.PlainMachine.update_flags.Goals as goal

pub returns : goal.returns
returns c = changed_along _ _ _ _ (update_flags_is _ _ _ _ _ _ c.or-refusal.ensures _ _ _ _ _ c.entry_at-word.ensures c.address-frame.ensures c.leaf_entry.ensures c.first_stop.ensures c.update_refusal.ensures) c.change.ensures
