use Rattle.std.proofs.Common.{refl, arith}
use Rattle.test_reference.proofs.EntryCalls.{changed_along, set_flags_is, set_flags_low}
use Rattle.test_reference.proofs.machine.PlainMachine.set_flags.Goals as goal

pub returns-then-level-level_of : goal.returns-then-level-level_of
returns-then-level-level_of c = set_flags_low _ _ _ _ _ _ (omega (arith, c.if-level-level_of.true, c.level_of.ensures.value))

pub returns : goal.returns
returns c = changed_along _ _ _ _ (set_flags_is _ _ _ _ _ _ c.or-refusal.ensures _ _ _ _ _ _ _ (omega (arith, c.if-level-level_of.false, c.level_of.ensures.value)) c.front_at-path.ensures c.entry_at-word.ensures c.address-frame.ensures refl c.first_stop.ensures c.unused_refusal.ensures) c.change.ensures
