use Rattle.std.proofs.Common.{◌∙◌}
use Rattle.test_reference.proofs.EntryCalls.{translate_page_is}
use Rattle.test_reference.proofs.machine.PlainMachine.translate_page.Goals as goal

pub returns : goal.returns
returns c = c.answer.ensures ∙ translate_page_is _ _ c.args.paths.now _ _ _ c.or-refusal.ensures _ _ _ c.entry_at-word.ensures c.address.ensures c.first_stop.ensures c.translate_refusal.ensures
