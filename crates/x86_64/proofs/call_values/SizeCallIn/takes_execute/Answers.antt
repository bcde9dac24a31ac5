use Rattle.std.proofs.Common.{sym, ap, ◌∙◌}
use Rattle.x86_64_model.specs.Entry.{has}
use Rattle.x86_64.specs.Calls.{page_call}
use Rattle.x86_64.specs.private.FlushReplies.{takes}
use Rattle.x86_64.proofs.call_values.SizeCallIn.takes_execute.Goals as goal

pub returns-in-MapToWithTableFlags : goal.returns-in-MapToWithTableFlags
unfolding has
returns-in-MapToWithTableFlags g c = c.contains.ensures tt ∙ ap (λ call. takes (page_call g.S.PageSize.LEVEL g.P5.LevelFiveFlags.bits call)) (sym c.in-MapToWithTableFlags.is)
