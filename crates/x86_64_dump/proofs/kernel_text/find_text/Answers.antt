use Rattle.std.proofs.Common.{◌∙◌}
use Rattle.x86_64_dump.proofs.KernelTexts.{begins_further, begins_here, begins_nowhere}
use Rattle.x86_64_dump.proofs.kernel_text.find_text.Goals as goal

pub returns-then-text_begins-clause-text : goal.returns-then-text_begins-clause-text
returns-then-text_begins-clause-text c =
    begins_here c.args.page.now c.loop-at.at c.text_begins.result c.loop-at-test.true c.text_begins.ensures c.if-text_begins.true c.loop-at.invariant

pub loop-at-preserved : goal.loop-at-preserved
loop-at-preserved c =
    begins_further c.args.page.now c.loop-at.at c.text_begins.result c.loop-at-test.true c.text_begins.ensures c.if-text_begins.false ∙ c.loop-at.invariant

pub returns-clause-text : goal.returns-clause-text
returns-clause-text c = begins_nowhere c.args.page.now c.loop-at.at c.loop-at-test.false c.loop-at.invariant
