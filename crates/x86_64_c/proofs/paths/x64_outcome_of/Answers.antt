use Rattle.std.proofs.Common.{ap, ◌∙◌}
use Rattle.x86_64_c.specs.Accesses.{outcome_status, outcome_written}
use Rattle.x86_64_c.proofs.PathsRead.{wherever}
use Rattle.x86_64_c.proofs.paths.x64_outcome_of.Goals as goal

pub returns-in-Ok-clause-told : goal.returns-in-Ok-clause-told
returns-in-Ok-clause-told c right root =
    (c.tell.ensures.status ∙ ap outcome_status (c.in-Ok.ensures.came root), c.tell.ensures.outcome ∙ ap outcome_written (c.in-Ok.ensures.came root))

pub returns-in-Ok-clause-memories : goal.returns-in-Ok-clause-memories
returns-in-Ok-clause-memories c right =
    wherever c.args.levels c.args.controls.now c.args.request.now c.args.entries.now c.tell.result c.tell.new.outcome
    (λ root. (c.tell.ensures.status ∙ ap outcome_status (c.in-Ok.ensures.came root), c.tell.ensures.outcome ∙ ap outcome_written (c.in-Ok.ensures.came root)))
