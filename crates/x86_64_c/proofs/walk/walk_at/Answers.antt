use Rattle.std.proofs.Common.{rules, ◌≡◌, ◌∙◌, None, refl, sym, ap}
use Rattle.std.specs.List.{last_or}
use Rattle.x86_64_model.specs.Memory.{words_of}
use Rattle.x86_64_model.specs.Steps.{rights_in, steps}
use Rattle.x86_64_tables.proofs.StepsRead.{last_more, read_all, read_more, read_none}
use Rattle.x86_64_c.specs.Walks.{told_by}
use Rattle.x86_64_c.proofs.WalkBySteps.{tells}
use Rattle.x86_64_c.proofs.walk.walk_at.Goals as goal

pub loop-step-init : goal.loop-step-init
loop-step-init g c = (read_none c.into_iter-step-iterator.result, refl)

pub loop-step-preserved : goal.loop-step-preserved
loop-step-preserved g c = rw (c.below-rights.ensures, c.entry.ensures) (
  read_more _ _ _ _ _ _ c.loop-step.invariant.0 c.in-Some.ensures.steps,
  sym (last_more None c.loop-step.yielded c.in-Some.step),
)

pub returns : goal.returns
returns g c =
    let words = words_of (g.T.TableMemory.tables c.args.memory.now) (g.P.PageTableFrameMapping.places c.args.located.mapping) in
    let L = g.L.LevelCount.LEVELS in
    let root = c.args.located.root in
    let all : c.into_iter-step-iterator.result ≡ steps words c.args.address L root = search rules in
    let read = read_all _ _ _ _ c.loop-step.invariant.0 c.in-None.ensures.steps.0 ∙ all in
    let rights = c.loop-step.invariant.0.rights_are ∙ ap rights_in read in
    let last = c.loop-step.invariant.1 ∙ ap (last_or None) read in
    c.told.ensures ∙ (λ i. told_by (c.position.ensures.value i) (rights i) (last i)) ∙ tells L words root c.args.address
