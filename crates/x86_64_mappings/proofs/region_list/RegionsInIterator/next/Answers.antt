use Rattle.std.proofs.Common.{Some, None, ◌∙◌, subst}
use Rattle.x86_64_page.proofs.Blocks.{goes_first}
use Rattle.x86_64_mappings.specs.private.Joined.{AllFit}
use Rattle.x86_64_mappings.proofs.Joined.{one_arrives, last_arrives, goes_by}
use Rattle.x86_64_mappings.proofs.region_list.RegionsInIterator.next.Goals as goal

pub returns-in-Some-join-clause-steps : goal.returns-in-Some-join-clause-steps
returns-in-Some-join-clause-steps g c =
    let before = c.loop-mapping.self-inside in
    c.loop-mapping.invariant.0
    ∙ one_arrives g.L.LevelCount.LEVELS before.joiner before.mappings c.next.new.self c.in-Some.mapping c.of.result (Some c.in-Some-join.region) c.join.new.self
    c.in-Some.ensures.steps c.of.ensures c.in-Some-join.ensures.given c.join.ensures.held

pub returns-in-Some-join-clause-goes : goal.returns-in-Some-join-clause-goes
returns-in-Some-join-clause-goes g c = goes_first (λ s. s) _ _ _ _ (returns-in-Some-join-clause-steps g c)

pub loop-mapping-preserved : goal.loop-mapping-preserved
loop-mapping-preserved g c =
    let before = c.loop-mapping.self-inside in (
      c.loop-mapping.invariant.0
          ∙ one_arrives g.L.LevelCount.LEVELS before.joiner before.mappings c.next.new.self c.in-Some.mapping c.of.result None c.join.new.self
          c.in-Some.ensures.steps c.of.ensures c.in_default-join.ensures.given c.join.ensures.held,
      (subst (AllFit g.L.LevelCount.LEVELS) c.in-Some.ensures.steps c.loop-mapping.invariant.1).1,
    )

pub returns-clause-steps : goal.returns-clause-steps
returns-clause-steps g c =
    let before = c.loop-mapping.self-inside in
    last_arrives g.L.LevelCount.LEVELS c.args.self.now before.joiner c.finish.new.self before.mappings c.next.new.self c.finish.result
    c.loop-mapping.invariant.0 c.in_default.ensures.steps.0 c.in_default.ensures.steps.1 c.finish.ensures.given c.finish.ensures.held

pub returns-clause-goes : goal.returns-clause-goes
returns-clause-goes g c = goes_by _ _ _ (returns-clause-steps g c)
