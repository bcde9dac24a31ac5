use Rattle.std.proofs.Common.{◌∙◌, ap}
use Rattle.std.proofs.lemmas.List.{take_all}
use Rattle.std.specs.List.{flat_map}
use Rattle.ptdump_engine.specs.private.ProcessorGroups.{cpu_if, group_key}
use Rattle.ptdump_engine.proofs.ProcessorGroups.{grouped_by_key}
use Rattle.ptdump_engine.proofs.processor_groups.ProcessorGroups.of.Goals as goal

pub returns-clause-groups : goal.returns-clause-groups
returns-clause-groups c = λ p.
    let ps = c.args.processors.now in
    c.loop-processor.invariant (group_key p) ∙ ap (flat_map (cpu_if (group_key p))) (take_all c.loop-processor.processor-index ps c.loop-processor-test.false) ∙ grouped_by_key ps p
