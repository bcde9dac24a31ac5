use Rattle.std.proofs.Common.{◌≡◌, ◌∙◌, Bool, filter, ap}
use Rattle.std.proofs.lemmas.List.{take_all}
use Rattle.ptdump_engine.specs.private.ProcessorGroups.{is_first_in}
use Rattle.ptdump_engine.specs.declared.processors.Processor.{Processor}
use Rattle.ptdump_engine.proofs.ProcessorGroups.{first_of_group}
use Rattle.ptdump_engine.proofs.processor_groups.ProcessorGroups.firsts.Goals as goal

pub returns : goal.returns
returns c =
    let ps = c.args.self.now.processors.now in
    let firsts : c.loop-processor.firsts.items ≡ filter (is_first_in c.args.self.now) ps = c.loop-processor.invariant ∙ ap (filter (is_first_in c.args.self.now)) (take_all c.loop-processor.processor-index ps c.loop-processor-test.false) in
    firsts ∙ ap (λ (test : Processor → Bool). filter test ps) (λ i p. first_of_group c.args.self.now p c.requires i)
