use Rattle.std.proofs.Common.{rules, sym, ◌∙◌}
use Rattle.x86_64_model.specs.Lists.{In}
use Rattle.uses.proofs.KernelCalls.{own_unmap_call}
use Rattle.uses.proofs.PageUnmaps.{less_is_mapped, then_unmapped}
use Rattle.uses.proofs.switching_kernel.Kernel.unmap_page.Goals as goal

pub call-reply-requires-clause-own : goal.call-reply-requires-clause-own
call-reply-requires-clause-own g c = rw c.make_late.ensures.late (own_unmap_call c.args.process.now c.args.page (search rules))

pub returns-clause-less : goal.returns-clause-less
returns-clause-less g c =
    let there : In c.make_late.new.self.processes.items c.args.process.now = rw c.make_late.ensures.late c.requires.process in
    rw c.make_late.ensures.late at (less_is_mapped c.make_late.new.self.processes.items _ _ c.args.process.now there c.args.page _ _ _ _ c.call-reply.ensures.step c.call-reply.ensures.others)

pub returns-clause-unmapped : goal.returns-clause-unmapped
returns-clause-unmapped g c =
    let there : In c.make_late.new.self.processes.items c.args.process.now = rw c.make_late.ensures.late c.requires.process in
    let gone = rw c.make_late.ensures.late at (then_unmapped c.make_late.new.self.processes.items _ _ c.args.process.now there c.args.page _ _ _ _ c.call-reply.ensures.step c.call-reply.ensures.others) in
    λ frame is once. gone frame (sym c.unmapped_frame.ensures ∙ is) once
