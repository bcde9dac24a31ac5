use Rattle.std.proofs.Common.{arith, sym, ◌∙◌, refl, subst}
use Rattle.uses.specs.SwitchingKernel.{IsMappedOnce, FrameIsUnmapped, LessIsMapped}
use Rattle.uses.proofs.PageUnmaps.{AreUnmapped, less_then, still_unmapped, one_more_unmapped}
use Rattle.uses.proofs.switching_kernel.Kernel.reclaim.Goals as goal

pub loop-page-preserved-in_default : goal.loop-page-preserved-in_default
loop-page-preserved-in_default g c =
    let tables = g.T.TableMemory.tables in
    let now = c.loop-page.invariant in
    let less : LessIsMapped c.args.self.now.processes.items (tables c.loop-page.self.memory) (tables c.unmap_page.new.self.memory) = rw now.same at c.unmap_page.ensures.less in
    record {
      runs = c.unmap_page.ensures.runs;
      same = c.unmap_page.ensures.same ∙ now.same;
      less = less_then c.args.self.now.processes.items _ _ _ now.less less;
      freed = still_unmapped c.args.self.now.processes.items _ _ _ c.loop-page.freed.items less now.freed;
      room = omega arith;
    }

pub loop-page-preserved : goal.loop-page-preserved
loop-page-preserved g c =
    let tables = g.T.TableMemory.tables in
    let processes = c.args.self.now.processes.items in
    let now = c.loop-page.invariant in
    let less : LessIsMapped processes (tables c.loop-page.self.memory) (tables c.unmap_page.new.self.memory) = rw now.same at c.unmap_page.ensures.less in
    let gone : IsMappedOnce processes (tables c.loop-page.self.memory) c.in-Some.frame → FrameIsUnmapped processes (tables c.unmap_page.new.self.memory) c.in-Some.frame
    = rw now.same at (c.in-Some.ensures.unmapped c.in-Some.frame refl) in
    record {
      runs = c.unmap_page.ensures.runs;
      same = c.unmap_page.ensures.same ∙ now.same;
      less = less_then processes _ _ _ now.less less;
      freed = subst (AreUnmapped processes (tables c.args.self.now.memory) (tables c.unmap_page.new.self.memory)) (sym c.push_reserved.ensures.items)
          (one_more_unmapped processes _ _ _ c.loop-page.freed.items c.in-Some.frame now.less less gone now.freed);
      room = omega arith;
    }

pub returns-clause-unmapped : goal.returns-clause-unmapped
returns-clause-unmapped g c = rw c.flush_late.ensures.flushed c.loop-page.invariant.freed

pub returns-clause-unreached : goal.returns-clause-unreached
returns-clause-unreached g c = λ frame i once.
    let none : FrameIsUnmapped c.flush_late.new.self.processes.items (g.T.TableMemory.tables c.flush_late.new.self.memory) frame
    = rw (c.flush_late.ensures.flushed, c.loop-page.invariant.same) (c.loop-page.invariant.freed frame i once) in
    c.flush_late.ensures.unreached frame none
