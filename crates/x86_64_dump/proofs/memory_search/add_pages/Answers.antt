use Rattle.std.proofs.Common.{arith, refl}
use Rattle.x86_64_dump.proofs.KernelTexts.{chunk_passed}
use Rattle.x86_64_dump.proofs.memory_search.add_pages.Goals as goal

pub loop-done-preserved : goal.loop-done-preserved
loop-done-preserved g c = record {
  within = omega (arith, c.min-more.ensures, c.loop-done.invariant.within);
  buffer = omega (arith, c.add_chunk.ensures.length, c.loop-done.invariant.buffer);
  told = λ known.
      chunk_passed (g.S.ByteSource.bytes c.args.source.now) c.args.offset c.loop-done.done c.min-more.result _ c.args.texts.now.items c.loop-done.texts.items c.add_chunk.new.texts.items
      refl (c.loop-done.invariant.told known) (c.in_ok-add_chunk.ensures.texts known);
}
