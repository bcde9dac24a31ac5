use Rattle.std.proofs.Common.{arith}
use Rattle.x86_64_dump.proofs.Headers.{next_piece}
use Rattle.x86_64_dump.proofs.formats.elf.read_table.Goals as goal

pub loop-done-preserved : goal.loop-done-preserved
loop-done-preserved g c = record {
  within = omega (arith, c.min-more.ensures, c.loop-done.invariant.within);
  told = λ known fits.
      let file = g.S.ByteSource.bytes c.args.source.now in
      let done = c.loop-done.done in
      let more = c.min-more.result in
      let before = c.loop-done.invariant.told known fits in
      let added = c.in_ok-add_piece.ensures known (omega (arith, c.min-more.ensures, c.from.ensures, c.loop-done.invariant.within, c.loop-done-test.true)) in
      let at = c.from.ensures in
      let next = next_piece file c.args.offset done more in
      cc;
}
