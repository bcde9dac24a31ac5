use Rattle.std.proofs.Common.{take}
use Rattle.std.specs.Fmt.{HasWritten, IsPlainFormatter}
use Rattle.pagetab_engine.specs.Texts.{pool_text}
use Rattle.pagetab_engine.proofs.reply.write_pool.Given as goal

abbrev pub invariant-loop-frame : goal.invariant-loop-frame
invariant-loop-frame g l =
    IsPlainFormatter l.fn.f → HasWritten g.W.Write.write_str_gives l.fn.f (pool_text (take l.frame-index l.frames)) l.f
