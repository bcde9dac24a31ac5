use Rattle.std.proofs.Common.{rules, ◌≡◌, ◌∙◌, ◌+◌, ◌++◌, [], ◌∷◌, Err, ap, sym, subst}
use Rattle.ptdump_engine.specs.Failure.{failure_of}
use Rattle.ptdump_engine.proofs.Processing.{AreRead, read_all, read_fails, read_more, read_none}
use Rattle.ptdump_engine.proofs.processors.read_notes.Goals as goal

pub loop-cpu-init : goal.loop-cpu-init
loop-cpu-init g c = λ known. read_none (g.S.ByteSource.bytes c.args.dump.now.source) c.args.given c.args.notes.now c.new-processors.result.items (search rules)

pub loop-cpu-preserved : goal.loop-cpu-preserved
loop-cpu-preserved g c = λ known.
    let file = g.S.ByteSource.bytes c.args.dump.now.source in
    let i = c.loop-cpu.cpu in
    let ps = c.loop-cpu.processors.items in
    subst (AreRead file c.args.given c.args.notes.now (i + 1)) (sym (c.in_ok-push.ensures.items ∙ ap (λ p. ps ++ p ∷ []) c.new.ensures))
    (read_more file c.args.given c.args.notes.now i ps _ c.in_ok-registers.registers c.loop-cpu-test.true (c.loop-cpu.invariant known) (c.in_ok-registers.ensures known))

pub returns-in_err-registers : goal.returns-in_err-registers
returns-in_err-registers g c = λ known.
    let is : c.from_residual.result ≡ Err (failure_of c.in_err-registers.field-0.0) = search rules in
    rw is (read_fails (g.S.ByteSource.bytes c.args.dump.now.source) c.args.given c.args.notes.now g.S.ByteSource.may_fail c.loop-cpu.cpu c.loop-cpu.processors.items _ c.in_err-registers.field-0.0 c.loop-cpu-test.true
    (c.loop-cpu.invariant known) (c.in_err-registers.ensures known))

pub returns : goal.returns
returns g c = λ known.
    read_all (g.S.ByteSource.bytes c.args.dump.now.source) c.args.given c.args.notes.now c.loop-cpu.cpu c.loop-cpu.processors.items c.loop-cpu-test.false (c.loop-cpu.invariant known)
