use Rattle.std.proofs.Common.{◌≡◌, Err, Option, sym, subst}
use Rattle.x86_64_dump.specs.FaultTexts.{dump_fault_text}
use Rattle.x86_64_dump.specs.Opened.{opened}
use Rattle.x86_64_dump.specs.Opening.{Fails}
use Rattle.x86_64_dump.specs.VmCoreInfo.{kernel_in}
use Rattle.x86_64_dump.specs.declared.vmcoreinfo.Kernel.{Kernel}
use Rattle.ptdump_engine.specs.Info.{kernel_line, no_kernel_line}
use Rattle.ptdump_engine.specs.Output.{Puts}
use Rattle.ptdump_engine.proofs.Untold.{FaultHasText, kernel_has_text, text_or}
use Rattle.ptdump_engine.proofs.info.write_kernel.Goals as goal

pub returns-in_ok-write_fault-in-Err-Fault-clause-text : goal.returns-in_ok-write_fault-in-Err-Fault-clause-text
returns-in_ok-write_fault-in-Err-Fault-clause-text g c = λ known.
    let contents = g.W.Destination.contents in
    let dump = opened g.S.ByteSource.bytes c.args.dump.now in
    let fault = c.in-Err-Fault.fault in
    let failed : kernel_in dump ≡ Err fault = subst (λ error. Fails g.S.ByteSource.may_fail error (kernel_in dump)) c.in-Err-Fault.field-0-is (c.in-Err-Fault.ensures known) in
    let has : FaultHasText {A = Option Kernel} (Err fault) = subst FaultHasText failed (kernel_has_text dump) in
    subst (λ found. Puts contents c.args.output.now c.write_fault.new.output (kernel_line c.args.form found)) (sym failed)
    (text_or (dump_fault_text fault) (λ text. Puts contents c.args.output.now c.write_fault.new.output (no_kernel_line c.args.form text))
    c.in_ok-write_fault-in-Err-Fault.ensures has)
