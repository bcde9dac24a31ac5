use Rattle.std.proofs.Common.{rules, ◌≡◌, ◌++◌, List, Result, Ok, Err, length, subst}
use Rattle.x86_64_dump.specs.KernelTexts.{texts_within}
use Rattle.x86_64_dump.specs.Opening.{Fails}
use Rattle.x86_64_dump.specs.declared.error.Fault.{Fault}
use Rattle.x86_64_dump.specs.declared.kernel_text.KernelText.{KernelText}
use Rattle.x86_64_dump.proofs.memory_search.read_texts.Goals as goal

pub returns-in_err-add_segments : goal.returns-in_err-add_segments
returns-in_err-add_segments g c known =
    let file = g.S.ByteSource.bytes c.args.source.now in
    let within = texts_within (length file) file c.args.segments.now in
    let is : c.from_residual-in_err-add_segments.result ≡ Err c.in_err-add_segments.field-0.0 = search rules in
    rw is (subst (λ ts. Fails {Y = List KernelText} g.S.ByteSource.may_fail c.in_err-add_segments.field-0.0 (Ok (ts ++ within))) c.new-texts.ensures.items (c.in_err-add_segments.ensures known))

pub returns : goal.returns
returns g c known =
    let file = g.S.ByteSource.bytes c.args.source.now in
    let within = texts_within (length file) file c.args.segments.now in
    subst (λ ts. ◌≡◌ {A = Result (List KernelText) Fault} (Ok (ts ++ within)) (Ok c.add_segments.new.texts.items)) c.new-texts.ensures.items (c.in_ok-add_segments.ensures known)
