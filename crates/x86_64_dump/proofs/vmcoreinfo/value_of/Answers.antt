use Rattle.std.proofs.Common.{◌∙◌, Some, ap, drop, length, sym}
use Rattle.x86_64_dump.specs.VmCoreInfo.{has_prefix, value_of}
use Rattle.x86_64_dump.proofs.Lines.{behind_is, value_here, value_behind, value_nowhere}
use Rattle.x86_64_dump.proofs.vmcoreinfo.value_of.Goals as goal

pub returns-in-Some-strip_prefix : goal.returns-in-Some-strip_prefix
returns-in-Some-strip_prefix c =
    let prefix = c.args.prefix.now in
    let line = c.split_at.ensures.front in
    ap Some (c.in-Some-strip_prefix.ensures.cases.1 ∙ ap (drop (length prefix)) line)
    ∙ value_here c.loop-end.rest.now prefix c.in-Some.end (sym c.in-Some.is ∙ c.line_end.ensures.place) (ap (λ l. has_prefix l prefix) (sym line) ∙ c.in-Some-strip_prefix.ensures.cases.0)
    ∙ c.loop-end.invariant

pub loop-end-preserved : goal.loop-end-preserved
loop-end-preserved c =
    let prefix = c.args.prefix.now in
    let rest = c.loop-end.rest.now in
    let end = c.in-Some.end in
    ap (λ behind. value_of behind prefix) (behind_is rest c.split_at.result.1.now end c.split_at.ensures.back)
    ∙ value_behind rest prefix end (sym c.in-Some.is ∙ c.line_end.ensures.place) (ap (λ l. has_prefix l prefix) (sym c.split_at.ensures.front) ∙ c.in_default-strip_prefix.ensures.cases)
    ∙ c.loop-end.invariant

pub returns : goal.returns
returns c = value_nowhere c.loop-end.rest.now c.args.prefix.now (sym c.in_default.is ∙ c.line_end.ensures.place) ∙ c.loop-end.invariant
