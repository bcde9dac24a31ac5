use Rattle.std.proofs.Common.{◌≡◌, ◌⊎◌, IfSome, IsSome, None, false, inl, inr, sym, subst, unwrap_or}
use Rattle.x86_64_dump.specs.Opened.{opened}
use Rattle.ptdump_engine.specs.FailureTexts.{failure_text}
use Rattle.ptdump_engine.specs.Info.{no_root_line, root_line}
use Rattle.ptdump_engine.specs.Output.{Puts}
use Rattle.ptdump_engine.specs.Program.{start_for}
use Rattle.ptdump_engine.specs.Steps.{MayBeForced}
use Rattle.ptdump_engine.specs.declared.failure.Failure.{Failure}
use Rattle.ptdump_engine.proofs.Failing.{forced_write}
use Rattle.ptdump_json.proofs.Results.{both_ok, if_err, on_ok}
use Rattle.ptdump_engine.proofs.Untold.{shown, start_has_text, text_or, unshown}
use Rattle.ptdump_engine.proofs.info.write_root.Goals as goal

pub returns-in-Err-clause-text : goal.returns-in-Err-clause-text
returns-in-Err-clause-text g c = λ known.
    let contents = g.W.Destination.contents in
    let form = c.args.request.now.form in
    let cpu = unwrap_or c.args.request.now.cpu 0 in
    let found = start_for c.args.request.now (opened g.S.ByteSource.bytes c.args.dump.now) in
    let failure = c.in-Err.failure in
    let old = c.args.output.now in
    let new = c.write_failure.new.output in
    on_ok c.write_failure.result
    (λ (both : IsSome (failure_text failure) × IfSome (failure_text failure) (λ text. Puts contents old new (no_root_line form text))).
    subst (λ found. Puts contents old new (root_line form cpu found)) (sym (shown g.S.ByteSource.may_fail failure found (c.in-Err.ensures.start known) both.0))
    (text_or (failure_text failure) (λ text. Puts contents old new (no_root_line form text)) both.1 both.0))
    (both_ok _ _ c.write_failure.result c.write_failure.ensures.told c.write_failure.ensures.text)

pub returns-in-Err-clause-errors : goal.returns-in-Err-clause-errors
returns-in-Err-clause-errors g c = λ known.
    let fails = g.S.ByteSource.may_fail in
    let may = g.W.Destination.may_refuse in
    let found = start_for c.args.request.now (opened g.S.ByteSource.bytes c.args.dump.now) in
    let failure = c.in-Err.failure in
    if_err c.write_failure.result
    (λ (error : Failure) (fact : MayBeForced false may error ⊎ ((failure_text failure ≡ None) × (error ≡ failure))). elim fact [
      | inl forced ↦ forced_write fails may error forced
      | inr other ↦ subst (MayBeForced fails may) (sym other.1)
          (unshown fails may failure found (c.in-Err.ensures.start known) (start_has_text c.args.request.now (opened g.S.ByteSource.bytes c.args.dump.now) c.requires) other.0)
    ])
    c.write_failure.ensures.errors
