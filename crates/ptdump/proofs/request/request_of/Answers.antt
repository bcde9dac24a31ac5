use Rattle.std.proofs.Common.{rules, inl, inr}
use Rattle.clap.specs.Matches.{found_of}
use Rattle.ptdump_engine.specs.declared.request.Request.{Request}
use Rattle.ptdump.specs.Reasons.{IsReasonFor}
use Rattle.ptdump.specs.Requests.{IsRequest, IsUnreadArgument}
use Rattle.ptdump.proofs.Reasons.{for_any_name, mistake_for_any_name}
use Rattle.ptdump.proofs.request.request_of.Goals as goal

pub returns-in_err-command_of-clause-err : goal.returns-in_err-command_of-clause-err
returns-in_err-command_of-clause-err c =
    let unread : IsUnreadArgument (IsRequest c.args.is_terminal c.args.name.now (found_of c.args.arguments.now)) c.in_err-command_of.field-0.0 =
    elim c.in_err-command_of.ensures.err [
      | inl memory ↦ inl memory
      | inr none ↦ inr (λ (request : Request) is. none request.command is.command)
    ] in
    search (rules, unread)

pub returns-in_err-placement_of-clause-err : goal.returns-in_err-placement_of-clause-err
returns-in_err-placement_of-clause-err c =
    let unread : IsUnreadArgument (IsRequest c.args.is_terminal c.args.name.now (found_of c.args.arguments.now)) c.in_err-placement_of.field-0.0 =
    elim c.in_err-placement_of.ensures.err [
      | inl memory ↦ inl memory
      | inr none ↦ inr (λ (request : Request) is. none request.placement is.placement)
    ] in
    search (rules, unread)

pub returns-in_err-levels_of-clause-err : goal.returns-in_err-levels_of-clause-err
returns-in_err-levels_of-clause-err c =
    let unread : IsUnreadArgument (IsRequest c.args.is_terminal c.args.name.now (found_of c.args.arguments.now)) c.in_err-levels_of.field-0.0 =
    inr (λ (request : Request) is. c.in_err-levels_of.ensures.err request.levels is.levels) in
    search (rules, unread)

pub returns-in_err-option_of-clause-err : goal.returns-in_err-option_of-clause-err
returns-in_err-option_of-clause-err c =
    let unread : IsUnreadArgument (IsRequest c.args.is_terminal c.args.name.now (found_of c.args.arguments.now)) c.in_err-option_of.field-0.0 =
    inr (λ (request : Request) is. c.in_err-option_of.ensures.err request.cr3 is.cr3) in
    search (rules, unread)

pub returns-in_err-option_of-2-clause-err : goal.returns-in_err-option_of-2-clause-err
returns-in_err-option_of-2-clause-err c =
    let unread : IsUnreadArgument (IsRequest c.args.is_terminal c.args.name.now (found_of c.args.arguments.now)) c.in_err-option_of-2.field-0.0 =
    inr (λ (request : Request) is. c.in_err-option_of-2.ensures.err request.vmcoreinfo is.vmcoreinfo) in
    search (rules, unread)

pub returns-in_err-option_of-3-clause-err : goal.returns-in_err-option_of-3-clause-err
returns-in_err-option_of-3-clause-err c =
    let unread : IsUnreadArgument (IsRequest c.args.is_terminal c.args.name.now (found_of c.args.arguments.now)) c.in_err-option_of-3.field-0.0 =
    inr (λ (request : Request) is. c.in_err-option_of-3.ensures.err request.cpu is.cpu) in
    search (rules, unread)

pub returns-in_err-command_of-clause-reason : goal.returns-in_err-command_of-clause-reason
returns-in_err-command_of-clause-reason c =
    let reason : IsReasonFor c.args.name.now (found_of c.args.arguments.now) c.in_err-command_of.field-0.0 =
    c.in_err-command_of.ensures.reason in
    search (rules, reason)

pub returns-in_err-option_of-clause-reason : goal.returns-in_err-option_of-clause-reason
returns-in_err-option_of-clause-reason c =
    let reason : IsReasonFor c.args.name.now (found_of c.args.arguments.now) c.in_err-option_of.field-0.0 =
    mistake_for_any_name c.args.name.now (found_of c.args.arguments.now) c.in_err-option_of.field-0.0 c.in_err-option_of.ensures.reason in
    search (rules, reason)

pub returns-in_err-option_of-2-clause-reason : goal.returns-in_err-option_of-2-clause-reason
returns-in_err-option_of-2-clause-reason c =
    let reason : IsReasonFor c.args.name.now (found_of c.args.arguments.now) c.in_err-option_of-2.field-0.0 =
    mistake_for_any_name c.args.name.now (found_of c.args.arguments.now) c.in_err-option_of-2.field-0.0 c.in_err-option_of-2.ensures.reason in
    search (rules, reason)

pub returns-in_err-option_of-3-clause-reason : goal.returns-in_err-option_of-3-clause-reason
returns-in_err-option_of-3-clause-reason c =
    let reason : IsReasonFor c.args.name.now (found_of c.args.arguments.now) c.in_err-option_of-3.field-0.0 =
    mistake_for_any_name c.args.name.now (found_of c.args.arguments.now) c.in_err-option_of-3.field-0.0 c.in_err-option_of-3.ensures.reason in
    search (rules, reason)

pub returns-in_err-levels_of-clause-reason : goal.returns-in_err-levels_of-clause-reason
returns-in_err-levels_of-clause-reason c =
    let reason : IsReasonFor c.args.name.now (found_of c.args.arguments.now) c.in_err-levels_of.field-0.0 =
    mistake_for_any_name c.args.name.now (found_of c.args.arguments.now) c.in_err-levels_of.field-0.0 c.in_err-levels_of.ensures.reason in
    search (rules, reason)

pub returns-in_err-placement_of-clause-reason : goal.returns-in_err-placement_of-clause-reason
returns-in_err-placement_of-clause-reason c =
    let reason : IsReasonFor c.args.name.now (found_of c.args.arguments.now) c.in_err-placement_of.field-0.0 =
    for_any_name c.args.name.now (found_of c.args.arguments.now) c.in_err-placement_of.field-0.0 c.in_err-placement_of.ensures.reason in
    search (rules, reason)

pub returns-clause-ok : goal.returns-clause-ok
returns-clause-ok c = record {
  command = c.in_ok-command_of.ensures.ok;
  form = c.form_of.ensures;
  columns = c.columns_of.ensures;
  areas = c.areas_of.ensures;
  cr3 = c.in_ok-option_of.ensures.ok;
  vmcoreinfo = c.in_ok-option_of-2.ensures.ok;
  levels = c.in_ok-levels_of.ensures.ok;
  placement = c.in_ok-placement_of.ensures.ok;
  raw = c.is_given.ensures;
  cpu = c.in_ok-option_of-3.ensures.ok;
  all_cpus = c.is_given-2.ensures;
}
