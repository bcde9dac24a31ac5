use Rattle.std.proofs.Common.{rules, inl, inr, refl, codes}
use Rattle.clap.specs.Matches.{found_of}
use Rattle.ptdump.specs.Requests.{IsCommand, IsUnreadArgument}
use Rattle.ptdump.proofs.Commands.{no_walk}
use Rattle.ptdump.proofs.request.walk_of.Goals as goal

pub returns-in_err-addresses-clause-err : goal.returns-in_err-addresses-clause-err
returns-in_err-addresses-clause-err c =
    let found = found_of c.args.arguments.now in
    let unread : IsUnreadArgument (IsCommand (codes "walk") found) c.in_err-addresses.field-0.0 =
    elim c.in_err-addresses.ensures.err [
      | inl memory ↦ inl memory
      | inr none ↦ inr (no_walk (codes "walk") found refl (λ numbers options are is. none numbers are))
    ] in
    search (rules, unread)

pub returns-in_err-options-clause-err : goal.returns-in_err-options-clause-err
returns-in_err-options-clause-err c =
    let found = found_of c.args.arguments.now in
    let unread : IsUnreadArgument (IsCommand (codes "walk") found) c.in_err-options.field-0.0 =
    inr (no_walk (codes "walk") found refl (λ numbers options are is. c.in_err-options.ensures.err options is)) in
    search (rules, unread)
