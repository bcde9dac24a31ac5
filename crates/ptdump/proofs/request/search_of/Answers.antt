use Rattle.std.proofs.Common.{rules, inl, inr, refl, codes}
use Rattle.clap.specs.Matches.{found_of}
use Rattle.ptdump.specs.Requests.{IsCommand, IsUnreadArgument}
use Rattle.ptdump.proofs.Commands.{no_find}
use Rattle.ptdump.proofs.request.search_of.Goals as goal

pub returns-in_err-addresses_of-clause-err : goal.returns-in_err-addresses_of-clause-err
returns-in_err-addresses_of-clause-err c =
    let found = found_of c.args.arguments.now in
    let unread : IsUnreadArgument (IsCommand (codes "find") found) c.in_err-addresses_of.field-0.0 =
    elim c.in_err-addresses_of.ensures.err [
      | inl memory ↦ inl memory
      | inr none ↦ inr (no_find (codes "find") found refl (λ numbers are. none numbers are))
    ] in
    search (rules, unread)
