use Rattle.std.proofs.Common.{rules, inr, refl, codes}
use Rattle.clap.specs.Matches.{found_of}
use Rattle.ptdump.specs.Requests.{IsCommand, IsUnreadArgument}
use Rattle.ptdump.proofs.Commands.{no_regions}
use Rattle.ptdump.proofs.request.regions_of.Goals as goal

pub returns-in_err-selection_of-clause-err : goal.returns-in_err-selection_of-clause-err
returns-in_err-selection_of-clause-err c =
    let found = found_of c.args.arguments.now in
    let unread : IsUnreadArgument (IsCommand (codes "regions") found) c.in_err-selection_of.field-0.0 =
    inr (no_regions (codes "regions") found refl (λ selection is. c.in_err-selection_of.ensures.err selection is)) in
    search (rules, unread)
