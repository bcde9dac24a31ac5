use Rattle.std.proofs.Common.{rules, inl, inr, refl, codes}
use Rattle.clap.specs.Matches.{found_of}
use Rattle.ptdump.specs.Requests.{IsCommand, IsUnreadArgument}
use Rattle.ptdump.proofs.Commands.{no_check}
use Rattle.ptdump.proofs.request.check_of.Goals as goal

pub returns-in_err-physical_bits-clause-err : goal.returns-in_err-physical_bits-clause-err
returns-in_err-physical_bits-clause-err c =
    let found = found_of c.args.arguments.now in
    let unread : IsUnreadArgument (IsCommand (codes "check") found) c.in_err-physical_bits.field-0.0 =
    inr (no_check (codes "check") found refl (λ checking is. c.in_err-physical_bits.ensures.err checking.physical_bits is.bits)) in
    search (rules, unread)

pub returns-in_err-direct_map-clause-err : goal.returns-in_err-direct_map-clause-err
returns-in_err-direct_map-clause-err c =
    let found = found_of c.args.arguments.now in
    let unread : IsUnreadArgument (IsCommand (codes "check") found) c.in_err-direct_map.field-0.0 =
    elim c.in_err-direct_map.ensures.err [
      | inl memory ↦ inl memory
      | inr none ↦ inr (no_check (codes "check") found refl (λ checking is. none checking.direct_map is.direct_map))
    ] in
    search (rules, unread)

pub returns-in_err-selection-clause-err : goal.returns-in_err-selection-clause-err
returns-in_err-selection-clause-err c =
    let found = found_of c.args.arguments.now in
    let unread : IsUnreadArgument (IsCommand (codes "check") found) c.in_err-selection.field-0.0 =
    inr (no_check (codes "check") found refl (λ checking is. c.in_err-selection.ensures.err checking.selection is.selection)) in
    search (rules, unread)
