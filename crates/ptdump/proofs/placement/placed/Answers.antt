use Rattle.std.proofs.Common.{List, ℕ, inl, inr, map, rules}
use Rattle.std.specs.Borrow.{Bor}
use Rattle.std.specs.Option.{option_copied}
use Rattle.ptdump.specs.Placements.{IsPlacement}
use Rattle.ptdump.specs.Reasons.{IsNoPlacement}
use Rattle.ptdump.specs.Requests.{IsUnreadArgument}
use Rattle.ptdump.proofs.Reasons.{of_ranges}
use Rattle.ptdump.proofs.RangeTexts.{no_ranges}
use Rattle.ptdump.proofs.placement.placed.Goals as goal

pub returns-in_err-ranges_of-in-None-default-clause-err : goal.returns-in_err-ranges_of-in-None-default-clause-err
returns-in_err-ranges_of-in-None-default-clause-err c =
    let unread : IsUnreadArgument (IsPlacement (option_copied c.args.base) (map (λ (text : Bor (List ℕ)). text.now) c.args.ranges.now)) c.in_err-ranges_of-in-None-default.field-0.0 =
    elim c.in_err-ranges_of-in-None-default.ensures.err [
      | inl memory ↦ inl memory
      | inr none ↦ inr (no_ranges c.args.base c.args.ranges.now c.in-None-default.is-0 c.in-None-default.len_at_least none)
    ] in
    search (rules, unread)

pub returns-in_err-ranges_of-in-None-default-clause-reason : goal.returns-in_err-ranges_of-in-None-default-clause-reason
returns-in_err-ranges_of-in-None-default-clause-reason c =
    let texts = map (λ (text : Bor (List ℕ)). text.now) c.args.ranges.now in
    let stop = c.in_err-ranges_of-in-None-default.field-0.0 in
    let reason : IsNoPlacement (option_copied c.args.base) texts stop =
    of_ranges (option_copied c.args.base) texts stop c.in_err-ranges_of-in-None-default.ensures.reason in
    search (rules, reason)
