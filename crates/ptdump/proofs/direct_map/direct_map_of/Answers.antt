use Rattle.std.proofs.Common.{◌≡◌, ◌∙◌, List, ℕ, rules, Option, Some, codes, option_map, sym, ap}
use Rattle.std.specs.Borrow.{Bor}
use Rattle.clap.specs.Matches.{first_value, found_of}
use Rattle.ptdump.specs.DirectMaps.{IsDirectMap}
use Rattle.ptdump.specs.Reasons.{IsStopReason}
use Rattle.ptdump.specs.Requests.{IsUnreadArgument}
use Rattle.ptdump.proofs.Reasons.{no_direct_map, unread_map}
use Rattle.ptdump.proofs.direct_map.direct_map_of.Goals as goal

pub returns-in_err-range-clause-err : goal.returns-in_err-range-clause-err
returns-in_err-range-clause-err c =
    let found = found_of c.args.arguments.now in
    let given : first_value found (codes "direct-map") ≡ Some c.in-Some.text.now =
    sym c.get_str.ensures ∙ ap (λ (o : Option (Bor (List ℕ))). option_map (λ (s : Bor (List ℕ)). s.now) o) c.in-Some.is in
    let unread : IsUnreadArgument (IsDirectMap (first_value found (codes "direct-map"))) c.in_err-range.field-0.0 =
    unread_map (first_value found (codes "direct-map")) c.in-Some.text.now c.in_err-range.field-0.0 given c.in_err-range.ensures.err in
    search (rules, unread)

pub returns-in_err-range-clause-reason : goal.returns-in_err-range-clause-reason
returns-in_err-range-clause-reason c =
    let found = found_of c.args.arguments.now in
    let given : first_value found (codes "direct-map") ≡ Some c.in-Some.text.now =
    sym c.get_str.ensures ∙ ap (λ (o : Option (Bor (List ℕ))). option_map (λ (s : Bor (List ℕ)). s.now) o) c.in-Some.is in
    let reason : IsStopReason found c.in_err-range.field-0.0 =
    no_direct_map found c.in-Some.text c.in_err-range.field-0.0 given c.in_err-range.ensures.reason c.in_err-range.ensures.err in
    search (rules, reason)
