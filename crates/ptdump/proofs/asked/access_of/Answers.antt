use Rattle.std.proofs.Common.{◌≡◌, ◌∙◌, List, ℕ, rules, Option, Some, codes, option_map, sym, ap}
use Rattle.std.specs.Borrow.{Bor}
use Rattle.clap.specs.Matches.{first_value, found_of}
use Rattle.ptdump.specs.Reasons.{IsMistake}
use Rattle.ptdump.proofs.Reasons.{no_access_named}
use Rattle.ptdump.proofs.asked.access_of.Goals as goal

pub returns-in_err-access-clause-reason : goal.returns-in_err-access-clause-reason
returns-in_err-access-clause-reason c =
    let found = found_of c.args.arguments.now in
    let named : first_value found (codes "as") ≡ Some c.in-Some.name.now =
    sym c.get_str.ensures ∙ ap (λ (o : Option (Bor (List ℕ))). option_map (λ (s : Bor (List ℕ)). s.now) o) c.in-Some.is in
    let reason : IsMistake found c.in_err-access.field-0.0 =
    no_access_named found c.in-Some.name c.in_err-access.field-0.0 named c.in_err-access.ensures.reason c.in_err-access.ensures.err in
    search (rules, reason)
