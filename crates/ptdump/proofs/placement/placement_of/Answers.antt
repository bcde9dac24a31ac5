use Rattle.std.proofs.Common.{List, ℕ, Option, ◌∙◌, ap, map, subst, refl, codes, IfOk, IfErr}
use Rattle.std.proofs.lemmas.Result.{IfErr-weaker}
use Rattle.std.specs.Borrow.{Bor}
use Rattle.std.specs.Option.{option_copied}
use Rattle.clap.specs.Matches.{first_value, found_of}
use Rattle.ptdump.specs.Placements.{IsPlacement}
use Rattle.ptdump.specs.Reasons.{IsNoPlacement, IsStopReason}
use Rattle.ptdump.specs.Requests.{IsUnreadArgument, values}
use Rattle.ptdump.proofs.NumberTexts.{texts_given}
use Rattle.ptdump.proofs.Reasons.{of_placement}
use Rattle.ptdump.proofs.placement.placement_of.Goals as goal

pub returns-clause-ok : goal.returns-clause-ok
returns-clause-ok c =
    let texts = ap (λ (s : Bor (List (Bor (List ℕ)))). map (λ (v : Bor (List ℕ)). v.now) s.now) c.unwrap_or.ensures
    ∙ texts_given c.get_strs.result _ _ refl c.get_strs.ensures in
    subst (λ (base : Option (List ℕ)). IfOk c.placed.result (IsPlacement base (values (found_of c.args.arguments.now) (codes "range")))) c.get_str.ensures
    (subst (λ (ts : List (List ℕ)). IfOk c.placed.result (IsPlacement (option_copied c.get_str.result) ts)) texts c.placed.ensures.ok)

pub returns-clause-err : goal.returns-clause-err
returns-clause-err c =
    let texts = ap (λ (s : Bor (List (Bor (List ℕ)))). map (λ (v : Bor (List ℕ)). v.now) s.now) c.unwrap_or.ensures
    ∙ texts_given c.get_strs.result _ _ refl c.get_strs.ensures in
    subst (λ (base : Option (List ℕ)). IfErr c.placed.result (IsUnreadArgument (IsPlacement base (values (found_of c.args.arguments.now) (codes "range"))))) c.get_str.ensures
    (subst (λ (ts : List (List ℕ)). IfErr c.placed.result (IsUnreadArgument (IsPlacement (option_copied c.get_str.result) ts))) texts c.placed.ensures.err)

pub returns-clause-reason : goal.returns-clause-reason
returns-clause-reason c =
    let found = found_of c.args.arguments.now in
    let ranges = values found (codes "range") in
    let texts = ap (λ (s : Bor (List (Bor (List ℕ)))). map (λ (v : Bor (List ℕ)). v.now) s.now) c.unwrap_or.ensures
    ∙ texts_given c.get_strs.result _ _ refl c.get_strs.ensures in
    IfErr-weaker c.placed.result (IsNoPlacement (first_value found (codes "base")) ranges) (IsStopReason found) (of_placement found)
    (subst (λ (base : Option (List ℕ)). IfErr c.placed.result (IsNoPlacement base ranges)) c.get_str.ensures
    (subst (λ (ts : List (List ℕ)). IfErr c.placed.result (IsNoPlacement (option_copied c.get_str.result) ts)) texts c.placed.ensures.reason))
