use Rattle.std.proofs.Common.{List, ℕ, ◌∙◌, ap, codes, map, subst, refl, IfOk, IfErr}
use Rattle.std.proofs.lemmas.Result.{IfErr-weaker}
use Rattle.std.specs.Borrow.{Bor}
use Rattle.clap.specs.Matches.{found_of}
use Rattle.ptdump.specs.Reasons.{IsNoAddress, IsStopReason}
use Rattle.ptdump.specs.Requests.{TextsAreNumbers, IsUnreadArgument, values}
use Rattle.ptdump.proofs.NumberTexts.{texts_given}
use Rattle.ptdump.proofs.Reasons.{of_addresses}
use Rattle.ptdump.proofs.request.addresses_of.Goals as goal

pub returns-clause-ok : goal.returns-clause-ok
returns-clause-ok c =
    let texts = ap (λ (s : Bor (List (Bor (List ℕ)))). map (λ (v : Bor (List ℕ)). v.now) s.now) c.unwrap_or.ensures
    ∙ texts_given c.get_strs.result _ _ refl c.get_strs.ensures in
    subst (λ (ts : List (List ℕ)). IfOk c.numbers_of.result (λ numbers. TextsAreNumbers ts numbers.items)) texts c.numbers_of.ensures.ok

pub returns-clause-err : goal.returns-clause-err
returns-clause-err c =
    let texts = ap (λ (s : Bor (List (Bor (List ℕ)))). map (λ (v : Bor (List ℕ)). v.now) s.now) c.unwrap_or.ensures
    ∙ texts_given c.get_strs.result _ _ refl c.get_strs.ensures in
    subst (λ (ts : List (List ℕ)). IfErr c.numbers_of.result (IsUnreadArgument (TextsAreNumbers ts))) texts c.numbers_of.ensures.err

pub returns-clause-reason : goal.returns-clause-reason
returns-clause-reason c =
    let found = found_of c.args.arguments.now in
    let texts = ap (λ (s : Bor (List (Bor (List ℕ)))). map (λ (v : Bor (List ℕ)). v.now) s.now) c.unwrap_or.ensures
    ∙ texts_given c.get_strs.result _ _ refl c.get_strs.ensures in
    IfErr-weaker c.numbers_of.result (IsNoAddress (values found (codes "addresses"))) (IsStopReason found) (of_addresses found)
    (subst (λ (ts : List (List ℕ)). IfErr c.numbers_of.result (IsNoAddress ts)) texts c.numbers_of.ensures.reason)
