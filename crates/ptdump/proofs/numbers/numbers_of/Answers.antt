use Rattle.std.proofs.Common.{◌∙◌, ◌++◌, ◌∷◌, [], ℕ, List, Option, ap, sym, subst, inr, map, take, get_or}
use Rattle.std.proofs.lemmas.List.{map_more}
use Rattle.std.specs.Borrow.{Bor}
use Rattle.std.specs.Option.{SomeIff}
use Rattle.ptdump.specs.Numbers.{IsNumeral, number_of}
use Rattle.ptdump.specs.Requests.{TextsAreNumbers}
use Rattle.ptdump.proofs.NumberTexts.{listed_at, numbers_more, number_at}
use Rattle.ptdump.proofs.numbers.numbers_of.Goals as goal

nothing : Bor (List ℕ)
nothing = record { ref_ptr = (0, 0); now = [] }

pub loop-text-preserved : goal.loop-text-preserved
unfolding nothing
loop-text-preserved c =
    let text = (get_or c.args.texts.now c.loop-text.text-index nothing).now in
    let before = map (λ (text : Bor (List ℕ)). text.now) (take c.loop-text.text-index c.args.texts.now) in
    let number = subst (λ (read : Option ℕ). SomeIff read (IsNumeral text) (number_of text)) c.in-Some.is c.read_number.ensures in
    let texts = map_more (λ (text : Bor (List ℕ)). text.now) c.args.texts.now c.loop-text.text-index nothing c.loop-text-test.true in
    let numbers = c.in_ok-push.ensures.items ∙ ap (λ (n : ℕ). c.loop-text.numbers.items ++ n ∷ []) number.1 in
    subst (λ (ts : List (List ℕ)). TextsAreNumbers ts c.push.new.self.items) (sym texts)
    (subst (λ (ns : List ℕ). TextsAreNumbers (before ++ text ∷ []) ns) (sym numbers)
    (numbers_more before c.loop-text.numbers.items text c.loop-text.invariant number.0))

pub returns-in_default-clause-err : goal.returns-in_default-clause-err
unfolding nothing
returns-in_default-clause-err c =
    let text = (get_or c.args.texts.now c.loop-text.text-index nothing).now in
    let no_number = subst (λ (read : Option ℕ). SomeIff read (IsNumeral text) (number_of text)) c.in_default.is c.read_number.ensures in
    inr (λ numbers are. no_number (number_at c.args.texts.now numbers c.loop-text.text-index nothing c.loop-text-test.true are))

pub returns-in_default-clause-reason : goal.returns-in_default-clause-reason
unfolding nothing
returns-in_default-clause-reason c =
    let text = (get_or c.args.texts.now c.loop-text.text-index nothing).now in
    let no_number = subst (λ (read : Option ℕ). SomeIff read (IsNumeral text) (number_of text)) c.in_default.is c.read_number.ensures in
    (listed_at c.args.texts.now c.loop-text.text-index nothing c.loop-text-test.true, no_number)
