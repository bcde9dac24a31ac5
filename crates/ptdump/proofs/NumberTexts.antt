-- Texts of numbers.
use Rattle.std.proofs.Common.{◌≡◌, ◌<◌, ℕ, List, [], ◌∷◌, ◌++◌, ◌∙◌, Option, None, Some, false, true, true≢false, length, get_or, map, option_map, unwrap_or, sym, ap, subst}
use Rattle.std.proofs.lemmas.List.{map_push, length-map}
use Rattle.std.proofs.lemmas.List.Elements.{All-push}
use Rattle.std.proofs.Math.ListN.{get_or-map}
use Rattle.clap.specs.Matches.{raw_values}
use Rattle.clap.specs.declared.parser.matches.MatchedArg.{MatchedArg}
use Rattle.std.proofs.lemmas.List.Folds.{list_any_at}
use Rattle.std.proofs.lemmas.Slice.Eq.{bytes_eq-Decides}
use Rattle.std.specs.Borrow.{Bor}
use Rattle.std.specs.Option.{SomeIff}
use Rattle.std.specs.Str.{bytes_eq}
use Rattle.ptdump.specs.Asked.{is_listed}
use Rattle.ptdump.specs.Numbers.{IsNumeral, has_zero_in_front, number_of}
use Rattle.text.specs.Numbers as lenient
use Rattle.ptdump.specs.Requests.{TextsAreNumbers}

-- one more number
pub numbers_more : (texts : List (List ℕ)) (numbers : List ℕ) (text : List ℕ) → TextsAreNumbers texts numbers → IsNumeral text → TextsAreNumbers (texts ++ text ∷ []) (numbers ++ number_of text ∷ [])
numbers_more texts numbers text before is =
    (All-push IsNumeral texts text before.0 is, ap (λ (ns : List ℕ). ns ++ number_of text ∷ []) before.1 ∙ sym (map_push number_of texts text))

-- each of the texts is a number
pub number_at : (texts : List (Bor (List ℕ))) (numbers : List ℕ) (i : ℕ) (d : Bor (List ℕ)) → i < length texts → TextsAreNumbers (map (λ text. text.now) texts) numbers → IsNumeral (get_or texts i d).now
number_at texts numbers i d below are =
    let now : Bor (List ℕ) → List ℕ = λ text. text.now in
    subst IsNumeral (get_or-map now texts i d) (are.0 i (now d) (subst (λ n. i < n) (sym (length-map texts now)) below))

-- each of the texts is listed
pub listed_at : (texts : List (Bor (List ℕ))) (i : ℕ) (d : Bor (List ℕ)) → i < length texts → is_listed (map (λ text. text.now) texts) (get_or texts i d).now ≡ true
listed_at texts i d below =
    let now : Bor (List ℕ) → List ℕ = λ text. text.now in
    let text = (get_or texts i d).now in
    list_any_at (λ other. bytes_eq other text) (map now texts) i (now d) (subst (λ n. i < n) (sym (length-map texts now)) below)
    ((bytes_eq-Decides (get_or (map now texts) i (now d)) text).1 (get_or-map now texts i d))

-- the given texts are those of the values
pub texts_given : (texts : Option (Bor (List (Bor (List ℕ))))) (none : Bor (List (Bor (List ℕ)))) (all : Option MatchedArg) → none.now ≡ []
    → option_map (λ s. map (λ v. v.now) s.now) texts ≡ option_map raw_values all → map (λ v. v.now) (unwrap_or texts none).now ≡ unwrap_or (option_map raw_values all) []
texts_given None none all empty same = ap (map (λ (v : Bor (List ℕ)). v.now)) empty ∙ ap (λ (o : Option (List (List ℕ))). unwrap_or o []) same
texts_given (Some texts) none all empty same = ap (λ (o : Option (List (List ℕ))). unwrap_or o []) same

-- digits behind a zero are no number
pub no_number_behind_zero : (text : List ℕ) → has_zero_in_front text ≡ true → IsNumeral text → ⊥
no_number_behind_zero text zero is = true≢false (sym zero ∙ is.1)

-- a text without such a zero is a number if it is any
pub number_without_zero : (text : List ℕ) (result : Option ℕ) → SomeIff result (lenient.IsNumber text) (number_of text) → has_zero_in_front text ≡ false
    → SomeIff result (IsNumeral text) (number_of text)
number_without_zero text None isnt zero = λ is. isnt is.0
number_without_zero text (Some number) is zero = ((is.0, zero), is.1)
