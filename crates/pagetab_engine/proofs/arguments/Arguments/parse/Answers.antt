use Rattle.std.proofs.Common.{rules, get_or, ◌≡◌, ◌<◌, ◌≤◌, ℕ, List, [], ◌∷◌, length, map, string_bytes, Option, Some, None, option_and_then, option_map, refl, arith}
use Rattle.std.proofs.lemmas.List.{length-map}
use Rattle.pagetab_engine.specs.Arguments.{arguments_in, mode_in, places_in}
use Rattle.pagetab_engine.specs.declared.arguments.Arguments.{Arguments}
use Rattle.pagetab_engine.proofs.arguments.Arguments.parse.Goals as goal
use Rattle.pagetab_engine.proofs.arguments.Arguments.parse.Goals.{in_default-via-then-words-lt2, in_default-via-else-words-lt2+else-words-lt3+else-words-lt4}

-- fewer words than two are no arguments
few : (words : List (List ℕ)) → length words < 2 → None ≡ arguments_in words
few [] small = refl
few (word ∷ []) small = refl
few (word ∷ places ∷ more) small = absurd (omega arith)

-- more words than three are none
many : (words : List (List ℕ)) → 4 ≤ length words → None ≡ arguments_in words
many [] large = absurd (omega arith)
many (word ∷ []) large = absurd (omega arith)
many (word ∷ places ∷ []) large = absurd (omega arith)
many (word ∷ places ∷ text ∷ []) large = absurd (omega arith)
many (word ∷ places ∷ text ∷ other ∷ more) large = by (places_in places)
  where
    by : (number : Option ℕ) → ◌≡◌ {A = Option Arguments} None (option_and_then (λ places. option_map (λ mode. record { mode = mode; places = places }) (mode_in word (text ∷ other ∷ more))) number)
    by None = refl
    by (Some number) = refl

two : {A : Type 0} (xs : List A) (a b : A) → length xs ≡ 2 → a ≡ get_or xs 0 a → b ≡ get_or xs 1 b → xs ≡ a ∷ b ∷ []
two [] a b long first second = absurd (omega arith)
two (x ∷ []) a b long first second = absurd (omega arith)
two (x ∷ y ∷ []) a b long first second = cc
two (x ∷ y ∷ z ∷ rest) a b long first second = absurd (omega arith)

three : {A : Type 0} (xs : List A) (a b d : A) → length xs ≡ 3 → a ≡ get_or xs 0 a → b ≡ get_or xs 1 b → d ≡ get_or xs 2 d → xs ≡ a ∷ b ∷ d ∷ []
three [] a b d long first second third = absurd (omega arith)
three (x ∷ []) a b d long first second third = absurd (omega arith)
three (x ∷ y ∷ []) a b d long first second third = absurd (omega arith)
three (x ∷ y ∷ z ∷ []) a b d long first second third = cc
three (x ∷ y ∷ z ∷ w ∷ rest) a b d long first second third = absurd (omega arith)

pub returns-in_default : goal.returns-in_default
returns-in_default c = elim c.in_default.branch [
  | in_default-via-then-words-lt2 w ↦ let small : length c.args.words.now < 2 = search rules in few (map string_bytes c.args.words.now) (simp length-map small)
  | in_default-via-else-words-lt2+else-words-lt3+else-words-lt4 w ↦ let large : 4 ≤ length c.args.words.now = search rules in many (map string_bytes c.args.words.now) (simp length-map large)
]

pub returns-in_err-parse_places-in-len2 : goal.returns-in_err-parse_places-in-len2
returns-in_err-parse_places-in-len2 c =
    let long : length c.args.words.now ≡ 2 = omega (arith, c.in-len2.len_at_least, c.in-len2.len_below) in
    rw (two c.args.words.now c.mode-item.result c.places-item.result long c.mode-item.is c.places-item.is) (search rules)

pub returns-in_err-parse_word-in-len2 : goal.returns-in_err-parse_word-in-len2
returns-in_err-parse_word-in-len2 c =
    let long : length c.args.words.now ≡ 2 = omega (arith, c.in-len2.len_at_least, c.in-len2.len_below) in
    rw (two c.args.words.now c.mode-item.result c.places-item.result long c.mode-item.is c.places-item.is) (search rules)

pub returns-in_ok-parse_word-in-len2 : goal.returns-in_ok-parse_word-in-len2
returns-in_ok-parse_word-in-len2 c =
    let long : length c.args.words.now ≡ 2 = omega (arith, c.in-len2.len_at_least, c.in-len2.len_below) in
    rw (two c.args.words.now c.mode-item.result c.places-item.result long c.mode-item.is c.places-item.is) (search rules)

pub returns-in_err-parse_places-in-len3 : goal.returns-in_err-parse_places-in-len3
returns-in_err-parse_places-in-len3 c =
    let long : length c.args.words.now ≡ 3 = omega (arith, c.in-len3.len_at_least, c.in-len3.len_below) in
    let mode = c.mode-item-then-words-lt4 in let places = c.places-item-then-words-lt4 in let number = c.number-item in
    rw (three c.args.words.now mode.result places.result number.result long mode.is places.is number.is) (search rules)

pub returns-in_err-parse_mode-in-len3 : goal.returns-in_err-parse_mode-in-len3
returns-in_err-parse_mode-in-len3 c =
    let long : length c.args.words.now ≡ 3 = omega (arith, c.in-len3.len_at_least, c.in-len3.len_below) in
    let mode = c.mode-item-then-words-lt4 in let places = c.places-item-then-words-lt4 in let number = c.number-item in
    rw (three c.args.words.now mode.result places.result number.result long mode.is places.is number.is) (search rules)

pub returns-in_ok-parse_mode-in-len3 : goal.returns-in_ok-parse_mode-in-len3
returns-in_ok-parse_mode-in-len3 c =
    let long : length c.args.words.now ≡ 3 = omega (arith, c.in-len3.len_at_least, c.in-len3.len_below) in
    let mode = c.mode-item-then-words-lt4 in let places = c.places-item-then-words-lt4 in let number = c.number-item in
    rw (three c.args.words.now mode.result places.result number.result long mode.is places.is number.is) (search rules)
