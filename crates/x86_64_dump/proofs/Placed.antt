-- Placed: the first of the answers that a function gives of the items of a list.
use Rattle.std.proofs.Common.{◌≡◌, ◌∙◌, ◌<◌, ◌+◌, ℕ, zero, suc, true, false, List, [], ◌∷◌, ◌++◌, Option, None, Some, is_some, length, take, get_or, ap, refl, arith}
use Rattle.std.specs.List.{cons_option, filter_map, slice_get}
use Rattle.std.proofs.lemmas.List.{take_more}
use Rattle.std.proofs.lemmas.List.Elements.{filter_map-append}

-- the items before gave none
pub first_here : {X Y : Type 0} (h : X → Option Y) (xs : List X) (i : ℕ) (d : X) (found : Option Y) → i < length xs → filter_map h (take i xs) ≡ []
    → found ≡ h (get_or xs i d) → is_some found ≡ true → found ≡ slice_get (filter_map h xs) 0
first_here {X} {Y} h [] i d found below none here is = absurd (omega (arith, below))
first_here {X} {Y} h (x ∷ xs) zero d found below none here is = by (h x) found here is
  where
    by : (y found : Option Y) → found ≡ y → is_some found ≡ true → found ≡ slice_get (cons_option y (filter_map h xs)) 0
    by None found here is = cc
    by (Some y) found here is = here
first_here {X} {Y} h (x ∷ xs) (suc i) d found below none here is = by (h x) none (λ none. first_here h xs i d found (omega (arith, below)) none here is)
  where
    by : (y : Option Y) → cons_option y (filter_map h (take i xs)) ≡ [] → (filter_map h (take i xs) ≡ [] → found ≡ slice_get (filter_map h xs) 0) → found ≡ slice_get (cons_option y (filter_map h xs)) 0
    by None none rest = rest none
    by (Some y) none rest = cc

-- nor did the next one
pub none_yet : {X Y : Type 0} (h : X → Option Y) (xs : List X) (i : ℕ) (d : X) (found : Option Y) → i < length xs → filter_map h (take i xs) ≡ []
    → found ≡ h (get_or xs i d) → is_some found ≡ false → filter_map h (take (i + 1) xs) ≡ []
none_yet {X} {Y} h xs i d found below none here is =
    ap (filter_map h) (take_more xs i d below) ∙ filter_map-append h (take i xs) (get_or xs i d ∷ []) ∙ ap (λ (ys : List Y). ys ++ filter_map h (get_or xs i d ∷ [])) none ∙ by (h (get_or xs i d)) found here is
  where
    by : (y found : Option Y) → found ≡ y → is_some found ≡ false → cons_option y [] ≡ []
    by None found here is = refl
    by (Some y) found here is = cc
