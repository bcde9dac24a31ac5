-- Lists that are gone through element by element, of which each gives a part.
use Rattle.std.proofs.Common.{◌≡◌, ◌∙◌, ◌+◌, ◌<◌, ◌++◌, ℕ, List, [], ◌∷◌, Option, None, map, take, get_or, length, refl, sym, ap, append-nil, arith}
use Rattle.std.proofs.lemmas.Grind.{flat_map-append}
use Rattle.std.proofs.lemmas.List.{map-id, take_more}
use Rattle.std.proofs.lemmas.List.Elements.{filter_map-append}
use Rattle.std.proofs.lemmas.List.FromFn.{map-range_with_len_more}
use Rattle.std.specs.List.{cons_option, filter_map, flat_map, range_with_len}

-- one more element
pub filter_more : {X Y : Type 0} (f : X → Option Y) (xs : List X) (i : ℕ) (d : X) → i < length xs
    → filter_map f (take (i + 1) xs) ≡ filter_map f (take i xs) ++ cons_option (f (get_or xs i d)) []
filter_more f xs i d below = ap (filter_map f) (take_more xs i d below) ∙ filter_map-append f (take i xs) (get_or xs i d ∷ [])

pub flat_more : {X Y : Type 0} (f : X → List Y) (xs : List X) (i : ℕ) (d : X) → i < length xs
    → flat_map f (take (i + 1) xs) ≡ flat_map f (take i xs) ++ f (get_or xs i d)
flat_more f xs i d below = ap (flat_map f) (take_more xs i d below) ∙ flat_map-append f (take i xs) (get_or xs i d ∷ []) ∙ ap (λ ys. flat_map f (take i xs) ++ ys) (append-nil (f (get_or xs i d)))

-- one more index
pub range_more : {Y : Type 0} (f : ℕ → Option Y) (i : ℕ) → filter_map f (range_with_len 0 (i + 1)) ≡ filter_map f (range_with_len 0 i) ++ cons_option (f i) []
range_more f i = ap (filter_map f) (next i) ∙ filter_map-append f (range_with_len 0 i) (i ∷ [])
  where
    next : (i : ℕ) → range_with_len 0 (i + 1) ≡ range_with_len 0 i ++ i ∷ []
    next i = sym (map-id (range_with_len 0 (i + 1))) ∙ map-range_with_len_more (λ j. j) 0 i i (omega arith) ∙ ap (λ is. is ++ i ∷ []) (map-id (range_with_len 0 i))

-- nothing is kept
pub filter_nothing : {X Y : Type 0} (f : X → Option Y) → ((x : X) → f x ≡ None) → (xs : List X) → filter_map f xs ≡ []
filter_nothing f none [] = refl
filter_nothing f none (x ∷ xs) = ap (λ o. cons_option o (filter_map f xs)) (none x) ∙ filter_nothing f none xs
