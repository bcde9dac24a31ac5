-- The indices on the path to an entry are the first of those of its position.
use Rattle.std.proofs.Common.{◌≡◌, ◌+◌, ◌-◌, ◌≤◌, inl, inr, ℕ, [], ◌∷◌, ◌++◌, length, take, refl, ap, ◌∙◌, arith}
use Rattle.std.proofs.lemmas.List.{take-append-le, take_all}
use Rattle.x86_64_addr.specs.Levels.{IsLevelCount}
use Rattle.x86_64_model.proofs.Lemmas.Machines.Spares.{length_path}
use Rattle.x86_64_model.proofs.Lemmas.Paths.Pages.{length_taken}
use Rattle.x86_64_model.specs.Path.{path_at}
use Rattle.x86_64_model.specs.Position.{index, page_path}

of_four : (p a b c d e : ℕ) → a ≡ index 4 p → b ≡ index 3 p → c ≡ index 2 p → d ≡ index 1 p → a ∷ b ∷ c ∷ d ∷ e ∷ [] ≡ page_path 4 p ++ e ∷ []
unfolding page_path
of_four p a b c d e isa isb isc isd = rw (isa, isb, isc, isd) refl

of_five : (p a b c d e : ℕ) → a ≡ index 5 p → b ≡ index 4 p → c ≡ index 3 p → d ≡ index 2 p → e ≡ index 1 p → a ∷ b ∷ c ∷ d ∷ e ∷ [] ≡ page_path 5 p
unfolding page_path
of_five p a b c d e isa isb isc isd ise = rw (isa, isb, isc, isd, ise) refl

at_four : (level p a b c d e : ℕ) → 1 ≤ level → a ≡ index 4 p → b ≡ index 3 p → c ≡ index 2 p → d ≡ index 1 p → take (5 - level) (a ∷ b ∷ c ∷ d ∷ e ∷ []) ≡ path_at 4 level p
at_four level p a b c d e low isa isb isc isd =
    ap (λ q. take (5 - level) q) (of_four p a b c d e isa isb isc isd)
    ∙ take-append-le (5 - level) (page_path 4 p) (e ∷ []) (let long = length_path 4 p in omega (arith, long))

at_five : (level p a b c d e : ℕ) → a ≡ index 5 p → b ≡ index 4 p → c ≡ index 3 p → d ≡ index 2 p → e ≡ index 1 p → take (6 - level) (a ∷ b ∷ c ∷ d ∷ e ∷ []) ≡ path_at 5 level p
at_five level p a b c d e isa isb isc isd ise = ap (λ q. take (6 - level) q) (of_five p a b c d e isa isb isc isd ise)

-- with four levels the last index is there twice
pub path_to : (L level p a b c d e : ℕ) → IsLevelCount L → 1 ≤ level → a ≡ index L p → b ≡ index (L - 1) p → c ≡ index (L - 2) p → d ≡ index (L - 3) p → e ≡ index 1 p
    → take (L + 1 - level) (a ∷ b ∷ c ∷ d ∷ e ∷ []) ≡ path_at L level p
path_to L level p a b c d e (inl four) low isa isb isc isd ise = rw four (at_four level p a b c d e low (rw four at isa) (rw four at isb) (rw four at isc) (rw four at isd))
path_to L level p a b c d e (inr five) low isa isb isc isd ise = rw five (at_five level p a b c d e (rw five at isa) (rw five at isb) (rw five at isc) (rw five at isd) ise)

pub path_length : (L level p : ℕ) → 1 ≤ level → level ≤ L → length (path_at L level p) + level ≡ L + 1
path_length L level p low high = let is = length_taken p (L + 1 - level) L (omega arith) in omega (arith, is)

pub to_the_last : (L p : ℕ) → path_at L 1 p ≡ page_path L p
to_the_last L p =
    ap (λ n. take n (page_path L p)) (let e : L + 1 - 1 ≡ L = omega arith in e)
    ∙ take_all L (page_path L p) (let long = length_path L p in omega (arith, long))
