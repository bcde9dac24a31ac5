-- Ascending numbers, each once.
use Rattle.std.proofs.Common.{◌≤◌, ◌<◌, ◌==◌, ℕ, zero, suc, Bool, true, false, cond, List, [], ◌∷◌, get_or, length, map, arith}
use Rattle.std.specs.List.{AllByRecursion, dedup, dedup_from}
use Rattle.std.specs.List.Sorted.{IsNonDecreasingBy}
use Rattle.ptdump_check.specs.Ascending.{Ascend}

abbrev same : (a b : ℕ) → Bool
same a b = a == b

all_kept : (k e : ℕ) (es : List ℕ) → k ≤ e → AllByRecursion (λ d. k ≤ d) es → AllByRecursion (λ d. k ≤ d) (dedup_from same e es)
all_kept k e [] le h = (le, tt)
all_kept k e (d ∷ es) le h = elim (d == e) as (λ b. AllByRecursion (λ d. k ≤ d) (cond b (dedup_from same e es) (e ∷ dedup_from same d es))) [
  | true ↦ all_kept k e es le h.1
  | false ↦ (le, all_kept k d es h.0 h.1)
]

ascend_from : (e : ℕ) (es : List ℕ) → AllByRecursion (λ d. e ≤ d) es → Ascend (λ d. d) es → Ascend (λ d. d) (dedup_from same e es)
ascend_from e [] h up = (tt, tt)
ascend_from e (d ∷ es) h up = elim (d == e) as (λ b. Ascend (λ d. d) (cond b (dedup_from same e es) (e ∷ dedup_from same d es))) [
  | true ↦ ascend_from e es h.1 up.1
  | false ↦ (all_kept e d es h.0 h.1, ascend_from d es up.0 up.1)
]

ascend_once : (es : List ℕ) → Ascend (λ d. d) es → Ascend (λ d. d) (dedup same es)
ascend_once [] up = tt
ascend_once (e ∷ es) up = ascend_from e es up.0 up.1

all_numbers : {X : Type 0} (n : X → ℕ) (k : ℕ) (xs : List X) → AllByRecursion (λ x. k ≤ n x) xs → AllByRecursion (λ d. k ≤ d) (map n xs)
all_numbers n k [] h = tt
all_numbers n k (x ∷ xs) h = (h.0, all_numbers n k xs h.1)

ascend_numbers : {X : Type 0} (n : X → ℕ) (xs : List X) → Ascend n xs → Ascend (λ d. d) (map n xs)
ascend_numbers n [] up = tt
ascend_numbers n (x ∷ xs) up = (all_numbers n (n x) xs up.0, ascend_numbers n xs up.1)

at : (k : ℕ) (es : List ℕ) (j d : ℕ) → AllByRecursion (λ e. k ≤ e) es → j < length es → k ≤ get_or es j d
at k [] j d h less = absurd (omega (arith, less))
at k (e ∷ es) zero d h less = h.0
at k (e ∷ es) (suc j) d h less = at k es j d h.1 (omega (arith, less))

non_decreasing : (es : List ℕ) → Ascend (λ d. d) es → IsNonDecreasingBy (λ d. d) es
non_decreasing [] up i j d le less = absurd (omega (arith, less))
non_decreasing (e ∷ es) up zero zero d le less = omega arith
non_decreasing (e ∷ es) up zero (suc j) d le less = at e es j d up.0 (omega (arith, less))
non_decreasing (e ∷ es) up (suc i) zero d le less = absurd (omega (arith, le))
non_decreasing (e ∷ es) up (suc i) (suc j) d le less = non_decreasing es up.1 i j d (omega (arith, le)) (omega (arith, less))

-- the numbers of elements that ascend, each once
pub once_in_order : {X : Type 0} (n : X → ℕ) (xs : List X) → Ascend n xs → IsNonDecreasingBy (λ d. d) (dedup (λ d e. d == e) (map n xs))
once_in_order n xs up = non_decreasing (dedup same (map n xs)) (ascend_once (map n xs) (ascend_numbers n xs up))
