-- The positions whose first indices are a path's are an interval.
use Rattle.std.proofs.Common.{zero, suc, ◌≡◌, ◌↔◌, ◌<◌, ◌≤◌, ◌+◌, ◌-◌, ◌*◌, ◌/◌, ◌%◌, ◌^◌, ℕ, ◌==◌, true, List, [], ◌∷◌, length, fold, refl, sym, ap, ◌∙◌, subst, arith, eqb-true, eq-eqb, pow_pos}
use Rattle.std.proofs.lemmas.Bool.{and_parts, and_from}
use Rattle.std.proofs.lemmas.Nat.{pow-add, div-mul-add}
use Rattle.std.proofs.Math.Nat.{div-div-eq-div-mul, div-mul-le_self, lt-div-mul-add, div-eq_of_lt}
use Rattle.x86_64_model.specs.Position.{index, page_path}
use Rattle.x86_64_model.specs.Path.{AllBelow, begins, span_size}
use Rattle.x86_64_model.specs.Laws.Positions.{SpansAreIntervals}

-- the number of the span of level m + 1 that a position lies in
abbrev pub number : (m p : ℕ) → ℕ
number m p = p / 2 ^ (12 + 9 * m)

pub number-up : (m p : ℕ) → number (suc m) p ≡ number m p / 512
number-up m p = ap (λ n. p / n) (ap (λ n. 2 ^ n) (let e : 12 + 9 * suc m ≡ (12 + 9 * m) + 9 = omega arith in e) ∙ pow-add 2 (12 + 9 * m) 9) ∙ sym (div-div-eq-div-mul p (2 ^ (12 + 9 * m)) 512)

pub index-number : (m p : ℕ) → index (suc m) p ≡ number m p % 512
unfolding index
index-number m p = ap (λ n. p / 2 ^ (12 + 9 * n) % 512) (let e : suc m - 1 ≡ m = omega arith in e)

abbrev pub digits : (a : ℕ) → List ℕ → ℕ
digits a q = fold (λ n i. n * 512 + i) a q

abbrev Numbered : (q : List ℕ) (m a p : ℕ) → Type 0
Numbered q m a p = (begins q (page_path m p) ≡ true) × (number m p ≡ a) ↔ (number (m - length q) p ≡ digits a q)

-- one index more at the front
one_more : (i : ℕ) (q : List ℕ) (m a p : ℕ) → i < 512 → Numbered q m (a * 512 + i) p → Numbered (i ∷ q) (suc m) a p
unfolding page_path
one_more i q m a p small on = (
  λ h. let parts = and_parts (i == index (suc m) p) (begins q (page_path m p)) h.0 in
      same ∙ on.0 (parts.1, joined (number m p) (eqb-true i (index (suc m) p) parts.0 ∙ index-number m p) (sym (number-up m p) ∙ h.1)),
  λ h. let back = on.1 (sym same ∙ h) in
      (and_from (i == index (suc m) p) (begins q (page_path m p)) (eq-eqb i (index (suc m) p) (low (number m p) back.1 ∙ sym (index-number m p))) back.0, number-up m p ∙ high (number m p) back.1),
)
  where
    same : number (suc m - suc (length q)) p ≡ number (m - length q) p
    same = ap (λ n. number n p) (omega arith)

    joined : (x : ℕ) → i ≡ x % 512 → x / 512 ≡ a → x ≡ a * 512 + i
    joined x e f = omega arith

    low : (x : ℕ) → x ≡ a * 512 + i → i ≡ x % 512
    low x e = omega arith

    high : (x : ℕ) → x ≡ a * 512 + i → x / 512 ≡ a
    high x e = omega arith

-- a path's indices are the position's, below a span of number a, if and only if the position lies in the span that they number
numbered : (q : List ℕ) (m a p : ℕ) → length q ≤ m → AllBelow q → Numbered q m a p
numbered [] m a p l below = let same : number (m - 0) p ≡ number m p = ap (λ n. number n p) (omega arith) in (λ h. same ∙ h.1, λ h. (refl, sym same ∙ h))
numbered (i ∷ q) zero a p l below = absurd (omega arith)
numbered (i ∷ q) (suc m) a p l below = one_more i q m a p below.0 (numbered q m (a * 512 + i) p (omega arith) below.1)

-- a number's multiple is an interval
interval : (p s v : ℕ) → 0 < s → (p / s ≡ v) ↔ (v * s ≤ p) × (p < v * s + s)
interval p s v pos = (
  λ e. (subst (λ v. v * s ≤ p) e (div-mul-le_self p s), subst (λ v. p < v * s + s) e (lt-div-mul-add pos)),
  λ h. let low = h.0 in let high = h.1 in ap (λ p. p / s) (let e : p ≡ v * s + (p - v * s) = omega (arith, low) in e) ∙ div-mul-add v s (p - v * s) (omega (arith, low, high)),
)

pub spans_are_intervals : SpansAreIntervals
spans_are_intervals L q p one most below inside = (
  λ h. (interval p size (digits 0 q) pos).0 (sym at ∙ on.0 (h, top)),
  λ h. (on.1 (at ∙ (interval p size (digits 0 q) pos).1 h)).0,
)
  where
    size : ℕ
    size = span_size L q

    on : (begins q (page_path L p) ≡ true) × (number L p ≡ 0) ↔ (number (L - length q) p ≡ digits 0 q)
    on = numbered q L 0 p most below

    top : number L p ≡ 0
    top = div-eq_of_lt inside

    at : number (L - length q) p ≡ p / span_size L q
    at = ap (λ n. p / 2 ^ (12 + 9 * n)) (let e : L - length q ≡ L + 1 - length q - 1 = omega arith in e)

    pos : 0 < span_size L q
    pos = pow_pos (12 + 9 * (L + 1 - length q - 1))
