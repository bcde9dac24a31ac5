-- Ascending lists, of which the elements with one number are taken together.
use Rattle.std.proofs.Common.{◌≡◌, ◌≢◌, ◌∙◌, ◌≤◌, ◌<◌, ◌==◌, ℕ, suc, Bool, true, false, false-eqb, ne_eqb, cond, List, [], ◌∷◌, drop, map, length, Option, refl, sym, ap, ap₂, arith}
use Rattle.std.proofs.lemmas.Bool.{eq-eqb, eqb-true}
use Rattle.std.specs.List.{AllByRecursion, cons_option, dedup, dedup_from, filter_map}
use Rattle.ptdump_check.specs.Ascending.{Ascend}
use Rattle.ptdump_check.proofs.InOrder.{with}
use Rattle.ptdump_engine.specs.private.Alike.{alike}

abbrev same : (a b : ℕ) → Bool
same a b = a == b

module _ {X : Type 0} (n : X → ℕ) where
  all_over : (k : ℕ) (xs : List X) (y : X) → k < n y → AllByRecursion (λ z. n y ≤ n z) xs → AllByRecursion (λ z. k < n z) xs
  all_over k [] y lt h = tt
  all_over k (x ∷ xs) y lt h = (omega (arith, lt, h.0), all_over k xs y lt h.1)

  none : (k : ℕ) (xs : List X) → AllByRecursion (λ x. k < n x) xs → with n k xs ≡ []
  none k [] h = refl
  none k (x ∷ xs) h = elim (n x == k) as (λ b. (n x == k) ≡ b → cond b (x ∷ with n k xs) (with n k xs) ≡ []) [
    | true ↦ λ is. absurd (omega (arith, eqb-true (n x) k is, h.0))
    | false ↦ λ is. none k xs h.1
  ] refl

  -- no element at the front has a number below k
  abbrev From : (k : ℕ) → List X → Type 0
  From k xs = Ascend n xs × AllByRecursion (λ x. k ≤ n x) xs

  over : (k : ℕ) (x : X) → k ≤ n x → (n x == k) ≡ false → k < n x
  over k x le other = let differ = false-eqb (n x) k (sym other) in omega (arith, le, differ)

  count : (k : ℕ) (xs : List X) → From k xs → length (with n k xs) ≡ alike n k xs
  count k [] h = refl
  count k (x ∷ xs) h = elim (n x == k) as (λ b. (n x == k) ≡ b → length (cond b (x ∷ with n k xs) (with n k xs)) ≡ cond b (suc (alike n k xs)) 0) [
    | true ↦ λ is. ap suc (count k xs (h.0.1, h.1.1))
    | false ↦ λ other. ap length (none k xs (all_over k xs x (over k x h.1.0 other) h.0.0))
  ] refl

  firsts : (k : ℕ) (xs : List X) → dedup_from same k (map n xs) ≡ k ∷ dedup same (map n (drop (alike n k xs) xs))
  firsts k [] = refl
  firsts k (x ∷ xs) = elim (n x == k) as (λ b. cond b (dedup_from same k (map n xs)) (k ∷ dedup_from same (n x) (map n xs)) ≡ k ∷ dedup same (map n (drop (cond b (suc (alike n k xs)) 0) (x ∷ xs)))) [
    | true ↦ firsts k xs
    | false ↦ refl
  ]

  others : (k e : ℕ) (xs : List X) → e ≢ k → with n e xs ≡ with n e (drop (alike n k xs) xs)
  others k e [] differ = refl
  others k e (x ∷ xs) differ = elim (n x == k) as (λ b. (n x == k) ≡ b → with n e (x ∷ xs) ≡ with n e (drop (cond b (suc (alike n k xs)) 0) (x ∷ xs))) [
    | true ↦ λ is. ap (λ b. cond b (x ∷ with n e xs) (with n e xs)) (not_same (n x) e (λ same. differ (sym same ∙ eqb-true (n x) k is))) ∙ others k e xs differ
    | false ↦ λ other. refl
  ] refl
    where
      not_same : (a b : ℕ) → a ≢ b → (a == b) ≡ false
      not_same a b h = ne_eqb a b h

  rest_over : (k : ℕ) (xs : List X) → From k xs → AllByRecursion (λ x. k < n x) (drop (alike n k xs) xs)
  rest_over k [] h = tt
  rest_over k (x ∷ xs) h = elim (n x == k) as (λ b. (n x == k) ≡ b → AllByRecursion (λ x. k < n x) (drop (cond b (suc (alike n k xs)) 0) (x ∷ xs))) [
    | true ↦ λ is. rest_over k xs (h.0.1, h.1.1)
    | false ↦ λ other. let high = over k x h.1.0 other in (high, all_over k xs x high h.0.0)
  ] refl

  pub rest_ascends : (k : ℕ) (xs : List X) → Ascend n xs → Ascend n (drop (alike n k xs) xs)
  rest_ascends k [] h = tt
  rest_ascends k (x ∷ xs) h = elim (n x == k) as (λ b. Ascend n (drop (cond b (suc (alike n k xs)) 0) (x ∷ xs))) [ true ↦ rest_ascends k xs h.1 | false ↦ h ]

  -- ---- the numbers, each once

  all_kept : (k e : ℕ) (es : List ℕ) → k < e → AllByRecursion (λ d. k < d) es → AllByRecursion (λ d. k < d) (dedup_from same e es)
  all_kept k e [] lt h = (lt, tt)
  all_kept k e (d ∷ es) lt h = elim (d == e) as (λ b. AllByRecursion (λ d. k < d) (cond b (dedup_from same e es) (e ∷ dedup_from same d es))) [
    | true ↦ all_kept k e es lt h.1
    | false ↦ (lt, all_kept k d es h.0 h.1)
  ]

  all_numbers : (k : ℕ) (xs : List X) → AllByRecursion (λ x. k < n x) xs → AllByRecursion (λ d. k < d) (map n xs)
  all_numbers k [] h = tt
  all_numbers k (x ∷ xs) h = (h.0, all_numbers k xs h.1)

  all_once : (k : ℕ) (es : List ℕ) → AllByRecursion (λ d. k < d) es → AllByRecursion (λ d. k < d) (dedup same es)
  all_once k [] h = tt
  all_once k (e ∷ es) h = all_kept k e es h.0 h.1

  -- ---- each number with how many elements have it

  module _ {Y : Type 0} (g : (number count : ℕ) → Option Y) where
    abbrev pub grouped : List X → List Y
    grouped xs = filter_map (λ k. g k (length (with n k xs))) (dedup same (map n xs))

    agree : (k : ℕ) (xs ys : List X) (es : List ℕ) → ((e : ℕ) → e ≢ k → with n e xs ≡ with n e ys) → AllByRecursion (λ d. k < d) es
        → filter_map (λ e. g e (length (with n e xs))) es ≡ filter_map (λ e. g e (length (with n e ys))) es
    agree k xs ys [] same h = refl
    agree k xs ys (e ∷ es) same h = ap₂ cons_option (ap (λ zs. g e (length zs)) (same e (λ is. absurd (omega (arith, is, h.0))))) (agree k xs ys es same h.1)

    all_from : (x : X) (xs : List X) → Ascend n (x ∷ xs) → From (n x) (x ∷ xs)
    all_from x xs h = (h, (omega arith, h.0))

    pub grouped_more : (x : X) (xs : List X) → Ascend n (x ∷ xs)
        → grouped (x ∷ xs) ≡ cons_option (g (n x) (alike n (n x) (x ∷ xs))) (grouped (drop (alike n (n x) (x ∷ xs)) (x ∷ xs)))
    grouped_more x xs up =
        let all = all_from x xs up in
        let k = n x in
        let rest = drop (alike n k (x ∷ xs)) (x ∷ xs) in
        let starts : alike n k (x ∷ xs) ≡ suc (alike n k xs) = ap (λ b. cond b (suc (alike n k xs)) 0) (eq-eqb k k refl) in
        let numbers : dedup same (map n (x ∷ xs)) ≡ k ∷ dedup same (map n rest) = firsts k xs ∙ ap (λ m. k ∷ dedup same (map n (drop m (x ∷ xs)))) (sym starts) in
        ap (filter_map (λ e. g e (length (with n e (x ∷ xs))))) numbers
        ∙ ap₂ cons_option (ap (g k) (count k (x ∷ xs) all))
        (agree k (x ∷ xs) rest (dedup same (map n rest)) (λ e differ. others k e (x ∷ xs) differ) (all_once k (map n rest) (all_numbers k rest (rest_over k (x ∷ xs) all))))
