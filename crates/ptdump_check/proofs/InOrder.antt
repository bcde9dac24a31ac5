-- A stable sort by a number gives the elements in order.
use Rattle.std.proofs.Common.{◌≡◌, ◌∙◌, ◌≤◌, ◌<◌, ◌==◌, ◌&&◌, ◌⊎◌, inl, inr, ⊎_elim, ℕ, suc, Bool, true, false, true≢false, false-eqb, not, cond, nat_le, nat_lt, List, [], ◌∷◌, filter, get_or, length, refl, sym, ap, ap₂, arith}
use Rattle.std.proofs.lemmas.Bool.{leb-true, leb-false, ltb-true, ltb-false, lt-ltb, le-ltb, eq-eqb, eqb-true}
use Rattle.std.specs.List.{AllByRecursion}
use Rattle.std.specs.List.Sorted.{IsNonDecreasingBy, IsSortedByKey, IsStableByKey, ties}
use Rattle.std.specs.Ordering.{is_lt, nat_cmp}
use Rattle.std.specs.declared.cmp.Ordering.TheVariants.{Less, Equal, Greater}
use Rattle.std.proofs.lemmas.List.Sorted.{IsNonDecreasingBy-from_sort}
use Rattle.ptdump_check.specs.InOrder.{inserted, in_order}
use Rattle.ptdump_check.specs.Ascending.{Ascend}

order : (a b : ℕ) → (a < b) ⊎ ((a ≡ b) ⊎ (b < a))
order a b = elim (nat_lt a b) as (λ t. nat_lt a b ≡ t → (a < b) ⊎ ((a ≡ b) ⊎ (b < a))) [
  | true ↦ λ is. inl (ltb-true a b is)
  | false ↦ λ is. inr (elim (a == b) as (λ t. (a == b) ≡ t → (a ≡ b) ⊎ (b < a)) [
    | true ↦ λ same. inl (eqb-true a b same)
    | false ↦ λ other. inr (let high = ltb-false a b is in let differ = false-eqb a b (sym other) in omega (arith, high, differ))
  ] refl)
] refl

module _ {X : Type 0} (n : X → ℕ) where
  -- ---- ascending lists

  all_above : (low high : ℕ) (ys : List X) → low ≤ high → AllByRecursion (λ y. high ≤ n y) ys → AllByRecursion (λ y. low ≤ n y) ys
  all_above low high [] le h = tt
  all_above low high (y ∷ ys) le h = (omega (arith, h.0), all_above low high ys le h.1)

  all_placed : (low : ℕ) (x : X) (ys : List X) → low ≤ n x → AllByRecursion (λ y. low ≤ n y) ys → AllByRecursion (λ y. low ≤ n y) (inserted n x ys)
  all_placed low x [] here h = (here, tt)
  all_placed low x (y ∷ ys) here h = elim (nat_le (n x) (n y)) as (λ b. AllByRecursion (λ y. low ≤ n y) (cond b (x ∷ y ∷ ys) (y ∷ inserted n x ys))) [
    | true ↦ (here, h)
    | false ↦ (h.0, all_placed low x ys here h.1)
  ]

  ascend_placed : (x : X) (ys : List X) → Ascend n ys → Ascend n (inserted n x ys)
  ascend_placed x [] h = (tt, tt)
  ascend_placed x (y ∷ ys) h = elim (nat_le (n x) (n y)) as (λ b. nat_le (n x) (n y) ≡ b → Ascend n (cond b (x ∷ y ∷ ys) (y ∷ inserted n x ys))) [
    | true ↦ λ is. let low : n x ≤ n y = leb-true (n x) (n y) is in ((low, all_above (n x) (n y) ys low h.0), h)
    | false ↦ λ is. let low = leb-false (n x) (n y) is in (all_placed (n y) x ys (omega (arith, low)) h.0, ascend_placed x ys h.1)
  ] refl

  pub ascend_in_order : (xs : List X) → Ascend n (in_order n xs)
  ascend_in_order [] = tt
  ascend_in_order (x ∷ xs) = ascend_placed x (in_order n xs) (ascend_in_order xs)

  above : (x : X) (xs : List X) → ((j : ℕ) (d : X) → j < length xs → n x ≤ n (get_or xs j d)) → AllByRecursion (λ y. n x ≤ n y) xs
  above x [] h = tt
  above x (y ∷ ys) h = (h 0 y (omega arith), above x ys (λ j d lt. h (suc j) d (omega (arith, lt))))

  pub ascend_from : (xs : List X) → IsNonDecreasingBy n xs → Ascend n xs
  ascend_from [] h = tt
  ascend_from (x ∷ xs) h = (above x xs (λ j d lt. h 0 (suc j) d (omega arith) (omega (arith, lt))), ascend_from xs (λ i j d le lt. h (suc i) (suc j) d (omega (arith, le)) (omega (arith, lt))))

  -- ---- elements with one number

  abbrev pub with : (number : ℕ) → List X → List X
  with k = filter (λ y. n y == k)

  with_placed : (k : ℕ) (x : X) (ys : List X) → with k (inserted n x ys) ≡ with k (x ∷ ys)
  with_placed k x [] = refl
  with_placed k x (y ∷ ys) = elim (nat_le (n x) (n y)) as (λ b. nat_le (n x) (n y) ≡ b → with k (cond b (x ∷ y ∷ ys) (y ∷ inserted n x ys)) ≡ with k (x ∷ y ∷ ys)) [
    | true ↦ λ is. refl
    | false ↦ λ is. ap (λ zs. cond (n y == k) (y ∷ zs) zs) (with_placed k x ys) ∙ swap (n x == k) (n y == k) refl refl (leb-false (n x) (n y) is)
  ] refl
    where
      swap : (a b : Bool) → (n x == k) ≡ a → (n y == k) ≡ b → n y < n x
          → cond b (y ∷ cond a (x ∷ with k ys) (with k ys)) (cond a (x ∷ with k ys) (with k ys)) ≡ cond a (x ∷ cond b (y ∷ with k ys) (with k ys)) (cond b (y ∷ with k ys) (with k ys))
      swap true true p q lt = absurd (omega (arith, eqb-true (n x) k p, eqb-true (n y) k q, lt))
      swap true false p q lt = refl
      swap false true p q lt = refl
      swap false false p q lt = refl

  with_in_order : (k : ℕ) (xs : List X) → with k (in_order n xs) ≡ with k xs
  with_in_order k [] = refl
  with_in_order k (x ∷ xs) = with_placed k x (in_order n xs) ∙ ap (λ zs. cond (n x == k) (x ∷ zs) zs) (with_in_order k xs)

  -- ---- ascending lists that agree on the elements with each number are equal

  -- none has a number below that of the first
  none_below : (k : ℕ) (ys : List X) → AllByRecursion (λ y. k < n y) ys → with k ys ≡ []
  none_below k [] h = refl
  none_below k (y ∷ ys) h = elim (n y == k) as (λ b. (n y == k) ≡ b → cond b (y ∷ with k ys) (with k ys) ≡ []) [
    | true ↦ λ is. absurd (omega (arith, eqb-true (n y) k is, h.0))
    | false ↦ λ is. none_below k ys h.1
  ] refl

  all_over : (k : ℕ) (y : X) (ys : List X) → k < n y → AllByRecursion (λ z. n y ≤ n z) ys → AllByRecursion (λ z. k < n z) ys
  all_over k y [] lt h = tt
  all_over k y (z ∷ zs) lt h = (omega (arith, lt, h.0), all_over k y zs lt h.1)

  self : (x : X) (xs : List X) → with (n x) (x ∷ xs) ≡ x ∷ with (n x) xs
  self x xs = ap (λ b. cond b (x ∷ with (n x) xs) (with (n x) xs)) (eq-eqb (n x) (n x) refl)

  -- the first number isn't below the other first number
  no_lower : (x y : X) (xs ys : List X) → Ascend n (y ∷ ys) → with (n x) (x ∷ xs) ≡ with (n x) (y ∷ ys) → n x < n y → ⊥
  no_lower x y xs ys up same lt =
      let none : with (n x) (y ∷ ys) ≡ [] = none_below (n x) (y ∷ ys) (lt, all_over (n x) y ys lt up.0) in
      let e : x ∷ with (n x) xs ≡ [] = sym (self x xs) ∙ same ∙ none in cc

  pub same_ascending : (xs ys : List X) → Ascend n xs → Ascend n ys → ((k : ℕ) → with k xs ≡ with k ys) → xs ≡ ys
  same_ascending [] [] up down same = refl
  same_ascending [] (y ∷ ys) up down same = let e : [] ≡ y ∷ with (n y) ys = same (n y) ∙ self y ys in cc
  same_ascending (x ∷ xs) [] up down same = let e : x ∷ with (n x) xs ≡ [] = sym (self x xs) ∙ same (n x) in cc
  same_ascending (x ∷ xs) (y ∷ ys) up down same =
      let level : n x ≡ n y = ⊎_elim (λ lt. absurd (no_lower x y xs ys down (same (n x)) lt)) (λ rest. ⊎_elim (λ e. e) (λ gt. absurd (no_lower y x ys xs up (sym (same (n y))) gt)) rest) (order (n x) (n y)) in
      let firsts : x ∷ with (n x) xs ≡ y ∷ with (n x) ys = sym (self x xs) ∙ same (n x) ∙ ap (λ k. with k (y ∷ ys)) level ∙ self y ys ∙ ap (λ k. y ∷ with k ys) (sym level) in
      let head : x ≡ y = cc in
      ap₂ (λ z zs. z ∷ zs) head (same_ascending xs ys up.1 down.1 (λ k. rest k (n x == k) (n y == k) refl refl (ap (λ m. m == k) level) (same k)))
    where
      rest : (k : ℕ) (a b : Bool) → (n x == k) ≡ a → (n y == k) ≡ b → (n x == k) ≡ (n y == k) → cond a (x ∷ with k xs) (with k xs) ≡ cond b (y ∷ with k ys) (with k ys) → with k xs ≡ with k ys
      rest k true true p q is e = cc
      rest k true false p q is e = absurd (true≢false (sym p ∙ is ∙ q))
      rest k false true p q is e = absurd (true≢false (sym q ∙ sym is ∙ p))
      rest k false false p q is e = e

  -- ---- what a stable sort by the number gives

  tie : (x y : X) → ties (λ a b. is_lt (nat_cmp (n a) (n b))) x y ≡ (n y == n x)
  tie x y = by (n y == n x) refl
    where
      less : (a b : ℕ) → is_lt (nat_cmp a b) ≡ nat_lt a b
      less a b = elim (nat_lt a b) as (λ c. is_lt (cond c Less (cond (a == b) Equal Greater)) ≡ c) [
        | true ↦ refl
        | false ↦ elim (a == b) as (λ d. is_lt (cond d Equal Greater) ≡ false) [ true ↦ refl | false ↦ refl ]
      ]

      by : (c : Bool) → (n y == n x) ≡ c → ties (λ a b. is_lt (nat_cmp (n a) (n b))) x y ≡ c
      by true is = let e = eqb-true (n y) (n x) is in ap₂ (λ a b. not a && not b) (less (n x) (n y) ∙ le-ltb (n x) (n y) (omega (arith, e))) (less (n y) (n x) ∙ le-ltb (n y) (n x) (omega (arith, e)))
      by false is = let differ = false-eqb (n y) (n x) (sym is) in ⊎_elim
          (λ lt. ap (λ a. not a && not (is_lt (nat_cmp (n y) (n x)))) (less (n x) (n y) ∙ lt-ltb (n x) (n y) lt))
          (λ rest. ⊎_elim (λ e. absurd (differ (sym e))) (λ gt. ap₂ (λ a b. not a && not b) (less (n x) (n y) ∙ le-ltb (n x) (n y) (omega (arith, gt))) (less (n y) (n x) ∙ lt-ltb (n y) (n x) gt)) rest)
          (order (n x) (n y))

  all_ties : (x : X) (ys : List X) → filter (ties (λ a b. is_lt (nat_cmp (n a) (n b))) x) ys ≡ with (n x) ys
  all_ties x [] = refl
  all_ties x (y ∷ ys) = ap₂ (λ b zs. cond b (y ∷ zs) zs) (tie x y) (all_ties x ys)

  absent : (k : ℕ) (xs : List X) → AllByRecursion (λ x. (n x == k) ≡ false) xs → with k xs ≡ []
  absent k [] h = refl
  absent k (x ∷ xs) h = ap (λ b. cond b (x ∷ with k xs) (with k xs)) h.0 ∙ absent k xs h.1

  -- lists that agree on the elements that tie with each element agree on those with each number
  found : (k : ℕ) (xs : List X) → ((x : X) × (n x ≡ k)) ⊎ (with k xs ≡ [])
  found k [] = inr refl
  found k (x ∷ xs) = elim (n x == k) as (λ b. (n x == k) ≡ b → ((x : X) × (n x ≡ k)) ⊎ (cond b (x ∷ with k xs) (with k xs) ≡ [])) [
    | true ↦ λ is. inl (x, eqb-true (n x) k is)
    | false ↦ λ is. found k xs
  ] refl

  agree : (xs ys : List X) → IsStableByKey n nat_cmp xs ys → (k : ℕ) → with k ys ≡ with k xs
  agree xs ys stable k = ⊎_elim (λ some. one some.0 some.1) (λ none. ⊎_elim (λ some. one some.0 some.1) (λ lacks. lacks ∙ sym none) (found k ys)) (found k xs)
    where
      one : (x : X) → n x ≡ k → with k ys ≡ with k xs
      one x is = ap (λ m. with m ys) (sym is) ∙ sym (all_ties x ys) ∙ stable x ∙ all_ties x xs ∙ ap (λ m. with m xs) is

  pub sorted_in_order : (xs ys : List X) → IsSortedByKey n nat_cmp ys → IsStableByKey n nat_cmp xs ys → ys ≡ in_order n xs
  sorted_in_order xs ys sorted stable = same_ascending ys (in_order n xs) (ascend_from ys (IsNonDecreasingBy-from_sort n ys sorted)) (ascend_in_order xs)
      (λ k. agree xs ys stable k ∙ sym (with_in_order k xs))
