-- The places of a memory in order, and the index at which a search finds one.
use Rattle.std.proofs.Common.{◌≡◌, ◌≢◌, ◌<◌, ◌≤◌, ◌+◌, ◌-◌, ◌%◌, ◌^◌, ◌&&◌, nat_lt, ℕ, Bool, true, false, cond, List, [], ◌∷◌, length, get_or, slice_get, map, Some, None, IsSome, is_some, Result, Ok, Err, ◌⊎◌, inl, inr, Less, refl, sym, ap, ap₂, subst, ◌∙◌, arith, lt-ltb, le-ltb}
use Rattle.std.proofs.lemmas.Bool.{cases_lt, false≢true}
use Rattle.std.proofs.lemmas.List.Kept.{AllPairs-from_increasing}
use Rattle.std.proofs.lemmas.List.Sorted.{searched}
use Rattle.std.proofs.lemmas.List.Sums.{position_or_len_is}
use Rattle.std.proofs.lemmas.Option.{slice_get_past}
use Rattle.std.proofs.lemmas.Map.Keys.{sorted_from_strictly_increasing}
use Rattle.std.specs.Prelude.{T}
use Rattle.std.specs.Result.{result_ok}
use Rattle.std.specs.List.{position, AllByRecursion}
use Rattle.std.specs.List.Sorted.{IsStrictlyIncreasing, IsStrictlySortedBy, IsBinarySearchResult}
use Rattle.std.specs.Ordering.{nat_cmp, eq_by_cmp, is_lt}
use Rattle.std.specs.Cmp.{nat_cmp_total}
use Rattle.std.specs.FinMap.Entries.{below_all}
use Rattle.std.specs.FinMap.{get, keys, entries, find, is_sorted, from_sorted, entries-from_sorted, get-empty, get-from_sorted, get-insert, same_map, nat_cmp-IsAntisymmetric}
use Rattle.x86_64_model.proofs.Lemmas.Hierarchies.Memories.{same_key, other_key}
use Rattle.x86_64_model.specs.Memory.{Memory}
use Rattle.x86_64_tables.specs.PhysMemory.{tables_at}
use Rattle.x86_64_tables.specs.private.SortedPlaces.{HasRun}
use Rattle.x86_64_tables.proofs.Places.{rank, there, gone, found_there}

-- the tables with their places
abbrev pairs : List ℕ → List (List ℕ) → List (ℕ × List ℕ)
pairs [] ts = []
pairs (p ∷ ps) [] = []
pairs (p ∷ ps) (t ∷ ts) = (p, t) ∷ pairs ps ts

keys_pairs : (ps : List ℕ) (ts : List (List ℕ)) → length ts ≡ length ps → map (λ e. e.0) (pairs ps ts) ≡ ps
keys_pairs [] ts e = refl
keys_pairs (p ∷ ps) [] e = absurd (omega (arith, e))
keys_pairs (p ∷ ps) (t ∷ ts) e = ap (λ xs. p ∷ xs) (keys_pairs ps ts (omega (arith, e)))

tables_pairs : (ps : List ℕ) (ts : List (List ℕ)) → length ts ≡ length ps → map (λ e. e.1) (pairs ps ts) ≡ ts
tables_pairs [] [] e = refl
tables_pairs [] (t ∷ ts) e = absurd (omega (arith, e))
tables_pairs (p ∷ ps) [] e = refl
tables_pairs (p ∷ ps) (t ∷ ts) e = ap (λ xs. t ∷ xs) (tables_pairs ps ts (omega (arith, e)))

below : (p : ℕ) (ps : List ℕ) (ts : List (List ℕ)) → AllByRecursion (λ y. nat_cmp p y ≡ Less) ps
    → below_all nat_cmp p (pairs ps ts) ≡ true
below p [] ts h = refl
below p (q ∷ ps) [] h = refl
below p (q ∷ ps) (t ∷ ts) h = ap₂ (λ a b. is_lt a && b) h.0 (below p ps ts h.1)

rises : (ps : List ℕ) (ts : List (List ℕ)) → IsStrictlySortedBy nat_cmp ps → is_sorted nat_cmp (pairs ps ts) ≡ true
unfolding IsStrictlySortedBy
rises [] ts h = refl
rises (p ∷ ps) [] h = refl
rises (p ∷ ps) (t ∷ ts) h = ap₂ (λ a b. a && b) (below p ps ts h.0) (rises ps ts h.1)

holds : (b : Bool) → b ≡ true → T b
holds true e = tt
holds false e = cc

find_pairs : (ps : List ℕ) (ts : List (List ℕ)) (q : ℕ) → get (tables_at ps ts) q ≡ find nat_cmp q (pairs ps ts)
find_pairs [] ts q = get-empty nat_cmp q
find_pairs (p ∷ ps) [] q = get-empty nat_cmp q
find_pairs (p ∷ ps) (t ∷ ts) q =
    get-insert nat_cmp_total (tables_at ps ts) p t q ∙ ap (cond (eq_by_cmp nat_cmp q p) (Some t)) (find_pairs ps ts q)

module _ (ps : List ℕ) (ts : List (List ℕ)) (up : IsStrictlyIncreasing ps) where
  in_order : T (is_sorted nat_cmp (pairs ps ts))
  in_order = holds _ (rises ps ts (sorted_from_strictly_increasing ps up))

  is_in_order : tables_at ps ts ≡ from_sorted {R = nat_cmp} (pairs ps ts)
  is_in_order =
      same_map nat_cmp_total nat_cmp-IsAntisymmetric _ _ (λ q. find_pairs ps ts q ∙ sym (get-from_sorted nat_cmp (pairs ps ts) q in_order))

  -- the places are the keys, in order
  pub keys-tables : length ts ≡ length ps → keys (tables_at ps ts) ≡ ps
  keys-tables n =
      ap keys is_in_order ∙ ap (λ es. map (λ e. e.0) es) (entries-from_sorted nat_cmp (pairs ps ts) in_order) ∙ keys_pairs ps ts n

  -- the tables, in the order of their places
  pub values-tables : length ts ≡ length ps → map (λ e. e.1) (entries (tables_at ps ts)) ≡ ts
  values-tables n =
      ap (λ m. map (λ e. e.1) (entries m)) is_in_order
      ∙ ap (λ es. map (λ e. e.1) es) (entries-from_sorted nat_cmp (pairs ps ts) in_order) ∙ tables_pairs ps ts n

module _ (ps : List ℕ) (q : ℕ) where
  -- a place is found at its index
  pub position_there : IsStrictlyIncreasing ps → (i : ℕ) → i < length ps → get_or ps i 0 ≡ q
      → Some i ≡ position (eq_by_cmp nat_cmp q) ps
  position_there up i l is =
      let pairwise = AllPairs-from_increasing ps up in
      let first : rank ps q ≡ i = position_or_len_is (eq_by_cmp nat_cmp q) ps i 0 (omega (arith, l))
      (λ k h. other_key q (get_or ps k 0) (λ e. let less = pairwise k i 0 h l in omega (arith, less, is, e)))
      (λ h. ap (eq_by_cmp nat_cmp q) is ∙ same_key q) in
      sym (ap (λ n. cond (nat_lt n (length ps)) (Some n) None) first ∙ ap (λ b. cond b (Some i) None) (lt-ltb i (length ps) l))

  -- a place without an index isn't found
  pub position_gone : ((k : ℕ) → k < length ps → get_or ps k 0 ≢ q) → None ≡ position (eq_by_cmp nat_cmp q) ps
  position_gone apart =
      let n = length ps in
      let none : rank ps q ≡ n = position_or_len_is (eq_by_cmp nat_cmp q) ps n 0 (omega arith)
      (λ k h. other_key q (get_or ps k 0) (λ e. apart k h (sym e))) (λ h. absurd (omega (arith, h))) in
      sym (ap (λ k. cond (nat_lt k n) (Some k) None) none ∙ ap (λ b. cond b (Some n) None) (le-ltb n n (omega arith)))

ordered : (ps : List ℕ) → IsStrictlyIncreasing ps → (i j : ℕ) → i ≤ j → j < length ps → get_or ps i 0 ≤ get_or ps j 0
ordered ps up i j h l = elim (cases_lt i j) [
  | inl less ↦ (let low = AllPairs-from_increasing ps up i j 0 less l in omega (arith, low))
  | inr same ↦ (let e : i ≡ j = omega (arith, h, same) in let f = ap (λ k. get_or ps k 0) e in omega (arith, f))
]

-- binary search finds the index of a place
pub position_searched : (ps : List ℕ) (q : ℕ) (r : Result ℕ ℕ) → IsStrictlyIncreasing ps
    → IsBinarySearchResult (λ y. nat_cmp y q) ps r → result_ok r ≡ position (eq_by_cmp nat_cmp q) ps
position_searched ps q (Ok i) up found =
    let there = searched ps q (Ok i) found (ordered ps up) in
    position_there ps q up i there.0 there.1
position_searched ps q (Err i) up found =
    let split = searched ps q (Err i) found (ordered ps up) in
    position_gone ps q (λ k l e. elim (cases_lt k i) [
      | inl before ↦ (let less = split.1 k before in omega (arith, less, e))
      | inr after ↦ (let more = split.2 k after l in omega (arith, more, e))
    ])

-- if the places are the numbers from 0 on, each is its own index
module _ (ps : List ℕ) (q : ℕ) (up : IsStrictlyIncreasing ps) (all : HasRun ps 0 (length ps)) where
  pub position_dense : q < length ps → Some q ≡ position (eq_by_cmp nat_cmp q) ps
  position_dense near = position_there ps q up q near (let is = all.follow q near in omega (arith, is))

  pub position_past : length ps ≤ q → None ≡ position (eq_by_cmp nat_cmp q) ps
  position_past past = position_gone ps q (λ k h e. let is = all.follow k h in omega (arith, is, e, h, past))

  pub position_dense_there : IsSome (position (eq_by_cmp nat_cmp q) ps) → Some q ≡ position (eq_by_cmp nat_cmp q) ps
  position_dense_there there = elim (cases_lt q (length ps)) [
    | inl near ↦ position_dense near
    | inr past ↦ absurd (false≢true (ap is_some (position_past past) ∙ there))
  ]

module _ (ps : List ℕ) (ts : List (List ℕ)) (m : Memory) (same : length ts ≡ length ps) (is : tables_at ps ts ≡ m)
    (up : IsStrictlyIncreasing ps) (all : HasRun (keys m) 0 (length (keys m))) (q : ℕ) where
  dense : HasRun ps 0 (length ps)
  dense = subst (λ (ps : List ℕ). HasRun ps 0 (length ps)) (sym (ap keys is) ∙ keys-tables ps ts up same) all

  pub stands : q < length ts → position (eq_by_cmp nat_cmp q) ps ≡ Some q
  stands near = sym (position_dense ps q up dense (omega (arith, near, same)))

  pub stands_there : IsSome (get m q) → position (eq_by_cmp nat_cmp q) ps ≡ Some q
  stands_there has = sym (position_dense_there ps q up dense (found_there ps ts m same is q has _ refl))

  pub dense_table : slice_get ts q ≡ get m q
  dense_table = elim (cases_lt q (length ts)) [
    | inl near ↦ there ps ts m same is q q (stands near)
    | inr past ↦ slice_get_past ts q past ∙ gone ps ts m same is q (sym (position_past ps q up dense (omega (arith, past, same))))
  ]

-- the index of a place in the run is its distance from the first
pub position_in_run : (ps : List ℕ) (first run q : ℕ) → IsStrictlyIncreasing ps → HasRun ps first run → q < 2 ^ 64
    → (q + (2 ^ 64 - first)) % 2 ^ 64 < run → Some ((q + (2 ^ 64 - first)) % 2 ^ 64) ≡ position (eq_by_cmp nat_cmp q) ps
position_in_run ps first run q up has small near =
    let d = (q + (2 ^ 64 - first)) % 2 ^ 64 in
    let fits = has.fits in
    let within = has.within in
    let there = has.follow d near in
    let is : first + d ≡ q = wrapped (cases_lt q first) in
    position_there ps q up d (omega (arith, within, near)) (there ∙ is)
  where
    wrapped : (q < first) ⊎ (first ≤ q) → first + (q + (2 ^ 64 - first)) % 2 ^ 64 ≡ q
    wrapped (inl less) = absurd (omega (arith, less, small, near, has.fits))
    wrapped (inr more) = omega (arith, more, small, has.fits)
