-- The path map that words hold.
use Rattle.std.proofs.Common.{◌≡◌, ◌⊎◌, inl, inr, ⊎_elim, ◌<◌, ◌≤◌, ℕ, zero, suc, ◌&&◌, true, false, not, cond, List, [], ◌∷◌, ◌++◌, length, fold, Some, None, IsSome, nat_lt, refl, sym, ap, ◌∙◌, subst, arith, append_assoc, lt-ltb}
use Rattle.std.specs.FinMap.{empty}
use Rattle.std.proofs.lemmas.Bool.{cases_lt}
use Rattle.x86_64_model.specs.Entry.{huge, address, names_table}
use Rattle.x86_64_model.specs.Memory.{Words, word}
use Rattle.x86_64_model.specs.PathMap.{PathMap, entry, put, HasUsedAlone, table_of, table_at}
use Rattle.x86_64_model.specs.Validity.{entry_in, Holds, read_at, paths_of}
use Rattle.x86_64_model.specs.Lists.{In}
use Rattle.x86_64_model.specs.Path.{AllBelow, paths_below, indices}
use Rattle.x86_64_model.proofs.Lemmas.Lists.Members.{in_left, in_right, in_flat_map, in_indices}
use Rattle.x86_64_model.proofs.Lemmas.Paths.Puts.{entry-put, same_path, same_path_true, same_path_itself, used_alone-put, entry-empty, used_alone-empty}
use Rattle.x86_64_model.proofs.Lemmas.Hierarchies.Held.{Law, one_by_law, word_past}
use Rattle.x86_64_model.proofs.Lemmas.Maps.Down.{nat_lt-suc}
use Rattle.x86_64_model.proofs.Lemmas.Hierarchies.Changes.{unused_no_table, zero_not_used}

pub in_paths_below : (n : ℕ) (q : List ℕ) (i : ℕ) (p : List ℕ) → length (i ∷ p) ≤ n → AllBelow (i ∷ p) → In (paths_below n q) (q ++ i ∷ p)
unfolding paths_below
in_paths_below zero q i p l a = absurd (omega arith)
in_paths_below (suc n) q i [] l a = in_flat_map (λ i. paths_below n (q ++ i ∷ []) ++ (q ++ i ∷ []) ∷ []) indices i (q ++ i ∷ []) (in_indices i a.0)
    (in_right (paths_below n (q ++ i ∷ [])) ((q ++ i ∷ []) ∷ []) (q ++ i ∷ []) (inl refl))
in_paths_below (suc n) q i (j ∷ p) l a = in_flat_map (λ i. paths_below n (q ++ i ∷ []) ++ (q ++ i ∷ []) ∷ []) indices i (q ++ i ∷ j ∷ p) (in_indices i a.0)
    (in_left (paths_below n (q ++ i ∷ [])) ((q ++ i ∷ []) ∷ []) (q ++ i ∷ j ∷ p) (subst (In (paths_below n (q ++ i ∷ []))) (append_assoc q (i ∷ []) (j ∷ p)) (in_paths_below n (q ++ i ∷ []) j p (omega arith) a.1)))

-- ---- what is read

-- a path that is too long, or has an index that is too large, has no entry
pub read_or_in : (n : ℕ) (T : Words) (f i : ℕ) (p : List ℕ) → (read_at n T f (i ∷ p) ≡ 0) ⊎ ((length (i ∷ p) ≤ n) × AllBelow (i ∷ p))
read_or_in zero T f i p = inl refl
read_or_in (suc n) T f i [] = ⊎_elim (λ h. inr (omega arith, (h, tt))) (λ h. inl (word_past T f i h)) (cases_lt i 512)
read_or_in (suc n) T f i (j ∷ p) = ⊎_elim
    (λ h. ⊎_elim (λ z. inl (elim (names_table (word T f i)) as (λ b. cond b (read_at n T (address (word T f i)) (j ∷ p)) 0 ≡ 0) [ true ↦ z | false ↦ refl ])) (λ r. inr (omega (arith, r.0), (h, r.1))) (read_or_in n T (address (word T f i)) j p))
    (λ h. inl (ap (λ w. cond (names_table w) (read_at n T (address w) (j ∷ p)) 0) (word_past T f i h) ∙ unused))
    (cases_lt i 512)
  where
    unused : cond (names_table 0) (read_at n T (address 0) (j ∷ p)) 0 ≡ 0
    unused = ap (λ b. cond (b && not (huge 0)) (read_at n T (address 0) (j ∷ p)) 0) zero_not_used

-- the law of `Holds`, for what is read
read_last : (n : ℕ) (T : Words) (f k : ℕ) (q : List ℕ) (i : ℕ) → read_at n T f (k ∷ q ++ i ∷ []) ≡ entry_in T (table_of n (k ∷ q) (read_at n T f (k ∷ q))) i
unfolding table_of
read_last zero T f k q i = sym (ap (λ t. entry_in T t i) (unused_no_table 0 (k ∷ q)))
read_last (suc zero) T f k [] i = elim (names_table (word T f k)) as (λ b. cond b 0 0 ≡ entry_in T (cond (b && nat_lt 1 1) (Some (address (word T f k))) None) i) [ true ↦ refl | false ↦ refl ]
read_last (suc (suc n)) T f k [] i = elim (names_table (word T f k)) as (λ b. cond b (word T (address (word T f k)) i) 0 ≡ entry_in T (cond (b && nat_lt 1 (suc (suc n))) (Some (address (word T f k))) None) i) [
  | true ↦ ap (λ b. entry_in T (cond b (Some (address (word T f k))) None) i) (sym (lt-ltb 1 (suc (suc n)) (omega arith)))
  | false ↦ refl
]
read_last (suc n) T f k (l ∷ q) i =
    let a = address (word T f k) in
    let x = read_at n T a (l ∷ q) in
    elim (names_table (word T f k)) as (λ b. cond b (read_at n T a (l ∷ (q ++ i ∷ []))) 0 ≡ entry_in T (table_of (suc n) (k ∷ l ∷ q) (cond b (read_at n T a (l ∷ q)) 0)) i) [
      | true ↦ read_last n T a l q i ∙ ap (λ b. entry_in T (cond (names_table x && b) (Some (address x)) None) i) (sym (nat_lt-suc (length (l ∷ q)) n))
      | false ↦ sym (ap (λ t. entry_in T t i) (unused_no_table (suc n) (k ∷ l ∷ q)))
    ]

-- ---- a map that is filled from a function

module _ (r : List ℕ → ℕ) where
  abbrev fill : PathMap → List (List ℕ) → PathMap
  fill m ps = fold (λ m p. put m p (r p)) m ps

  fill_keeps : (ps : List (List ℕ)) (m : PathMap) (q : List ℕ) → entry m q ≡ r q → entry (fill m ps) q ≡ r q
  fill_keeps [] m q h = h
  fill_keeps (p ∷ ps) m q h = fill_keeps ps (put m p (r p)) q (entry-put m p (r p) q ∙ elim (same_path q p) as (λ b. same_path q p ≡ b → cond b (r p) (entry m q) ≡ r q) [ true ↦ λ e. ap r (sym (same_path_true q p e)) | false ↦ λ e. h ] refl)

  fill_in : (ps : List (List ℕ)) (m : PathMap) (q : List ℕ) → In ps q → entry (fill m ps) q ≡ r q
  fill_in [] m q h = absurd h
  fill_in (p ∷ ps) m q (inl e) = fill_keeps ps (put m p (r p)) q (entry-put m p (r p) q ∙ ap (λ b. cond b (r p) (entry m q)) (ap (same_path q) e ∙ same_path_itself q) ∙ ap r e)
  fill_in (p ∷ ps) m q (inr h) = fill_in ps (put m p (r p)) q h

  fill_used_alone : (ps : List (List ℕ)) (m : PathMap) → HasUsedAlone m → HasUsedAlone (fill m ps)
  fill_used_alone [] m h = h
  fill_used_alone (p ∷ ps) m h = fill_used_alone ps (put m p (r p)) (used_alone-put m p (r p) h)

filled_alone : (L : ℕ) (T : Words) (root : ℕ) → HasUsedAlone (paths_of L T root)
unfolding paths_of
filled_alone L T root = fill_used_alone (read_at L T root) (paths_below L []) empty used_alone-empty

module _ (L : ℕ) (T : Words) (root : ℕ) where
  no_levels_none : (n : ℕ) → read_at n T root [] ≡ 0
  no_levels_none zero = refl
  no_levels_none (suc n) = refl

  pub entry_paths_of : (q : List ℕ) → entry (paths_of L T root) q ≡ read_at L T root q
  unfolding paths_of
  entry_paths_of [] = fill_keeps (read_at L T root) (paths_below L []) empty [] (entry-empty [] ∙ sym (no_levels_none L))
  entry_paths_of (i ∷ q) = ⊎_elim
      (λ z. fill_keeps (read_at L T root) (paths_below L []) empty (i ∷ q) (entry-empty (i ∷ q) ∙ sym z))
      (λ h. fill_in (read_at L T root) (paths_below L []) empty (i ∷ q) (in_paths_below L [] i q h.0 h.1))
      (read_or_in L T root i q)

  first_of_root : (n : ℕ) → 0 < n → (i : ℕ) → read_at n T root (i ∷ []) ≡ word T root i
  first_of_root zero h i = absurd (omega arith)
  first_of_root (suc n) h i = refl

  pub law_paths_of : 0 < L → Law L T root (paths_of L T root)
  law_paths_of levels [] i = entry_paths_of (i ∷ []) ∙ first_of_root L levels i
  law_paths_of levels (k ∷ q) i = entry_paths_of (k ∷ q ++ i ∷ []) ∙ read_last L T root k q i ∙ ap (λ e. entry_in T (table_of L (k ∷ q) e) i) (sym (entry_paths_of (k ∷ q)))

  pub nothing_above_paths_of : entry (paths_of L T root) [] ≡ 0
  nothing_above_paths_of = entry_paths_of [] ∙ no_levels_none L

  -- the words hold that map, where its tables are in the memory
  pub holds_paths_of : 0 < L → ((q : List ℕ) (f : ℕ) → table_at L root (paths_of L T root) q ≡ Some f → IsSome (T f)) → Holds L T root (paths_of L T root)
  holds_paths_of levels there = record { entries = law_paths_of levels; nothing_above = entry_paths_of [] ∙ no_levels_none L; used_alone = filled_alone L T root; in_memory = there }

  -- what words hold is that map
  pub held_is_paths_of : 0 < L → (M : PathMap) → Holds L T root M → M ≡ paths_of L T root
  held_is_paths_of levels M holds = one_by_law L T root M (paths_of L T root) holds.entries holds.nothing_above holds.used_alone (law_paths_of levels) (entry_paths_of [] ∙ no_levels_none L) (filled_alone L T root)
