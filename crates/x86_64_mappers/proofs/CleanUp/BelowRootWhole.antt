-- A clean up below the root's entries, before the first of them and after the last one.
use Rattle.std.proofs.Common.{zero, suc, ◌≡◌, ◌⊎◌, inl, inr, ⊎_elim, ℕ, ◌+◌, ◌-◌, ◌<◌, ◌≤◌, ◌&&◌, Bool, true, false, not, cond, List, [], ◌∷◌, ◌++◌, length, filter, map, nat_lt, Some, refl, sym, ap, ap₂, ◌∙◌, subst, arith, append-nil, lt-ltb, le-ltb}
use Rattle.std.proofs.lemmas.Bool.{and_left, and_right, and_parts, cases_Bool, cases_lt, false_from_ne_true}
use Rattle.std.proofs.lemmas.List.Elements.{filter-append}
use Rattle.std.proofs.lemmas.Option.{same_Some}
use Rattle.std.specs.FinMap.{retain_keys}
use Rattle.std.specs.List.{flat_map, range_with_len}
use Rattle.x86_64_model.proofs.Lemmas.CleanUps.Below.{cleaned, back_of, cleaned_below, back_below}
use Rattle.x86_64_model.proofs.Lemmas.CleanUps.Frames.{listed, removed_leads}
use Rattle.x86_64_model.proofs.Lemmas.CleanUps.Keys.{entry-retained}
use Rattle.x86_64_model.proofs.Lemmas.CleanUps.Parts.{back_none, empty_part, front_in_range}
use Rattle.x86_64_model.proofs.Lemmas.CleanUps.Removed.{in_range_parts}
use Rattle.x86_64_model.proofs.Lemmas.CleanUps.Trees.{goes_below, once_paths}
use Rattle.x86_64_model.proofs.Lemmas.Entries.Bits.{zero_absent}
use Rattle.x86_64_model.proofs.Lemmas.Hierarchies.Changes.{unused_no_table}
use Rattle.x86_64_model.proofs.Lemmas.Hierarchies.Trees.{IsTree, some_not_none}
use Rattle.x86_64_model.proofs.Lemmas.Lists.All.{every_in, filter_same}
use Rattle.x86_64_model.proofs.Lemmas.Lists.Members.{from_flat_map, from_map, in_filter, in_map, passes}
use Rattle.x86_64_model.proofs.Lemmas.Lists.Once.{once_filter, once_map}
use Rattle.x86_64_model.proofs.Lemmas.Paths.Begins.{begins_on, below_begins}
use Rattle.x86_64_model.proofs.Lemmas.Paths.Ranges.{range_below}
use Rattle.x86_64_model.specs.CleanUp.{in_range, is_removed}
use Rattle.x86_64_model.specs.Entry.{present, address}
use Rattle.x86_64_model.specs.Lists.{In, EachOnce}
use Rattle.x86_64_model.specs.Path.{begins, indices, is_below, paths_below}
use Rattle.x86_64_model.specs.PathMap.{PathMap, entry, table_at, table_of}
use Rattle.x86_64_model.specs.Pool.{IsTable}
use Rattle.x86_64_mappers.proofs.CleanUp.BelowRoot.{is_below_first, cleaned_first, back_first, paths_under, under_begins, back_more}
use Rattle.x86_64_mappers.specs.CleanUpsBelowRoot.{is_removed_below_root, clean_up_below_root}

-- equal parts give equal lists
filter_flat : {X Y : Type 0} (P Q : Y → Bool) (f g : X → List Y) → ((x : X) → filter P (f x) ≡ filter Q (g x)) → (xs : List X) → filter P (flat_map f xs) ≡ filter Q (flat_map g xs)
filter_flat P Q f g same [] = refl
filter_flat P Q f g same (x ∷ xs) = filter-append P (f x) (flat_map f xs) ∙ ap₂ (λ ys zs. ys ++ zs) (same x) (filter_flat P Q f g same xs) ∙ sym (filter-append Q (g x) (flat_map g xs))

module _ (L root : ℕ) (M : PathMap) (tree : IsTree L root M) (low high : ℕ) where
  -- ---- an entry of the root that isn't in range: nothing below it is removed

  none_removed : (j : ℕ) (p : List ℕ) → begins (j ∷ []) p ≡ true → in_range L M low high (j ∷ []) ≡ false → is_removed L M low high p ≡ false
  none_removed j p b out = false_from_ne_true _ (λ h. let t : true ≡ false = sym (front_in_range L M low high (j ∷ []) p h b (λ e. cc)) ∙ out in cc)

  module _ (j : ℕ) (out : in_range L M low high (j ∷ []) ≡ false) where
    pub cleaned_none : cleaned_below L M low high (j ∷ []) ≡ M
    cleaned_none = empty_part L M low high (is_below (j ∷ [])) tree.used_alone (λ p. ⊎_elim
        (λ b. and_right (is_below (j ∷ []) p) _ (none_removed j p (below_begins (j ∷ []) p b) out)) (λ n. and_left _ (is_removed L M low high p) n) (cases_Bool (is_below (j ∷ []) p)))

    pub back_none_below : back_below L M low high (j ∷ []) ≡ []
    back_none_below = back_none L M low high (paths_under L j) (every_in _ (paths_under L j) (λ p h. none_removed j p (under_begins L j p h) out))

  -- ---- before the first entry in range

  module _ (a : ℕ) (out : (j : ℕ) → j < a → in_range L M low high (j ∷ []) ≡ false) where
    none_first : (p : List ℕ) → (is_below_first a p && is_removed L M low high p) ≡ false
    none_first [] = refl
    none_first (j ∷ []) = refl
    none_first (j ∷ k ∷ p) = ⊎_elim
        (λ less. and_right (nat_lt j a) _ (none_removed j (j ∷ k ∷ p) (begins_on (j ∷ []) (k ∷ p)) (out j less)))
        (λ past. and_left _ (is_removed L M low high (j ∷ k ∷ p)) (le-ltb j a past)) (cases_lt j a)

    pub cleaned_start : cleaned_first L M low high a ≡ M
    cleaned_start = empty_part L M low high (is_below_first a) tree.used_alone none_first

    pub back_start : back_first L M low high a ≡ []
    back_start = back_none L M low high _ (every_in _ _ (λ p h. let at = from_flat_map (paths_under L) (range_with_len 0 a) p h in
        none_removed at.0 p (under_begins L at.0 p at.2) (out at.0 (omega (arith, range_below a 0 at.0 at.1)))))

  -- ---- after the last entry in range

  module _ (b : ℕ) (most : b ≤ 512) (out : (j : ℕ) → b ≤ j → j < 512 → in_range L M low high (j ∷ []) ≡ false) where
    out_from : (j : ℕ) → b ≤ j → in_range L M low high (j ∷ []) ≡ false
    out_from j from = ⊎_elim (out j from)
        (λ past. false_from_ne_true _ (λ h. let t : true ≡ false = sym (in_range_parts L M low high (j ∷ []) h).1 ∙ ap present (tree.small [] j past) ∙ zero_absent in cc)) (cases_lt j 512)

    longer_is : (p : List ℕ) → (is_below_first b p && is_removed L M low high p) ≡ is_removed_below_root L M low high p
    longer_is [] = refl
    longer_is (j ∷ []) = refl
    longer_is (j ∷ k ∷ p) = ⊎_elim
        (λ less. ap (λ b. b && is_removed L M low high (j ∷ k ∷ p)) (lt-ltb j b less ∙ sym (lt-ltb 1 (length (j ∷ k ∷ p)) (omega arith))))
        (λ past. let none = none_removed j (j ∷ k ∷ p) (begins_on (j ∷ []) (k ∷ p)) (out_from j past) in
        and_right (nat_lt j b) _ none ∙ sym (and_right (nat_lt 1 (length (j ∷ k ∷ p))) _ none)) (cases_lt j b)

    pub cleaned_end : cleaned_first L M low high b ≡ (clean_up_below_root L M low high).paths
    unfolding cleaned clean_up_below_root
    cleaned_end = λ n. retain_keys M (λ p. not (longer_is p n))

    back_on : (n : ℕ) → back_first L M low high (b + n) ≡ back_first L M low high b
    back_on zero = let e : b + zero ≡ b = omega arith in ap (back_first L M low high) e
    back_on (suc n) = let e : b + suc n ≡ b + n + 1 = omega arith in
        ap (back_first L M low high) e ∙ back_more L M low high (b + n)
        ∙ ap (λ fs. back_first L M low high (b + n) ++ fs) (back_none L M low high _ (every_in _ (paths_under L (b + n))
        (λ p h. none_removed (b + n) p (under_begins L (b + n) p h) (out_from (b + n) (omega arith)))))
        ∙ append-nil (back_first L M low high (b + n)) ∙ back_on n

    long : (n j : ℕ) (p : List ℕ) → In (paths_below n (j ∷ [])) p → nat_lt 1 (length p) ≡ true
    long n j p h = let more = goes_below n (j ∷ []) p h in lt-ltb 1 (length p) (omega (arith, ap length more.2))

    -- the root's entries are left out
    without : (n j : ℕ) → filter (is_removed_below_root L M low high) (paths_below n (j ∷ []) ++ (j ∷ []) ∷ []) ≡ filter (is_removed L M low high) (paths_below n (j ∷ []))
    without n j = filter-append (is_removed_below_root L M low high) (paths_below n (j ∷ [])) ((j ∷ []) ∷ []) ∙ append-nil _
        ∙ filter_same _ _ (paths_below n (j ∷ [])) (every_in _ (paths_below n (j ∷ [])) (λ p h. ap (λ b. b && is_removed L M low high p) (long n j p h)))

    pub back_end : back_first L M low high b ≡ (clean_up_below_root L M low high).back
    unfolding back_of clean_up_below_root paths_below indices
    back_end = sym (ap (back_first L M low high) all ∙ back_on (512 - b)) ∙ by (L - 1) refl
      where
        all : 512 ≡ b + (512 - b)
        all = omega (arith, most)

        by : (n : ℕ) → L - 1 ≡ n → back_first L M low high 512 ≡ map (λ q. address (entry M q)) (filter (is_removed_below_root L M low high) (paths_below n []))
        by zero e = back_none L M low high _ (every_in _ _ (λ p h. let at = from_flat_map (paths_under L) (range_with_len 0 512) p h in
            let none : L - 1 - 1 ≡ 0 = omega (arith, e) in absurd (subst (λ n. In (paths_below n (at.0 ∷ [])) p) none at.2)))
        by (suc n) e = let less : L - 1 - 1 ≡ n = omega (arith, e) in
            ap (λ n. back_of L M low high (flat_map (λ j. paths_below n (j ∷ [])) (range_with_len 0 512))) less
            ∙ ap (map (λ q. address (entry M q))) (sym (filter_flat (is_removed_below_root L M low high) (is_removed L M low high)
            (λ j. paths_below n (j ∷ []) ++ (j ∷ []) ∷ []) (λ j. paths_below n (j ∷ [])) (without n) indices))

  -- ---- the frames that come back

  abbrev went : List (List ℕ)
  went = filter (is_removed_below_root L M low high) (paths_below (L - 1) [])

  was_removed : (q : List ℕ) → In went q → is_removed L M low high q ≡ true
  was_removed q h = (and_parts _ _ (passes (is_removed_below_root L M low high) (paths_below (L - 1) []) q h)).1

  -- each of them comes once, if each table stands in a frame of its own
  pub back_once : ((p q : List ℕ) (f : ℕ) → table_at L root M p ≡ Some f → table_at L root M q ≡ Some f → p ≡ q) → EachOnce (clean_up_below_root L M low high).back
  unfolding clean_up_below_root
  back_once own = once_map (λ q. address (entry M q)) went (once_filter (is_removed_below_root L M low high) (paths_below (L - 1) []) (once_paths (L - 1) []))
      (λ p q a b e. own p q (address (entry M q)) (removed_leads L root M tree low high p (was_removed p a) ∙ ap Some e) (removed_leads L root M tree low high q (was_removed q b)))

  -- a table is a table still, or its frame comes back
  pub conserved : (f : ℕ) → IsTable L root M f → IsTable L root (clean_up_below_root L M low high).paths f ⊎ In (clean_up_below_root L M low high).back f
  unfolding clean_up_below_root
  conserved f t = by t.0 t.1
    where
      entry_is : (q : List ℕ) → entry (retain_keys M (λ q. not (is_removed_below_root L M low high q))) q ≡ cond (is_removed_below_root L M low high q) 0 (entry M q)
      entry_is q = entry-retained M (is_removed_below_root L M low high) q

      by : (q : List ℕ) → table_at L root M q ≡ Some f
          → IsTable L root (retain_keys M (λ q. not (is_removed_below_root L M low high q))) f ⊎ In (map (λ q. address (entry M q)) went) f
      by [] at = inl ([], at)
      by (i ∷ q) at = ⊎_elim
          (λ gone. let r = (and_parts _ _ gone).1 in inr (subst (In (map (λ q. address (entry M q)) went)) (same_Some _ _ (sym (removed_leads L root M tree low high (i ∷ q) r) ∙ at))
          (in_map (λ q. address (entry M q)) went (i ∷ q) (in_filter (is_removed_below_root L M low high) (paths_below (L - 1) []) (i ∷ q) (listed L root M tree low high i q r) gone))))
          (λ stays. inl (i ∷ q, ap (table_of L (i ∷ q)) (entry_is (i ∷ q) ∙ ap (λ b. cond b 0 (entry M (i ∷ q))) stays) ∙ at))
          (cases_Bool (is_removed_below_root L M low high (i ∷ q)))

  -- a freed frame was that of a table, and not the root's
  pub back_was : (f : ℕ) → In (clean_up_below_root L M low high).back f → (i : ℕ) × (q : List ℕ) × (table_at L root M (i ∷ q) ≡ Some f)
  unfolding clean_up_below_root
  back_was f h = let at = from_map (λ q. address (entry M q)) went f h in by at.0 (passes (is_removed_below_root L M low high) (paths_below (L - 1) []) at.0 at.1) at.2
    where
      by : (q : List ℕ) → is_removed_below_root L M low high q ≡ true → address (entry M q) ≡ f → (i : ℕ) × (q : List ℕ) × (table_at L root M (i ∷ q) ≡ Some f)
      by [] r e = cc
      by (i ∷ q) r e = (i, q, removed_leads L root M tree low high (i ∷ q) (and_parts _ _ r).1 ∙ ap Some e)

  -- a table that is left was a table
  pub left_was : (q : List ℕ) (f : ℕ) → table_at L root (clean_up_below_root L M low high).paths q ≡ Some f → table_at L root M q ≡ Some f
  unfolding clean_up_below_root
  left_was [] f t = t
  left_was (i ∷ q) f t = by (is_removed_below_root L M low high (i ∷ q)) (entry-retained M (is_removed_below_root L M low high) (i ∷ q))
    where
      by : (b : Bool) → entry (retain_keys M (λ q. not (is_removed_below_root L M low high q))) (i ∷ q) ≡ cond b 0 (entry M (i ∷ q)) → table_of L (i ∷ q) (entry M (i ∷ q)) ≡ Some f
      by true e = absurd (some_not_none f (sym t ∙ ap (table_of L (i ∷ q)) e ∙ unused_no_table L (i ∷ q)))
      by false e = ap (table_of L (i ∷ q)) (sym e) ∙ t
