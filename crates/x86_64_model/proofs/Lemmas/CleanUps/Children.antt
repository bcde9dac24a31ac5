-- A clean up of the table at q, one index after the other: what an iteration does to the part that was cleaned up before it.
use Rattle.std.proofs.Common.{◌≡◌, ◌≢◌, ⊎_elim, ℕ, ◌+◌, ◌-◌, ◌<◌, ◌&&◌, ◌||◌, Bool, true, false, cond, List, [], ◌∷◌, ◌++◌, length, map, refl, sym, ap, ap₂, ◌∙◌, arith, append_assoc, append-nil}
use Rattle.std.proofs.lemmas.Bool.{cases_Bool, cases_lt, or_right, false_from_ne_true}
use Rattle.std.proofs.Math.Bool.{or-false}
use Rattle.std.proofs.lemmas.List.{map-id}
use Rattle.std.proofs.lemmas.List.FromFn.{map-range_with_len_more}
use Rattle.std.proofs.lemmas.Grind.{flat_map-append}
use Rattle.std.specs.List.{flat_map, list_all, range_with_len}
use Rattle.x86_64_model.specs.Entry.{address}
use Rattle.x86_64_model.specs.PathMap.{PathMap, entry, put}
use Rattle.x86_64_model.specs.Path.{parents, begins, is_below, paths_below}
use Rattle.x86_64_model.specs.CleanUp.{in_range, is_removed, clean_up}
use Rattle.x86_64_model.proofs.Lemmas.Hierarchies.Trees.{IsTree}
use Rattle.x86_64_model.proofs.Lemmas.Lists.All.{every_in}
use Rattle.x86_64_model.proofs.Lemmas.Lists.Members.{in_append}
use Rattle.x86_64_model.specs.Lists.{In}
use Rattle.x86_64_model.proofs.Lemmas.Paths.Puts.{cases_path, no_end, same_paths, used_alone-put, entry-put_same, entry-put_other}
use Rattle.x86_64_model.proofs.Lemmas.CleanUps.Removed.{empty_if_removed, removed_if_empty}
use Rattle.x86_64_model.proofs.Lemmas.Paths.Begins.{below_goes_on}
use Rattle.x86_64_model.proofs.Lemmas.CleanUps.Trees.{goes_below}
use Rattle.x86_64_model.proofs.Lemmas.CleanUps.Below.{is_before, back_of, paths_at, cleaned_below, back_below, cleaned_before, back_before, Visits}
use Rattle.x86_64_model.proofs.Lemmas.CleanUps.Keys.{entry-cleaned}
use Rattle.x86_64_model.proofs.Lemmas.Walks.Walked.{one_more}
use Rattle.x86_64_model.proofs.Lemmas.CleanUps.Befores.{before_goes_on, before_front, not_before, before_more}
use Rattle.x86_64_model.proofs.Lemmas.Paths.Begins.{below_further, begins_on, begins_itself, from_begins, same_or_below, below_begins, not_below_itself, begins_more}
use Rattle.x86_64_model.proofs.Lemmas.CleanUps.Parts.{entry-part, outside_part, used_alone-part, same_part, part_tree, same_range, same_removed, front_in_range, back-append, back_none, back_same}

range_more : (i : ℕ) → range_with_len 0 (i + 1) ≡ range_with_len 0 i ++ i ∷ []
range_more i = sym (map-id (range_with_len 0 (i + 1))) ∙ map-range_with_len_more (λ x. x) 0 i i (omega arith) ∙ ap (λ is. is ++ i ∷ []) (map-id (range_with_len 0 i))

below_begin : (n : ℕ) (q p : List ℕ) → In (paths_below n q) p → begins q p ≡ true
below_begin n q p h = let more = goes_below n q p h in ap (begins q) more.2 ∙ begins_on q (more.0 ∷ more.1)

at_begins : (n : ℕ) (q : List ℕ) (i : ℕ) (p : List ℕ) → In (paths_at n q i) p → begins (q ++ i ∷ []) p ≡ true
at_begins n q i p h = ⊎_elim (below_begin n (q ++ i ∷ []) p)
    (⊎_elim (λ e. ap (begins (q ++ i ∷ [])) (sym e) ∙ begins_itself (q ++ i ∷ [])) (λ h. absurd h))
    (in_append (paths_below n (q ++ i ∷ [])) ((q ++ i ∷ []) ∷ []) p h)

pub at_below : (n : ℕ) (q : List ℕ) (i : ℕ) (p : List ℕ) → In (paths_at n q i) p → is_below q p ≡ true
at_below n q i p h = let more = from_begins (q ++ i ∷ []) p (at_begins n q i p h) in ap (is_below q) (more.1 ∙ append_assoc q (i ∷ []) more.0) ∙ below_goes_on q i more.0

-- a table is empty after the clean up exactly if it is removed
emptied : (L root : ℕ) (M : PathMap) → IsTree L root M → (low high : ℕ) (q : List ℕ) (i : ℕ) → in_range L M low high (q ++ i ∷ []) ≡ true → list_all (in_range L M low high) (parents (q ++ i ∷ [])) ≡ true
    → is_removed L M low high (q ++ i ∷ []) ≡ true → (j : ℕ) → entry (clean_up L M low high).paths ((q ++ i ∷ []) ++ j ∷ []) ≡ 0
emptied L root M tree low high [] i a b = empty_if_removed L root M tree low high i [] a b
emptied L root M tree low high (k ∷ q) i a b = empty_if_removed L root M tree low high k (q ++ i ∷ []) a b

removed : (L root : ℕ) (M : PathMap) → IsTree L root M → (low high : ℕ) (q : List ℕ) (i : ℕ) → in_range L M low high (q ++ i ∷ []) ≡ true → list_all (in_range L M low high) (parents (q ++ i ∷ [])) ≡ true
    → ((j : ℕ) → entry (clean_up L M low high).paths ((q ++ i ∷ []) ++ j ∷ []) ≡ 0) → is_removed L M low high (q ++ i ∷ []) ≡ true
removed L root M tree low high [] i a b = removed_if_empty L root M tree low high i [] a b
removed L root M tree low high (k ∷ q) i a b = removed_if_empty L root M tree low high k (q ++ i ∷ []) a b

module _ (L root : ℕ) (M : PathMap) (tree : IsTree L root M) (low high : ℕ) (q : List ℕ) (i : ℕ) where
  -- what was cleaned up before index i, and the path at it
  abbrev pub N : PathMap
  N = cleaned_before L M low high q i

  abbrev pub r : List ℕ
  r = q ++ i ∷ []

  pub tree_before : IsTree L root N
  tree_before = part_tree L root M tree low high (is_before q i) (λ p k. before_goes_on q i p (k ∷ []))

  -- at r, above it and below, nothing has changed
  same_at : (p : List ℕ) → begins r p ≡ true → entry N p ≡ entry M p
  same_at p b = outside_part L M low high (is_before q i) p (not_before q i p b)

  same_front : (p s : List ℕ) → begins r p ≡ true → begins s p ≡ true → entry N s ≡ entry M s
  same_front p s b f = outside_part L M low high (is_before q i) s (before_front q i s p f (not_before q i p b))

  removed_before : (p : List ℕ) → begins r p ≡ true → is_removed L N low high p ≡ is_removed L M low high p
  removed_before p b = same_removed L N M low high p tree_before.used_alone tree.used_alone (λ s f. same_front p s b f) (λ s g. same_at s (begins_more r p s b g))

  pub entry_before : entry N r ≡ entry M r
  entry_before = same_at r (begins_itself r)

  pub range_before : in_range L N low high r ≡ in_range L M low high r
  range_before = same_range L N M low high r entry_before

  -- the frames at the next index come after those before it
  abbrev more : ℕ
  more = L - 1 - (length q + 1)

  back_more : back_before L M low high q (i + 1) ≡ back_before L M low high q i ++ back_of L M low high (paths_at more q i)
  back_more = ap (λ is. back_of L M low high (flat_map (paths_at more q) is)) (range_more i)
      ∙ ap (back_of L M low high) (flat_map-append (paths_at more q) (range_with_len 0 i) (i ∷ []) ∙ ap (λ ps. flat_map (paths_at more q) (range_with_len 0 i) ++ ps) (append-nil (paths_at more q i)))
      ∙ back-append L M low high (flat_map (paths_at more q) (range_with_len 0 i)) (paths_at more q i)

  -- ---- where the entry at the index isn't in range, the table at it stays, and all below

  module _ (outside : in_range L N low high r ≡ false) where
    none_removed : (p : List ℕ) → begins r p ≡ true → is_removed L M low high p ≡ false
    none_removed p b = false_from_ne_true _ (λ h. let t : true ≡ false = sym (front_in_range L M low high r p h b (λ e. no_end q i (sym e))) ∙ sym range_before ∙ outside in cc)

    pub cleaned_stays : cleaned_before L M low high q (i + 1) ≡ N
    cleaned_stays = same_part L M low high (is_before q (i + 1)) (is_before q i) (λ p. ap (λ b. b && is_removed L M low high p) (before_more q i p) ∙ by p (is_before q i p) (begins r p) refl)
      where
        by : (p : List ℕ) (a b : Bool) → begins r p ≡ b → ((a || b) && is_removed L M low high p) ≡ (a && is_removed L M low high p)
        by p true b h = refl
        by p false true h = none_removed p h
        by p false false h = refl

    pub back_stays : back_before L M low high q (i + 1) ≡ back_before L M low high q i
    back_stays = back_more ∙ ap (λ fs. back_before L M low high q i ++ fs) (back_none L M low high (paths_at more q i) (every_in _ (paths_at more q i) (λ p h. none_removed p (at_begins more q i p h))))
        ∙ append-nil (back_before L M low high q i)

  -- ---- else the table is cleaned up first

  module _ (visits : Visits L M low high q) (inside : in_range L N low high r ≡ true) where
    -- what is left then
    abbrev pub N′ : PathMap
    N′ = cleaned_below L N low high r

    pub entry_after : entry N′ r ≡ entry N r
    entry_after = outside_part L N low high (is_below r) r (not_below_itself r)

    tree_after : IsTree L root N′
    tree_after = part_tree L root N tree_before low high (is_below r) (λ p k. below_further r p k)

    -- the entries after the next index, at the path itself and beside it
    at_itself : entry (cleaned_before L M low high q (i + 1)) r ≡ cond (is_removed L M low high r) 0 (entry M r)
    at_itself = entry-part L M low high (is_before q (i + 1)) r
        ∙ ap (λ b. cond (b && is_removed L M low high r) 0 (entry M r)) (before_more q i r ∙ or_right (is_before q i r) _ (begins_itself r))

    beside : (p : List ℕ) → p ≢ r → entry (cleaned_before L M low high q (i + 1)) p ≡ entry N′ p
    beside p apart = entry-part L M low high (is_before q (i + 1)) p ∙ ap (λ b. cond (b && is_removed L M low high p) 0 (entry M p)) (before_more q i p) ∙ ⊎_elim
        (λ h. ⊎_elim (λ e. absurd (apart e)) (λ b. below h b) (same_or_below r p h))
        (λ h. elsewhere h)
        (cases_Bool (begins r p))
      where
        below : begins r p ≡ true → is_below r p ≡ true → cond ((is_before q i p || begins r p) && is_removed L M low high p) 0 (entry M p) ≡ entry N′ p
        below h b = ap (λ b. cond (b && is_removed L M low high p) 0 (entry M p)) (or_right (is_before q i p) _ h)
            ∙ sym (entry-part L N low high (is_below r) p ∙ ap₂ (λ b x. cond (b && x) 0 (entry N p)) b (removed_before p h) ∙ ap (cond (is_removed L M low high p) 0) (same_at p h))

        elsewhere : begins r p ≡ false → cond ((is_before q i p || begins r p) && is_removed L M low high p) 0 (entry M p) ≡ entry N′ p
        elsewhere h = ap (λ b. cond (b && is_removed L M low high p) 0 (entry M p)) (ap (λ b. is_before q i p || b) h ∙ or-false (is_before q i p)) ∙ sym (entry-part L M low high (is_before q i) p)
            ∙ sym (outside_part L N low high (is_below r) p (false_from_ne_true _ (λ b. let t : true ≡ false = sym (below_begins r p b) ∙ h in cc)))

    -- the words of the table are as after the whole clean up: all 0 exactly if the table is removed
    in_table : (j : ℕ) → entry N′ (r ++ j ∷ []) ≡ entry (clean_up L M low high).paths (r ++ j ∷ [])
    in_table j = entry-part L N low high (is_below r) (r ++ j ∷ []) ∙ ap₂ (λ b x. cond (b && x) 0 (entry N (r ++ j ∷ []))) (below_goes_on r j []) (removed_before (r ++ j ∷ []) (begins_on r (j ∷ [])))
        ∙ ap (cond (is_removed L M low high (r ++ j ∷ [])) 0) (same_at (r ++ j ∷ []) (begins_on r (j ∷ []))) ∙ sym (entry-cleaned L M low high (r ++ j ∷ []))

    stays : (j : ℕ) → entry N′ (r ++ j ∷ []) ≢ 0 → is_removed L M low high r ≡ false
    stays j left = false_from_ne_true _ (λ h. left (in_table j ∙ emptied L root M tree low high q i (sym range_before ∙ inside) (visits i) h j))

    goes : ((j : ℕ) → j < 512 → entry N′ (r ++ j ∷ []) ≡ 0) → is_removed L M low high r ≡ true
    goes h = removed L root M tree low high q i (sym range_before ∙ inside) (visits i) (λ j. sym (in_table j) ∙ ⊎_elim (h j) (tree_after.small r j) (cases_lt j 512))

    -- where a word of it is left, it stays
    pub cleaned_kept : (j : ℕ) → entry N′ (r ++ j ∷ []) ≢ 0 → cleaned_before L M low high q (i + 1) ≡ N′
    cleaned_kept j left = same_paths _ _ (used_alone-part L M low high (is_before q (i + 1)) tree.used_alone) tree_after.used_alone (λ p. ⊎_elim
        (λ e. ap (entry (cleaned_before L M low high q (i + 1))) e ∙ at_itself ∙ ap (λ b. cond b 0 (entry M r)) (stays j left) ∙ sym (ap (entry N′) e ∙ entry_after ∙ entry_before))
        (beside p) (cases_path p r))

    -- and where none is, it goes
    pub cleaned_gone : ((j : ℕ) → j < 512 → entry N′ (r ++ j ∷ []) ≡ 0) → cleaned_before L M low high q (i + 1) ≡ put N′ r 0
    cleaned_gone h = same_paths _ _ (used_alone-part L M low high (is_before q (i + 1)) tree.used_alone) (used_alone-put N′ r 0 tree_after.used_alone) (λ p. ⊎_elim
        (λ e. ap (entry (cleaned_before L M low high q (i + 1))) e ∙ at_itself ∙ ap (λ b. cond b 0 (entry M r)) (goes h) ∙ sym (ap (entry (put N′ r 0)) e ∙ entry-put_same N′ r 0))
        (λ apart. beside p apart ∙ sym (entry-put_other N′ r 0 p apart)) (cases_path p r))

    -- the frames that come back are those of the tables below, then its own, where it goes
    back_next : back_before L M low high q (i + 1) ≡ back_before L M low high q i ++ back_below L N low high r ++ cond (is_removed L M low high r) (address (entry N r) ∷ []) []
    unfolding back_of
    back_next = back_more ∙ ap (λ fs. back_before L M low high q i ++ fs) (back-append L M low high (paths_below more r) (r ∷ []) ∙ ap₂ (λ fs gs. fs ++ gs)
        (sym (back_same L N M low high (paths_below more r) (every_in _ (paths_below more r) (λ p h. let b = below_begin more r p h in (removed_before p b, same_at p b)))) ∙ ap (λ n. back_of L N low high (paths_below n r)) levels)
        (by (is_removed L M low high r)))
        ∙ sym (append_assoc (back_before L M low high q i) (back_below L N low high r) (cond (is_removed L M low high r) (address (entry N r) ∷ []) []))
      where
        levels : more ≡ L - 1 - length r
        levels = omega (arith, one_more q i)

        by : (b : Bool) → map (λ p. address (entry M p)) (cond b (r ∷ []) []) ≡ cond b (address (entry N r) ∷ []) []
        by true = ap (λ e. address e ∷ []) (sym entry_before)
        by false = refl

    pub back_kept : (j : ℕ) → entry N′ (r ++ j ∷ []) ≢ 0 → back_before L M low high q (i + 1) ≡ back_before L M low high q i ++ back_below L N low high r
    back_kept j left = back_next ∙ ap (λ b. back_before L M low high q i ++ back_below L N low high r ++ cond b (address (entry N r) ∷ []) []) (stays j left)
        ∙ append-nil (back_before L M low high q i ++ back_below L N low high r)

    pub back_gone : ((j : ℕ) → j < 512 → entry N′ (r ++ j ∷ []) ≡ 0)
        → back_before L M low high q (i + 1) ≡ back_before L M low high q i ++ back_below L N low high r ++ address (entry N r) ∷ []
    back_gone h = back_next ∙ ap (λ b. back_before L M low high q i ++ back_below L N low high r ++ cond b (address (entry N r) ∷ []) []) (goes h)
