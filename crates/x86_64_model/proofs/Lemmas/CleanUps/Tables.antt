-- A clean up of the table at q before its first index and after its last one, and of the root's.
use Rattle.std.proofs.Common.{◌≡◌, ℕ, zero, suc, ◌+◌, ◌-◌, ◌≤◌, ◌&&◌, true, false, not, List, [], ◌∷◌, length, filter, map, refl, sym, ap, ◌∙◌, arith, ⊎_elim}
use Rattle.std.proofs.lemmas.Bool.{cases_Bool, and_left, and_right, false_from_ne_true}
use Rattle.std.proofs.lemmas.List.{length-append}
use Rattle.std.specs.FinMap.{retain_keys}
use Rattle.std.specs.List.{flat_map, range_with_len}
use Rattle.x86_64_model.specs.Entry.{address}
use Rattle.x86_64_model.specs.PathMap.{PathMap, entry}
use Rattle.x86_64_model.specs.Path.{is_below, paths_below, indices}
use Rattle.x86_64_model.specs.CleanUp.{is_removed, clean_up}
use Rattle.x86_64_model.proofs.Lemmas.Entries.Bits.{used_present}
use Rattle.x86_64_model.proofs.Lemmas.Hierarchies.Trees.{IsTree, indices_below}
use Rattle.x86_64_model.proofs.Lemmas.Lists.All.{every_in}
use Rattle.x86_64_model.proofs.Lemmas.Lists.Members.{from_flat_map}
use Rattle.x86_64_model.proofs.Lemmas.CleanUps.Answers.{leaf_stays}
use Rattle.x86_64_model.proofs.Lemmas.CleanUps.Frames.{root_stays}
use Rattle.x86_64_model.proofs.Lemmas.CleanUps.Removed.{removed_gives, in_range_parts}
use Rattle.x86_64_model.proofs.Lemmas.Paths.Begins.{goes_on_from_below}
use Rattle.x86_64_model.proofs.Lemmas.CleanUps.Below.{is_before, cleaned, back_of, paths_at, cleaned_below, back_below, cleaned_before, back_before}
use Rattle.x86_64_model.proofs.Lemmas.CleanUps.Befores.{none_before, all_before}
use Rattle.x86_64_model.proofs.Lemmas.CleanUps.Parts.{same_part, empty_part, back_none}
use Rattle.x86_64_model.proofs.Lemmas.CleanUps.Children.{at_below}

module _ (L root : ℕ) (M : PathMap) (tree : IsTree L root M) (low high : ℕ) where
  -- ---- the root's

  at_root : (p : List ℕ) → (is_below [] p && is_removed L M low high p) ≡ is_removed L M low high p
  at_root [] = sym (false_from_ne_true _ (root_stays L root M tree low high))
  at_root (i ∷ p) = refl

  pub cleaned_whole : cleaned_below L M low high [] ≡ (clean_up L M low high).paths
  unfolding cleaned clean_up
  cleaned_whole = λ n. retain_keys M (λ p. not (at_root p n))

  pub back_whole : back_below L M low high [] ≡ (clean_up L M low high).back
  unfolding back_of clean_up
  back_whole = ap (λ n. map (λ p. address (entry M p)) (filter (is_removed L M low high) (paths_below n []))) levels
    where
      levels : L - 1 - 0 ≡ L - 1
      levels = omega arith

  module _ (q : List ℕ) where
    -- ---- before the first index

    pub cleaned_first : cleaned_before L M low high q 0 ≡ M
    cleaned_first = empty_part L M low high (is_before q 0) tree.used_alone (λ p. and_left _ (is_removed L M low high p) (none_before q p))

    pub back_first : back_before L M low high q 0 ≡ []
    unfolding back_of
    back_first = refl

    -- ---- after the last one

    pub cleaned_last : cleaned_before L M low high q 512 ≡ cleaned_below L M low high q
    cleaned_last = same_part L M low high (is_before q 512) (is_below q) (λ p. ⊎_elim
        (λ h. ap (λ b. b && is_removed L M low high p) (all_before q p (indices_below L root M tree p (used_present _ (in_range_parts L M low high p (removed_gives L M low high p h).itself).1))))
        (λ h. and_right (is_before q 512 p) _ h ∙ sym (and_right (is_below q p) _ h))
        (cases_Bool (is_removed L M low high p)))

    -- entries of level one stay
    too_long : (p : List ℕ) → L ≤ length q + 1 → is_below q p ≡ true → is_removed L M low high p ≡ false
    too_long p l b = let more = goes_on_from_below q p b in
        leaf_stays L root M tree low high p (omega (arith, l, ap length more.2, length-append q (more.0 ∷ more.1)))

    pub back_last : back_before L M low high q 512 ≡ back_below L M low high q
    unfolding paths_below indices
    back_last = by (L - 1 - length q) refl
      where
        by : (n : ℕ) → L - 1 - length q ≡ n → back_before L M low high q 512 ≡ back_of L M low high (paths_below n q)
        by zero e = back_none L M low high _ (every_in _ _ (λ p h. let at = from_flat_map (paths_at (L - 1 - (length q + 1)) q) (range_with_len 0 512) p h in
            too_long p (omega (arith, e)) (at_below (L - 1 - (length q + 1)) q at.0 p at.2))) ∙ sym (back_none L M low high [] tt)
        by (suc n) e = ap (λ n. back_of L M low high (flat_map (paths_at n q) (range_with_len 0 512))) (let less : L - 1 - (length q + 1) ≡ n = omega (arith, e) in less)

    -- in a table of level one nothing is removed
    pub cleaned_level_one : L ≤ length q + 1 → cleaned_below L M low high q ≡ M
    cleaned_level_one l = empty_part L M low high (is_below q) tree.used_alone (λ p. ⊎_elim
        (λ b. and_right (is_below q p) _ (too_long p l b)) (λ n. and_left _ (is_removed L M low high p) n) (cases_Bool (is_below q p)))

    pub back_level_one : L ≤ length q + 1 → back_below L M low high q ≡ []
    unfolding paths_below back_of
    back_level_one l = ap (λ n. back_of L M low high (paths_below n q)) (let none : L - 1 - length q ≡ 0 = omega (arith, l) in none)
