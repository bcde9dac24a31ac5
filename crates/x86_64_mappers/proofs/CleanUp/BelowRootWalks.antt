-- A clean up below the root's entries keeps the result of each walk: a whole clean up after it leaves what one at once leaves.
use Rattle.std.proofs.Common.{◌≡◌, ℕ, ◌&&◌, Bool, true, false, cond, List, [], ◌∷◌, ◌++◌, length, nat_lt, refl, sym, ap, ap₂, ◌∙◌, arith, lt-ltb}
use Rattle.std.proofs.lemmas.Bool.{and_from, and_parts, false_from_ne_true}
use Rattle.std.specs.List.{list_all}
use Rattle.x86_64_model.proofs.Lemmas.CleanUps.Arrivals.{walked_cleaned}
use Rattle.x86_64_model.proofs.Lemmas.CleanUps.Below.{cleaned}
use Rattle.x86_64_model.proofs.Lemmas.CleanUps.Frames.{root_stays}
use Rattle.x86_64_model.proofs.Lemmas.CleanUps.Keys.{entry-cleaned}
use Rattle.x86_64_model.proofs.Lemmas.CleanUps.Parts.{entry-part, part_tree, same_range}
use Rattle.x86_64_model.proofs.Lemmas.CleanUps.Removed.{Removed, removed_gives, removed_from, in_range_parts}
use Rattle.x86_64_model.proofs.Lemmas.CleanUps.Trees.{clean_tree}
use Rattle.x86_64_model.proofs.Lemmas.Entries.Bits.{used_present}
use Rattle.x86_64_model.proofs.Lemmas.Hierarchies.Changes.{zero_not_used}
use Rattle.x86_64_model.proofs.Lemmas.Hierarchies.Trees.{IsTree}
use Rattle.x86_64_model.proofs.Lemmas.Paths.Puts.{same_paths}
use Rattle.x86_64_model.proofs.Lemmas.Walks.Walked.{walked}
use Rattle.x86_64_model.specs.CleanUp.{in_range, is_removed, clean_up}
use Rattle.x86_64_model.specs.Entry.{used}
use Rattle.x86_64_model.specs.Path.{parents}
use Rattle.x86_64_model.specs.PathMap.{PathMap, entry}
use Rattle.x86_64_mappers.specs.CleanUpsBelowRoot.{clean_up_below_root}

-- whether a path isn't an entry of the root
abbrev longer : List ℕ → Bool
longer p = nat_lt 1 (length p)

longer_on : (p : List ℕ) (i : ℕ) → longer p ≡ true → longer (p ++ i ∷ []) ≡ true
longer_on [] i h = cc
longer_on (j ∷ []) i h = cc
longer_on (j ∷ k ∷ p) i h = lt-ltb 1 (length (j ∷ k ∷ p ++ i ∷ [])) (omega arith)

module _ (L root : ℕ) (M : PathMap) (tree : IsTree L root M) (low high : ℕ) where
  abbrev N : PathMap
  N = cleaned L M low high longer

  below_tree : IsTree L root N
  below_tree = part_tree L root M tree low high longer longer_on

  entry_is : (p : List ℕ) → entry N p ≡ cond (longer p && is_removed L M low high p) 0 (entry M p)
  entry_is = entry-part L M low high longer

  -- what is left is as it was
  kept : (q : List ℕ) → used (entry N q) ≡ true → entry N q ≡ entry M q
  kept q u = by (longer q && is_removed L M low high q) (entry_is q)
    where
      by : (b : Bool) → entry N q ≡ cond b 0 (entry M q) → entry N q ≡ entry M q
      by true e = let t : false ≡ true = sym (ap used e ∙ zero_not_used) ∙ u in cc
      by false e = e

  range_before : (q : List ℕ) → in_range L N low high q ≡ true → in_range L M low high q ≡ true
  range_before q h = same_range L M N low high q (sym (kept q (used_present _ (in_range_parts L N low high q h).1))) ∙ h

  all_before : (ps : List (List ℕ)) → list_all (in_range L N low high) ps ≡ true → list_all (in_range L M low high) ps ≡ true
  all_before [] h = refl
  all_before (p ∷ ps) h = let parts = and_parts _ _ h in and_from _ _ (range_before p parts.0) (all_before ps parts.1)

  -- a whole clean up would have removed what it removes afterwards
  was_removed : (q : List ℕ) → Removed L N low high q → Removed L M low high q
  was_removed q r = record {
    itself = range_before q r.itself;
    above = all_before (parents q) r.above;
    below = λ p b u. elim (is_removed L M low high p) as (λ x. is_removed L M low high p ≡ x → in_range L M low high p ≡ true) [
      | true ↦ λ x. (removed_gives L M low high p x).itself
      | false ↦ λ x. range_before p (r.below p b (ap used (entry_is p ∙ ap (λ b. cond (longer p && b) 0 (entry M p)) x ∙ neither (longer p) (entry M p)) ∙ u))
    ] refl;
  }
    where
      neither : (b : Bool) (e : ℕ) → cond (b && false) 0 e ≡ e
      neither true e = refl
      neither false e = refl

  -- and it removes the root's entries that a whole one would have removed
  still_removed : (i : ℕ) → is_removed L M low high (i ∷ []) ≡ true → is_removed L N low high (i ∷ []) ≡ true
  still_removed i h = let r = removed_gives L M low high (i ∷ []) h in removed_from L N below_tree.used_alone low high (i ∷ []) (record {
    itself = same_range L N M low high (i ∷ []) (entry_is (i ∷ [])) ∙ r.itself;
    above = refl;
    below = λ p b u. let e = kept p u in same_range L N M low high p e ∙ r.below p b (ap used (sym e) ∙ u);
  })

  same_entry : (p : List ℕ) → entry (clean_up L N low high).paths p ≡ entry (clean_up L M low high).paths p
  same_entry p = entry-cleaned L N low high p ∙ by p (is_removed L M low high p) refl ∙ sym (entry-cleaned L M low high p)
    where
      zero : ℕ
      zero = 0

      gone : (b : Bool) → cond b zero zero ≡ zero
      gone true = refl
      gone false = refl

      by : (p : List ℕ) (b : Bool) → is_removed L M low high p ≡ b → cond (is_removed L N low high p) 0 (entry N p) ≡ cond (is_removed L M low high p) 0 (entry M p)
      by [] true h = absurd (root_stays L root M tree low high h)
      by (i ∷ []) true h = ap (λ b. cond b 0 (entry N (i ∷ []))) (still_removed i h) ∙ sym (ap (λ b. cond b 0 (entry M (i ∷ []))) h)
      by (i ∷ j ∷ p) true h = let q = i ∷ j ∷ p in
          ap (cond (is_removed L N low high q) 0) (entry_is q ∙ ap₂ (λ a b. cond (a && b) 0 (entry M q)) (lt-ltb 1 (length q) (omega arith)) h)
          ∙ gone (is_removed L N low high q) ∙ sym (ap (λ b. cond b 0 (entry M q)) h)
      by p false h = ap (λ b. cond b 0 (entry N p)) (false_from_ne_true _ (λ r.
          let t : true ≡ false = sym (removed_from L M tree.used_alone low high p (was_removed p (removed_gives L N low high p r))) ∙ h in cc))
          ∙ entry_is p ∙ ap (λ b. cond (longer p && b) 0 (entry M p)) h ∙ neither (longer p) ∙ sym (ap (λ b. cond b 0 (entry M p)) h)
        where
          neither : (b : Bool) → cond (b && false) 0 (entry M p) ≡ entry M p
          neither true = refl
          neither false = refl

  same_clean_up : (clean_up L N low high).paths ≡ (clean_up L M low high).paths
  same_clean_up = same_paths _ _ (clean_tree L root N below_tree low high).used_alone (clean_tree L root M tree low high).used_alone same_entry

  is_cleaned : (clean_up_below_root L M low high).paths ≡ N
  unfolding cleaned clean_up_below_root
  is_cleaned = refl

  -- the root's entries stay
  pub root_entry_stays : (i : ℕ) → entry (clean_up_below_root L M low high).paths (i ∷ []) ≡ entry M (i ∷ [])
  root_entry_stays i = ap (λ N. entry N (i ∷ [])) is_cleaned ∙ entry_is (i ∷ [])

  pub walked_below_root : (p : ℕ) → walked (entry (clean_up_below_root L M low high).paths) p L [] true true ≡ walked (entry M) p L [] true true
  walked_below_root p = ap (λ N. walked (entry N) p L [] true true) is_cleaned ∙ sym (walked_cleaned L root N below_tree low high p)
      ∙ ap (λ N. walked (entry N) p L [] true true) same_clean_up ∙ walked_cleaned L root M tree low high p
