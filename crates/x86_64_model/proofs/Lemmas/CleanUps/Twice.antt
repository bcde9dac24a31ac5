-- A clean up done twice is done once.
use Rattle.std.proofs.Common.{◌≡◌, ℕ, ◌&&◌, true, false, not, List, [], ◌∷◌, length, nat_lt, refl, sym, ap, ◌∙◌}
use Rattle.std.proofs.lemmas.Bool.{and_parts, and_from}
use Rattle.std.specs.List.{list_all}
use Rattle.x86_64_model.specs.Entry.{used, present, huge}
use Rattle.x86_64_model.specs.PathMap.{PathMap, entry}
use Rattle.x86_64_model.specs.Path.{parents}
use Rattle.x86_64_model.specs.CleanUp.{in_range, meets, is_removed, clean_up}
use Rattle.x86_64_model.proofs.Lemmas.Entries.Bits.{used_present}
use Rattle.x86_64_model.proofs.Lemmas.Hierarchies.Changes.{zero_not_used}
use Rattle.x86_64_model.proofs.Lemmas.CleanUps.Removed.{Removed, removed_gives, removed_from, in_range_parts}
use Rattle.x86_64_model.proofs.Lemmas.CleanUps.Keys.{nothing_removed}
use Rattle.x86_64_model.proofs.Lemmas.CleanUps.Answers.{gone, stays}
use Rattle.x86_64_model.proofs.Lemmas.CleanUps.Trees.{clean_tree}
use Rattle.x86_64_model.proofs.Lemmas.Hierarchies.Trees.{IsTree}

module _ (L root : ℕ) (M : PathMap) (tree : IsTree L root M) (low high : ℕ) where
  abbrev N : PathMap
  N = (clean_up L M low high).paths

  -- what is left in range was in range, and stays
  kept : (q : List ℕ) → used (entry N q) ≡ true → entry N q ≡ entry M q
  kept q u = elim (is_removed L M low high q) as (λ b. is_removed L M low high q ≡ b → entry N q ≡ entry M q) [
    | true ↦ λ r. let t : false ≡ true = sym (ap used (gone L root M tree low high q r) ∙ zero_not_used) ∙ u in cc
    | false ↦ λ r. stays L root M tree low high q r
  ] refl

  range_before : (q : List ℕ) → in_range L N low high q ≡ true → in_range L M low high q ≡ true
  range_before q h = ap (λ e. nat_lt (length q) L && present e && not (huge e) && meets L low high q) (sym (kept q (used_present _ (in_range_parts L N low high q h).1))) ∙ h

  all_before : (ps : List (List ℕ)) → list_all (in_range L N low high) ps ≡ true → list_all (in_range L M low high) ps ≡ true
  all_before [] h = refl
  all_before (p ∷ ps) h = let parts = and_parts _ _ h in and_from _ _ (range_before p parts.0) (all_before ps parts.1)

  was_removed : (q : List ℕ) → Removed L N low high q → Removed L M low high q
  was_removed q r = record {
    itself = range_before q r.itself;
    above = all_before (parents q) r.above;
    below = λ p b u. elim (is_removed L M low high p) as (λ x. is_removed L M low high p ≡ x → in_range L M low high p ≡ true) [
      | true ↦ λ x. (removed_gives L M low high p x).itself
      | false ↦ λ x. range_before p (r.below p b (ap used (stays L root M tree low high p x) ∙ u))
    ] refl;
  }

  none_removed : (q : List ℕ) → is_removed L N low high q ≡ false
  none_removed q = elim (is_removed L N low high q) as (λ b. is_removed L N low high q ≡ b → b ≡ false) [
    | true ↦ λ h. let r = removed_gives L N low high q h in
        let x : is_removed L M low high q ≡ true = removed_from L M tree.used_alone low high q (was_removed q r) in
        let u : used (entry N q) ≡ true = used_present _ (in_range_parts L N low high q r.itself).1 in
        let t : false ≡ true = sym (ap used (gone L root M tree low high q x) ∙ zero_not_used) ∙ u in cc
    | false ↦ λ h. refl
  ] refl

  pub once : clean_up L N low high ≡ record { paths = N; back = [] }
  once = nothing_removed L N (clean_tree L root M tree low high).used_alone low high none_removed
