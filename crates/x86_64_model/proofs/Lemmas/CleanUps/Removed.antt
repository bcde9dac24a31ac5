-- What a clean up removes.
use Rattle.std.proofs.Common.{◌≡◌, ℕ, ◌||◌, Bool, true, false, not, cond, List, [], ◌∷◌, ◌++◌, map, refl, sym, ap, ◌∙◌, subst, append_assoc, ◌<◌, length, ltb-true}
use Rattle.std.proofs.lemmas.List.{map-append}
use Rattle.std.specs.List.{list_all}
use Rattle.std.proofs.lemmas.Bool.{and_parts, and_from, not-true}
use Rattle.x86_64_model.specs.Entry.{used, present, huge}
use Rattle.x86_64_model.specs.PathMap.{PathMap, entry, HasUsedAlone, table_of}
use Rattle.x86_64_model.specs.Path.{parents, is_below}
use Rattle.x86_64_model.specs.CleanUp.{is_removed, in_range, clean_up}
use Rattle.x86_64_model.proofs.Lemmas.Entries.Bits.{unused_zero}
use Rattle.x86_64_model.proofs.Lemmas.Paths.Begins.{below_goes_on, goes_on_from_below}
use Rattle.x86_64_model.proofs.Lemmas.Hierarchies.Held.{table_at_last}
use Rattle.x86_64_model.proofs.Lemmas.Hierarchies.Changes.{zero_not_used, unused_no_table}
use Rattle.x86_64_model.proofs.Lemmas.Hierarchies.Trees.{IsTree, tree_below}
use Rattle.x86_64_model.proofs.Lemmas.CleanUps.Keys.{at_used, from_used, entry-cleaned}

pub list_all-append : {X : Type 0} (P : X → Bool) (xs ys : List X) → list_all P xs ≡ true → list_all P ys ≡ true → list_all P (xs ++ ys) ≡ true
list_all-append P [] ys h g = g
list_all-append P (x ∷ xs) ys h g = let parts = and_parts _ _ h in and_from _ _ parts.0 (list_all-append P xs ys parts.1 g)

pub parents_last : (i : ℕ) (q : List ℕ) (j : ℕ) → parents (i ∷ q ++ j ∷ []) ≡ parents (i ∷ q) ++ (i ∷ q) ∷ []
parents_last i [] j = refl
parents_last i (k ∷ q) j = ap (λ ps. (i ∷ []) ∷ ps) (ap (map (λ r. i ∷ r)) (parents_last k q j) ∙ map-append (λ r. i ∷ r) (parents (k ∷ q)) ((k ∷ q) ∷ []))

pub record Removed (L : ℕ) (M : PathMap) (low high : ℕ) (q : List ℕ) : Type 0 where
  pub itself : in_range L M low high q ≡ true
  pub above : list_all (in_range L M low high) (parents q) ≡ true
  pub below : (p : List ℕ) → is_below q p ≡ true → used (entry M p) ≡ true → in_range L M low high p ≡ true

-- the parts of the test `in_range`
pub in_range_parts : (L : ℕ) (M : PathMap) (low high : ℕ) (q : List ℕ) → in_range L M low high q ≡ true → (length q < L) × (present (entry M q) ≡ true) × (huge (entry M q) ≡ false)
in_range_parts L M low high q h =
    let table = and_parts _ _ (and_parts _ _ h).0 in
    let first = and_parts _ _ table.0 in
    (ltb-true (length q) L first.0, first.1, not-true (huge (entry M q)) table.1)

pub implied : (a b : Bool) → (not a || b) ≡ true → a ≡ true → b ≡ true
implied true b h e = h
implied false b h e = cc

pub implied_from : (a b : Bool) → (a ≡ true → b ≡ true) → (not a || b) ≡ true
implied_from true b h = h refl
implied_from false b h = refl

pub removed_gives : (L : ℕ) (M : PathMap) (low high : ℕ) (q : List ℕ) → is_removed L M low high q ≡ true → Removed L M low high q
unfolding is_removed
removed_gives L M low high q h = let parts = and_parts _ _ h in let front = and_parts _ _ parts.0 in record {
  itself = front.0;
  above = front.1;
  below = λ p b u. implied _ _ (at_used M (λ p. not (is_below q p) || in_range L M low high p) parts.1 p u) b;
}

pub removed_from : (L : ℕ) (M : PathMap) → HasUsedAlone M → (low high : ℕ) (q : List ℕ) → Removed L M low high q → is_removed L M low high q ≡ true
unfolding is_removed
removed_from L M alone low high q r = and_from _ _ (and_from _ _ r.itself r.above)
    (from_used M alone (λ p. not (is_below q p) || in_range L M low high p) (λ p u. implied_from _ _ (λ b. r.below p b u)))

-- ---- a table is empty after its part of the clean up exactly if it is removed

module _ (L root : ℕ) (M : PathMap) (tree : IsTree L root M) (low high : ℕ) (i : ℕ) (c : List ℕ)
    (itself : in_range L M low high (i ∷ c) ≡ true) (above : list_all (in_range L M low high) (parents (i ∷ c)) ≡ true) where
  -- what is used just below a removed table goes
  pub child_removed : Removed L M low high (i ∷ c) → (j : ℕ) → used (entry M (i ∷ c ++ j ∷ [])) ≡ true → Removed L M low high (i ∷ c ++ j ∷ [])
  child_removed r j u = record {
    itself = r.below (i ∷ c ++ j ∷ []) (below_goes_on (i ∷ c) j []) u;
    above = ap (list_all (in_range L M low high)) (parents_last i c j) ∙ list_all-append _ (parents (i ∷ c)) ((i ∷ c) ∷ []) above (and_from _ _ itself refl);
    below = λ p b v. let more = goes_on_from_below (i ∷ c ++ j ∷ []) p b in
        r.below p (ap (is_below (i ∷ c)) (more.2 ∙ append_assoc (i ∷ c) (j ∷ []) (more.0 ∷ more.1)) ∙ below_goes_on (i ∷ c) j (more.0 ∷ more.1)) v;
  }

  pub empty_if_removed : is_removed L M low high (i ∷ c) ≡ true → (j : ℕ) → entry (clean_up L M low high).paths (i ∷ c ++ j ∷ []) ≡ 0
  empty_if_removed h j = entry-cleaned L M low high (i ∷ c ++ j ∷ []) ∙ elim (used (entry M (i ∷ c ++ j ∷ []))) as (λ u. used (entry M (i ∷ c ++ j ∷ [])) ≡ u → cond (is_removed L M low high (i ∷ c ++ j ∷ [])) 0 (entry M (i ∷ c ++ j ∷ [])) ≡ 0) [
    | true ↦ λ u. ap (λ b. cond b 0 (entry M (i ∷ c ++ j ∷ []))) (removed_from L M tree.used_alone low high _ (child_removed (removed_gives L M low high (i ∷ c) h) j u))
    | false ↦ λ u. elim (is_removed L M low high (i ∷ c ++ j ∷ [])) as (λ b. cond b 0 (entry M (i ∷ c ++ j ∷ [])) ≡ 0) [ true ↦ refl | false ↦ unused_zero _ u ]
  ] refl

  -- a used path below has used paths above it
  pub used_above : (j : ℕ) (s : List ℕ) → used (entry M (i ∷ c ++ j ∷ s)) ≡ true → used (entry M (i ∷ c ++ j ∷ [])) ≡ true
  used_above j [] u = u
  used_above j (k ∷ s) u = elim (used (entry M (i ∷ c ++ j ∷ []))) as (λ b. used (entry M (i ∷ c ++ j ∷ [])) ≡ b → b ≡ true) [
    | true ↦ λ _. refl
    | false ↦ λ e. let z = tree_below L root M tree (i ∷ c ++ j ∷ []) k s (table_at_last L root M (i ∷ c) j ∙ ap (table_of L (i ∷ c ++ j ∷ [])) (unused_zero _ e) ∙ unused_no_table L (i ∷ c ++ j ∷ [])) in
        let t : false ≡ true = sym (ap used (ap (entry M) (sym (append_assoc (i ∷ c) (j ∷ []) (k ∷ s))) ∙ z) ∙ zero_not_used) ∙ u in cc
  ] refl

  pub went : (j : ℕ) → entry (clean_up L M low high).paths (i ∷ c ++ j ∷ []) ≡ 0 → used (entry M (i ∷ c ++ j ∷ [])) ≡ true → Removed L M low high (i ∷ c ++ j ∷ [])
  went j z u = removed_gives L M low high _ (elim (is_removed L M low high (i ∷ c ++ j ∷ [])) as (λ b. cond b 0 (entry M (i ∷ c ++ j ∷ [])) ≡ 0 → b ≡ true) [
    | true ↦ λ _. refl
    | false ↦ λ e. let t : false ≡ true = sym (ap used e ∙ zero_not_used) ∙ u in cc
  ] (sym (entry-cleaned L M low high (i ∷ c ++ j ∷ [])) ∙ z))

  pub removed_if_empty : ((j : ℕ) → entry (clean_up L M low high).paths (i ∷ c ++ j ∷ []) ≡ 0) → is_removed L M low high (i ∷ c) ≡ true
  removed_if_empty h = removed_from L M tree.used_alone low high (i ∷ c) (record {
    itself = itself;
    above = above;
    below = λ p b u. let more = goes_on_from_below (i ∷ c) p b in subst (λ p. in_range L M low high p ≡ true) (sym more.2) (by more.0 more.1 (subst (λ p. used (entry M p) ≡ true) more.2 u));
  })
    where
      by : (j : ℕ) (s : List ℕ) → used (entry M (i ∷ c ++ j ∷ s)) ≡ true → in_range L M low high (i ∷ c ++ j ∷ s) ≡ true
      by j [] u = (went j (h j) u).itself
      by j (k ∷ s) u = (went j (h j) (used_above j (k ∷ s) u)).below (i ∷ c ++ j ∷ k ∷ s) (ap (is_below (i ∷ c ++ j ∷ [])) (sym (append_assoc (i ∷ c) (j ∷ []) (k ∷ s))) ∙ below_goes_on (i ∷ c ++ j ∷ []) k s) u
