-- A clean up only moves frames: the set of free and table frames stays the same.
use Rattle.std.proofs.Common.{◌-◌, ◌≡◌, ◌↔◌, inl, inr, ⊎_elim, ◌≤◌, ℕ, true, false, List, [], ◌∷◌, ◌++◌, length, map, filter, Some, refl, sym, ap, ◌∙◌, subst, arith}
use Rattle.std.proofs.lemmas.Option.{same_Some}
use Rattle.x86_64_model.specs.Entry.{address}
use Rattle.x86_64_model.specs.PathMap.{PathMap, entry, table_of, table_at}
use Rattle.x86_64_model.specs.Path.{paths_below}
use Rattle.x86_64_model.proofs.Lemmas.Hierarchies.Trees.{IsTree, indices_below, some_not_none}
use Rattle.x86_64_model.specs.CleanUp.{is_removed, clean_up}
use Rattle.x86_64_model.specs.Pool.{IsOwn}
use Rattle.x86_64_model.proofs.Lemmas.Lists.Members.{in_left, in_right, in_append, in_filter, passes, in_map, from_map}
use Rattle.x86_64_model.proofs.Lemmas.Entries.Bits.{used_present}
use Rattle.x86_64_model.proofs.Lemmas.Hierarchies.Changes.{unused_no_table}
use Rattle.x86_64_model.specs.Lists.{In}
use Rattle.x86_64_model.proofs.Lemmas.Hierarchies.Exists.{in_paths_below}
use Rattle.x86_64_model.proofs.Lemmas.Walks.Agrees.{named}
use Rattle.x86_64_model.proofs.Lemmas.Walks.Walked.{names}
use Rattle.x86_64_model.proofs.Lemmas.CleanUps.Removed.{removed_gives, in_range_parts}
use Rattle.x86_64_model.proofs.Lemmas.CleanUps.Answers.{gone, stays}
use Rattle.x86_64_model.proofs.Lemmas.Maps.Frames.{used_not_zero}

module _ (L root : ℕ) (M : PathMap) (tree : IsTree L root M) (low high : ℕ) where
  -- the root stays
  pub root_stays : is_removed L M low high [] ≡ true → ⊥
  root_stays r = used_not_zero (entry M []) (used_present _ (in_range_parts L M low high [] (removed_gives L M low high [] r).itself).1) tree.nothing_above

  -- a removed path leads to a table
  pub removed_leads : (q : List ℕ) → is_removed L M low high q ≡ true → table_at L root M q ≡ Some (address (entry M q))
  removed_leads [] r = absurd (root_stays r)
  removed_leads (i ∷ q) r = let parts = in_range_parts L M low high (i ∷ q) (removed_gives L M low high (i ∷ q) r).itself in
      named L (i ∷ q) (entry M (i ∷ q)) (names (entry M (i ∷ q)) parts.1 parts.2) parts.0

  -- a table that is left stood there before
  pub clean_table : (i : ℕ) (q : List ℕ) (f : ℕ) → table_at L root (clean_up L M low high).paths (i ∷ q) ≡ Some f → (is_removed L M low high (i ∷ q) ≡ false) × (table_at L root M (i ∷ q) ≡ Some f)
  clean_table i q f t = elim (is_removed L M low high (i ∷ q)) as (λ b. is_removed L M low high (i ∷ q) ≡ b → (b ≡ false) × (table_at L root M (i ∷ q) ≡ Some f)) [
    | true ↦ λ r. absurd (some_not_none f (sym t ∙ ap (table_of L (i ∷ q)) (gone L root M tree low high (i ∷ q) r) ∙ unused_no_table L (i ∷ q)))
    | false ↦ λ r. (refl, ap (table_of L (i ∷ q)) (sym (stays L root M tree low high (i ∷ q) r)) ∙ t)
  ] refl

  pub clean_before : (q : List ℕ) (f : ℕ) → table_at L root (clean_up L M low high).paths q ≡ Some f → table_at L root M q ≡ Some f
  clean_before [] f t = t
  clean_before (i ∷ q) f t = (clean_table i q f t).1

  pub listed : (i : ℕ) (q : List ℕ) → is_removed L M low high (i ∷ q) ≡ true → In (paths_below (L - 1) []) (i ∷ q)
  listed i q r =
      let parts = in_range_parts L M low high (i ∷ q) (removed_gives L M low high (i ∷ q) r).itself in
      let l : length (i ∷ q) ≤ L - 1 = omega (arith, parts.0) in
      in_paths_below (L - 1) [] i q l (indices_below L root M tree (i ∷ q) (used_present _ parts.1))

  pub clean_same_set : (pool : List ℕ) (f : ℕ) → IsOwn L root M pool f ↔ IsOwn L root (clean_up L M low high).paths ((clean_up L M low high).back ++ pool) f
  unfolding clean_up
  clean_same_set pool f = (⊎_elim (λ h. inl (in_right back pool f h)) (λ t. out t.0 t.1), ⊎_elim (λ h. ⊎_elim from_back (λ h. inl h) (in_append back pool f h)) (λ t. inr (t.0, clean_before t.0 f t.1)))
    where
      back : List ℕ
      back = map (λ q. address (entry M q)) (filter (is_removed L M low high) (paths_below (L - 1) []))

      out : (q : List ℕ) → table_at L root M q ≡ Some f → IsOwn L root (clean_up L M low high).paths (back ++ pool) f
      out [] h = inr ([], h)
      out (i ∷ q) h = elim (is_removed L M low high (i ∷ q)) as (λ b. is_removed L M low high (i ∷ q) ≡ b → IsOwn L root (clean_up L M low high).paths (back ++ pool) f) [
        | true ↦ λ r. inl (in_left back pool f (subst (In back) (same_Some _ _ (sym (removed_leads (i ∷ q) r) ∙ h)) (in_map (λ q. address (entry M q)) (filter (is_removed L M low high) (paths_below (L - 1) [])) (i ∷ q) (in_filter (is_removed L M low high) (paths_below (L - 1) []) (i ∷ q) (listed i q r) r))))
        | false ↦ λ r. inr (i ∷ q, ap (table_of L (i ∷ q)) (stays L root M tree low high (i ∷ q) r) ∙ h)
      ] refl

      from_back : In back f → IsOwn L root M pool f
      from_back h = let more = from_map (λ q. address (entry M q)) (filter (is_removed L M low high) (paths_below (L - 1) [])) f h in inr (more.0, removed_leads more.0 (passes (is_removed L M low high) (paths_below (L - 1) []) more.0 more.1) ∙ ap Some more.2)
