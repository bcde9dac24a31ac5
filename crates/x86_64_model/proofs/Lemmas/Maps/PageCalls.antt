-- A map call of a page leaves a hierarchy, and conserves frames.
use Rattle.std.proofs.Common.{◌≡◌, ◌≢◌, ◌<◌, ℕ, ◌==◌, true, false, List, [], ◌∷◌, Some, None, refl, sym, ◌∙◌, arith, eq-eqb}
use Rattle.std.specs.List.{AllByRecursion}
use Rattle.x86_64_model.specs.Entry.{IsParentFlags, huge}
use Rattle.x86_64_model.specs.PathMap.{PathMap, entry, table_at}
use Rattle.x86_64_model.specs.Path.{level_of, parents, IsPage}
use Rattle.x86_64_model.specs.Window.{Window, begins_with}
use Rattle.x86_64_model.specs.MapRule.{map_call, leaf_entry}
use Rattle.x86_64_model.proofs.Lemmas.Maps.Frames.{IsFrame, Conserves, map_conserves}
use Rattle.x86_64_model.proofs.Lemmas.Maps.Accepted.{map_leaves}
use Rattle.x86_64_model.proofs.Lemmas.Hierarchies.Trees.{IsHierarchy, some_not_none}
use Rattle.x86_64_model.proofs.Lemmas.Maps.Trees.{page_chain, page_descends, parents_are, parents_begin, map_goes}
use Rattle.x86_64_model.proofs.Lemmas.Maps.Leaves.{none_at_leaf}
use Rattle.x86_64_model.proofs.Lemmas.Lists.All.{all_mapped}

-- ---- a map call of a page

pub leaf_low : (L : ℕ) (q : List ℕ) (e : ℕ) → IsPage L q → 3 < level_of L q → huge e ≡ false
leaf_low L q e page up = absurd (let a = page.at_least in omega arith)

pub not_first : (i r : ℕ) (s : List ℕ) → (i == r) ≡ false → r ∷ [] ≢ i ∷ s
not_first i r s out e = let x : r ≡ i = cc in let y : (i == r) ≡ true = eq-eqb i r (sym x) in let z : true ≡ false = sym y ∙ out in cc

pub root_leads : (L root : ℕ) (M : PathMap) → table_at L root M [] ≢ None
root_leads L root M = some_not_none root

module _ (L root more added : ℕ) (marks : IsParentFlags more) (adds : IsParentFlags added) (q : List ℕ) (frame given : ℕ) (page : IsPage L q) (M : PathMap) (supply : List ℕ) (h : IsHierarchy L root M) (frames : AllByRecursion IsFrame supply) where
  pub map_hierarchy : IsHierarchy L root (map_call L M supply more added q frame given).paths × AllByRecursion IsFrame (map_call L M supply more added q frame given).supply
  map_hierarchy = map_goes L root more added marks adds q (leaf_entry L q frame given) frame (none_at_leaf L q frame given) (leaf_low L q _ page) M supply (parents q) (page_descends L root M h.tree q)
      [] (page_chain L q page) (root_leads L root M) (parents_are L q page.at_most) h frames

  pub map_conserved : Conserves L root M supply (map_call L M supply more added q frame given).paths (map_call L M supply more added q frame given).supply
  map_conserved = by q page
    where
      by : (q : List ℕ) → IsPage L q → Conserves L root M supply (map_call L M supply more added q frame given).paths (map_call L M supply more added q frame given).supply
      by [] page = absurd (let l = page.nonempty in omega arith)
      by (i ∷ q) page = map_conserves L root more added marks adds i q _ frame (none_at_leaf L (i ∷ q) frame given) M supply (parents (i ∷ q)) (page_descends L root M h.tree (i ∷ q)) (parents_are L (i ∷ q) page.at_most) frames

  -- other first indices keep their entries
  pub map_aside : (w : Window) → begins_with (Some w) q ≡ false → entry (map_call L M supply more added q frame given).paths (w.index ∷ []) ≡ entry M (w.index ∷ [])
  map_aside w = by q page
    where
      by : (q : List ℕ) → IsPage L q → begins_with (Some w) q ≡ false → entry (map_call L M supply more added q frame given).paths (w.index ∷ []) ≡ entry M (w.index ∷ [])
      by [] page out = absurd (let l = page.nonempty in omega arith)
      by (i ∷ q) page out =
          let apart : (s t : List ℕ) → t ≡ i ∷ s → w.index ∷ [] ≢ t = λ s t is e. not_first i w.index s out (e ∙ is) in
          map_leaves more added (i ∷ q) _ frame (w.index ∷ []) (apart q (i ∷ q) refl) M supply (parents (i ∷ q)) (page_descends L root M h.tree (i ∷ q))
          (all_mapped _ _ (λ p (h : (s : List ℕ) × (p ≡ i ∷ s)). apart h.0 p h.1) (parents (i ∷ q)) (parents_begin i q))
