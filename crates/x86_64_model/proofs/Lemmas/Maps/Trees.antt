-- A map leaves a hierarchy.
use Rattle.std.proofs.Common.{◌≡◌, ◌≢◌, ◌<◌, ◌≤◌, ℕ, suc, ◌&&◌, true, false, not, List, [], ◌∷◌, ◌++◌, length, map, Some, None, bit_or, refl, sym, ap₂, ◌∙◌, subst, subst₂, arith, append_assoc, map-id}
use Rattle.std.proofs.lemmas.Option.{same_Some}
use Rattle.std.specs.List.{AllByRecursion}
use Rattle.x86_64_model.specs.Entry.{IsParentFlags, used, huge}
use Rattle.x86_64_model.specs.PathMap.{PathMap, entry, put, table_of, table_at}
use Rattle.x86_64_model.specs.Path.{level_of, parents, AllBelow, IsPage}
use Rattle.x86_64_model.specs.MapRule.{AfterMap, map_rule}
use Rattle.x86_64_model.proofs.Lemmas.Entries.Bits.{has_or}
use Rattle.x86_64_model.proofs.Lemmas.Hierarchies.Held.{table_at-put_same}
use Rattle.x86_64_model.proofs.Lemmas.Hierarchies.Changes.{map_again}
use Rattle.x86_64_model.proofs.Lemmas.Maps.Down.{Descends}
use Rattle.x86_64_model.proofs.Lemmas.Maps.Frames.{IsFrame, AreParents, table_of_marked, table_of_new, flags_or, frame_not_huge}
use Rattle.x86_64_model.proofs.Lemmas.Maps.Accepted.{map_ind}
use Rattle.x86_64_model.proofs.Lemmas.Walks.Agrees.{named}
use Rattle.x86_64_model.proofs.Lemmas.Hierarchies.Trees.{IsTree, IsHierarchy, table_at_is, some_not_none, tree_descends, unused_leads_nowhere}
use Rattle.x86_64_model.proofs.Lemmas.Hierarchies.Puts.{Reached, hierarchy_put, reached_used, reached_next}
use Rattle.x86_64_model.proofs.Lemmas.Lists.All.{all_mapped, all_map}
use Rattle.x86_64_model.proofs.Lemmas.Paths.Puts.{no_end}

-- each path is the one before and one more index
abbrev pub Chain : List ℕ → List (List ℕ) → List ℕ → Type 0
Chain pre [] q = (k : ℕ) × (k < 512) × (q ≡ pre ++ k ∷ [])
Chain pre (p ∷ ps) q = (k : ℕ) × (k < 512) × (p ≡ pre ++ k ∷ []) × Chain p ps q

pub parents_chain : (pre : List ℕ) (i : ℕ) (q : List ℕ) → AllBelow (i ∷ q) → Chain pre (map (λ r. pre ++ r) (parents (i ∷ q))) (pre ++ i ∷ q)
parents_chain pre i [] a = (i, a.0, refl)
parents_chain pre i (j ∷ q) a = (i, a.0, refl, subst₂ (λ ps q. Chain (pre ++ i ∷ []) ps q) (map_again pre i (parents (j ∷ q))) (append_assoc pre (i ∷ []) (j ∷ q)) (parents_chain (pre ++ i ∷ []) j q a.1))

pub page_chain : (L : ℕ) (q : List ℕ) → IsPage L q → Chain [] (parents q) q
page_chain L [] page = absurd (let l = page.nonempty in omega arith)
page_chain L (i ∷ q) page = subst (λ ps. Chain [] ps (i ∷ q)) (map-id (parents (i ∷ q))) (parents_chain [] i q page.below)

pub page_descends : (L root : ℕ) (M : PathMap) → IsTree L root M → (q : List ℕ) → Descends M (parents q) q
page_descends L root M tree q = subst (λ ps. Descends M ps q) (map-id (parents q)) (tree_descends L root M tree [] q)

pub parents_short : (q : List ℕ) → AllByRecursion (λ p. (0 < length p) × (length p < length q)) (parents q)
parents_short [] = tt
parents_short (i ∷ []) = tt
parents_short (i ∷ j ∷ q) = ((omega arith, omega arith), all_map _ (λ q. i ∷ q) (parents (j ∷ q)) (all_mapped _ _ more (parents (j ∷ q)) (parents_short (j ∷ q))))
  where
    more : (p : List ℕ) → (0 < length p) × (length p < suc (length q)) → (0 < suc (length p)) × (suc (length p) < suc (suc (length q)))
    more p h = let a = h.1 in (omega arith, omega arith)

pub parents_are : (L : ℕ) (q : List ℕ) → length q ≤ L → AreParents L (parents q)
parents_are L q l = all_mapped _ _ (λ p (h : (0 < length p) × (length p < length q)). let a = h.1 in (h.0, omega arith)) (parents q) (parents_short q)

pub parents_begin : (i : ℕ) (q : List ℕ) → AllByRecursion (λ p. (s : List ℕ) × (p ≡ i ∷ s)) (parents (i ∷ q))
parents_begin i [] = tt
parents_begin i (j ∷ q) = (([], refl), all_map _ (λ q. i ∷ q) (parents (j ∷ q)) (all_mapped _ _ (λ p (h : (s : List ℕ) × (p ≡ j ∷ s)). (p, refl)) (parents (j ∷ q)) (parents_begin j q)))

-- a used entry gets flags
pub marked_hierarchy : (L root more : ℕ) (M : PathMap) (p : List ℕ) → IsParentFlags more → IsHierarchy L root M → p ≢ [] → used (entry M p) ≡ true → IsHierarchy L root (put M p (bit_or (entry M p) more))
marked_hierarchy L root more M p marks h n u =
    let same : table_of L p (bit_or (entry M p) more) ≡ table_at L root M p = table_of_marked L p (entry M p) more marks u ∙ sym (table_at_is L root M p n) in
    hierarchy_put L root M p (bit_or (entry M p) more) n h (reached_used L root M h.tree p u) (λ e. sym same ∙ e) (λ e. zero p n (sym same ∙ e))
    (λ up. has_or (entry M p) more 0x80 marks.not_huge ∙ h.none_huge p up)
  where
    zero : (p : List ℕ) → p ≢ [] → table_at L root M p ≢ Some 0
    zero [] n e = n refl
    zero (i ∷ p) n e = h.not_zero i p e

pub nonempty : (p pre : List ℕ) (k : ℕ) → p ≡ pre ++ k ∷ [] → p ≢ []
nonempty p pre k e z = no_end pre k (sym z ∙ e)

module _ (L root more added : ℕ) (marks : IsParentFlags more) (adds : IsParentFlags added) (q : List ℕ) (e frame : ℕ) (no_table : table_of L q e ≡ None) (low : 3 < level_of L q → huge e ≡ false) where
  -- before and after a way down
  abbrev pub StaysTree : PathMap → List ℕ → List (List ℕ) → AfterMap → Type 0
  StaysTree M s ps m = (pre : List ℕ) → Chain pre ps q → table_at L root M pre ≢ None → AreParents L ps → IsHierarchy L root M → AllByRecursion IsFrame s → IsHierarchy L root m.paths × AllByRecursion IsFrame m.supply

  pub reached_step : (M : PathMap) (p pre : List ℕ) (k : ℕ) → k < 512 → p ≡ pre ++ k ∷ [] → table_at L root M pre ≢ None → Reached L root M p
  reached_step M p pre k l is leads = subst (Reached L root M) (sym is) (reached_next L root M pre k leads l)

  pub leads_on : (M : PathMap) (p : List ℕ) → used (entry M p) ≡ true → huge (entry M p) ≡ false → length p < L → p ≢ [] → table_at L root (put M p (bit_or (entry M p) more)) p ≢ None
  leads_on M p u h l n z = some_not_none _ (sym (table_at-put_same L root M p _ n ∙ table_of_marked L p (entry M p) more marks u
      ∙ named L p (entry M p) (ap₂ (λ u h. u && not h) u h) l) ∙ z)

  pub new_leads : (M : PathMap) (p : List ℕ) (f : ℕ) → IsFrame f → length p < L → p ≢ [] → table_at L root (put M p (bit_or f (bit_or more added))) p ≡ Some f
  new_leads M p f fr l n = table_at-put_same L root M p _ n ∙ table_of_new L p f (bit_or more added) (flags_or more added marks adds) fr l

  pub new_hierarchy : (M : PathMap) (p pre : List ℕ) (k f : ℕ) → k < 512 → p ≡ pre ++ k ∷ [] → table_at L root M pre ≢ None → length p < L → IsFrame f → IsHierarchy L root M → used (entry M p) ≡ false
      → IsHierarchy L root (put M p (bit_or f (bit_or more added)))
  new_hierarchy M p pre k f l is leads short fr h u =
      let n = nonempty p pre k is in
      let new = table_of_new L p f (bit_or more added) (flags_or more added marks adds) fr short in
      hierarchy_put L root M p _ n h (reached_step M p pre k l is leads) (λ z. absurd (some_not_none f (sym new ∙ z))) (λ z. fr.not_zero (same_Some f 0 (sym new ∙ z)))
      (λ _. has_or f (bit_or more added) 0x80 (flags_or more added marks adds).not_huge ∙ frame_not_huge f fr.aligned)

  pub leaf_hierarchy : (M : PathMap) (pre : List ℕ) (k : ℕ) → k < 512 → q ≡ pre ++ k ∷ [] → table_at L root M pre ≢ None → IsHierarchy L root M → used (entry M q) ≡ false → IsHierarchy L root (put M q e)
  leaf_hierarchy M pre k l is leads h u =
      hierarchy_put L root M q e (nonempty q pre k is) h (reached_step M q pre k l is leads) (λ _. unused_leads_nowhere L root M q (nonempty q pre k is) u) (λ z. absurd (some_not_none 0 (sym z ∙ no_table))) low

  pub map_goes : (M : PathMap) (supply : List ℕ) (ps : List (List ℕ)) → Descends M ps q → StaysTree M supply ps (map_rule M supply more added ps q e frame)
  map_goes = map_ind more added q e frame StaysTree
      (λ M s u pre c leads a h fr. (h, fr))
      (λ M s u pre c leads a h fr. (leaf_hierarchy M pre c.0 c.1 c.2 leads h u, fr))
      (λ M s p ps u g pre c leads a h fr. (marked_hierarchy L root more M p marks h (nonempty p pre c.0 c.2) u, fr))
      (λ M s p ps d u g m ih pre c leads a h fr. ih p c.3 (leads_on M p u g a.0.1 (nonempty p pre c.0 c.2)) a.1 (marked_hierarchy L root more M p marks h (nonempty p pre c.0 c.2) u) fr)
      (λ M p ps u pre c leads a h fr. (h, tt))
      (λ M f fs p ps d u m ih pre c leads a h fr. ih p c.3 (λ z. some_not_none f (sym (new_leads M p f fr.0 a.0.1 (nonempty p pre c.0 c.2)) ∙ z)) a.1
      (new_hierarchy M p pre c.0 f c.1 c.2 leads a.0.1 fr.0 h u) fr.1)
