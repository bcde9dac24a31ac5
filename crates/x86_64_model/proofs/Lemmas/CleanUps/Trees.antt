-- A clean up leaves a hierarchy, and frees each frame once.
use Rattle.std.proofs.Common.{◌-◌, ◌≡◌, ◌↔◌, inl, inr, ⊎_elim, ℕ, zero, suc, true, false, cond, List, [], ◌∷◌, ◌++◌, filter, map, Some, None, refl, sym, ap, ◌∙◌, subst, append_assoc}
use Rattle.std.proofs.lemmas.List.{append_cancel_left}
use Rattle.x86_64_model.specs.Entry.{huge, address}
use Rattle.x86_64_model.specs.PathMap.{PathMap, entry, HasUsedAlone, table_of, table_at}
use Rattle.x86_64_model.specs.Path.{paths_below, indices}
use Rattle.x86_64_model.specs.CleanUp.{is_removed, clean_up}
use Rattle.x86_64_model.specs.Lists.{In, EachOnce}
use Rattle.x86_64_model.specs.Pool.{TakesBack, with_returned}
use Rattle.x86_64_model.proofs.Lemmas.Paths.Puts.{append_longer}
use Rattle.x86_64_model.proofs.Lemmas.Hierarchies.Changes.{zero_not_huge}
use Rattle.x86_64_model.proofs.Lemmas.CleanUps.Removed.{removed_gives, empty_if_removed}
use Rattle.x86_64_model.proofs.Lemmas.CleanUps.Keys.{entry-cleaned, used_alone-retained}
use Rattle.x86_64_model.proofs.Lemmas.CleanUps.Answers.{stays}
use Rattle.x86_64_model.proofs.Lemmas.CleanUps.Frames.{clean_same_set, root_stays, removed_leads, clean_table, clean_before}
use Rattle.x86_64_model.proofs.Lemmas.Lists.Members.{in_left, in_right, in_append, from_flat_map, from_map, passes}
use Rattle.x86_64_model.proofs.Lemmas.Lists.Once.{once_append, once_flat_map, once_indices, once_filter, once_map}
use Rattle.x86_64_model.proofs.Lemmas.Maps.Frames.{Conserves}
use Rattle.x86_64_model.proofs.Lemmas.Hierarchies.Trees.{IsTree, IsHierarchy, some_not_none}

-- ---- each path once

one_index : (q : List ℕ) (i j : ℕ) (s t : List ℕ) → q ++ i ∷ s ≡ q ++ j ∷ t → i ≡ j
one_index q i j s t e = let rest : i ∷ s ≡ j ∷ t = append_cancel_left q (i ∷ s) (j ∷ t) e in cc

pub goes_below : (n : ℕ) (q p : List ℕ) → In (paths_below n q) p → (i : ℕ) × (s : List ℕ) × (p ≡ q ++ i ∷ s)
unfolding paths_below
goes_below zero q p h = absurd h
goes_below (suc n) q p h = let at = from_flat_map (λ i. paths_below n (q ++ i ∷ []) ++ (q ++ i ∷ []) ∷ []) indices p h in
    ⊎_elim (λ h. let more = goes_below n (q ++ at.0 ∷ []) p h in (at.0, more.0 ∷ more.1, more.2 ∙ append_assoc q (at.0 ∷ []) (more.0 ∷ more.1)))
    (⊎_elim (λ e. (at.0, [], sym e)) (λ h. absurd h))
    (in_append (paths_below n (q ++ at.0 ∷ [])) ((q ++ at.0 ∷ []) ∷ []) p at.2)

at_index : (n : ℕ) (q : List ℕ) (i : ℕ) (p : List ℕ) → In (paths_below n (q ++ i ∷ []) ++ (q ++ i ∷ []) ∷ []) p → (s : List ℕ) × (p ≡ q ++ i ∷ s)
at_index n q i p h = ⊎_elim (λ h. let more = goes_below n (q ++ i ∷ []) p h in (more.0 ∷ more.1, more.2 ∙ append_assoc q (i ∷ []) (more.0 ∷ more.1)))
    (⊎_elim (λ e. ([], sym e)) (λ h. absurd h))
    (in_append (paths_below n (q ++ i ∷ [])) ((q ++ i ∷ []) ∷ []) p h)

-- no path comes twice
pub once_paths : (n : ℕ) (q : List ℕ) → EachOnce (paths_below n q)
unfolding paths_below
once_paths zero q = tt
once_paths (suc n) q = once_flat_map (λ i. paths_below n (q ++ i ∷ []) ++ (q ++ i ∷ []) ∷ []) indices once_indices
    (λ i. once_append (paths_below n (q ++ i ∷ [])) ((q ++ i ∷ []) ∷ []) (once_paths n (q ++ i ∷ [])) (λ h. h, tt)
    (λ z h. ⊎_elim (λ e. let more = goes_below n (q ++ i ∷ []) z h in append_longer (q ++ i ∷ []) more.0 more.1 (sym more.2 ∙ sym e)) (λ h. h)))
    (λ i j z h g. let a = at_index n q i z h in let b = at_index n q j z g in one_index q i j a.0 b.0 (sym a.1 ∙ b.1))

-- ---- frames that were given back

module _ (take_back : List ℕ → ℕ → List ℕ) (gives : TakesBack take_back) where
  pub given_frames : (held fs : List ℕ) (g : ℕ) → In (with_returned take_back held fs) g ↔ In (fs ++ held) g
  given_frames held [] g = (λ h. h, λ h. h)
  given_frames held (f ∷ fs) g = let more = given_frames (take_back held f) fs g in let one = gives.same_frames held f g in (
    λ h. ⊎_elim (λ h. inr (in_left fs held g h)) (λ h. ⊎_elim (λ e. inl e) (λ h. inr (in_right fs held g h)) (one.0 h)) (in_append fs (take_back held f) g (more.0 h)),
    ⊎_elim (λ e. more.1 (in_right fs (take_back held f) g (one.1 (inl e)))) (λ h. more.1 (⊎_elim (λ h. in_left fs (take_back held f) g h) (λ h. in_right fs (take_back held f) g (one.1 (inr h))) (in_append fs held g h))),
  )

  pub given_once : (held fs : List ℕ) → EachOnce held → EachOnce fs → ((g : ℕ) → In fs g → In held g → ⊥) → EachOnce (with_returned take_back held fs)
  given_once held [] a b apart = a
  given_once held (f ∷ fs) a b apart = given_once (take_back held f) fs (gives.each_once held f (λ h. apart f (inl refl) h, a)) b.1
      (λ g h k. ⊎_elim (λ e. b.0 (subst (In fs) (sym e) h)) (λ k. apart g (inr h) k) ((gives.same_frames held f g).0 k))

-- ---- what a clean up leaves

module _ (L root : ℕ) (M : PathMap) (h : IsTree L root M) (low high : ℕ) where
  none_left : (q : List ℕ) → entry M q ≡ 0 → entry (clean_up L M low high).paths q ≡ 0
  none_left q z = entry-cleaned L M low high q ∙ elim (is_removed L M low high q) as (λ b. cond b 0 (entry M q) ≡ 0) [ true ↦ refl | false ↦ z ]

  alone_left : HasUsedAlone (clean_up L M low high).paths
  unfolding clean_up
  alone_left = used_alone-retained M (is_removed L M low high) h.used_alone

  below_left : (q : List ℕ) (i : ℕ) → table_at L root (clean_up L M low high).paths q ≡ None → entry (clean_up L M low high).paths (q ++ i ∷ []) ≡ 0
  below_left [] i t = absurd (some_not_none root t)
  below_left (j ∷ q) i t = elim (is_removed L M low high (j ∷ q)) as (λ b. is_removed L M low high (j ∷ q) ≡ b → entry (clean_up L M low high).paths (j ∷ q ++ i ∷ []) ≡ 0) [
    | true ↦ λ r. let is = removed_gives L M low high (j ∷ q) r in empty_if_removed L root M h low high j q is.itself is.above r i
    | false ↦ λ r. none_left (j ∷ q ++ i ∷ []) (h.below (j ∷ q) i (ap (table_of L (j ∷ q)) (sym (stays L root M h low high (j ∷ q) r)) ∙ t))
  ] refl

  pub clean_tree : IsTree L root (clean_up L M low high).paths
  clean_tree = record {
    nothing_above = none_left [] h.nothing_above;
    used_alone = alone_left;
    below = below_left;
    small = λ q i l. none_left (q ++ i ∷ []) (h.small q i l);
  }

pub clean_hierarchy : (L root : ℕ) (M : PathMap) → IsHierarchy L root M → (low high : ℕ) → IsHierarchy L root (clean_up L M low high).paths
clean_hierarchy L root M h low high = record {
  tree = clean_tree L root M h.tree low high;
  not_zero = λ i p t. h.not_zero i p (clean_table L root M h.tree low high i p 0 t).1;
  none_huge = λ q up. ap huge (entry-cleaned L M low high q) ∙ elim (is_removed L M low high q) as (λ b. huge (cond b 0 (entry M q)) ≡ false) [ true ↦ zero_not_huge | false ↦ h.none_huge q up ];
}

-- the set of free and table frames stays the same and each has one use, in whatever order a pool takes frames back
module _ (take_back : List ℕ → ℕ → List ℕ) (gives : TakesBack take_back) (L root : ℕ) (M : PathMap) (h : IsTree L root M) (low high : ℕ) (pool : List ℕ) where
  still_no_table : (q : List ℕ) (f : ℕ) → table_at L root (clean_up L M low high).paths q ≡ Some f → (p : List ℕ) → q ≡ p → is_removed L M low high p ≡ true → ⊥
  still_no_table [] f t p e r = root_stays L root M h low high (ap (is_removed L M low high) e ∙ r)
  still_no_table (i ∷ q) f t p e r = let x = (clean_table L root M h low high i q f t).0 in let y : true ≡ false = sym r ∙ ap (is_removed L M low high) (sym e) ∙ x in cc

  pub clean_conserves : Conserves L root M pool (clean_up L M low high).paths (with_returned take_back pool (clean_up L M low high).back)
  unfolding clean_up
  clean_conserves = record {
    same_set = λ f. let s = clean_same_set L root M h low high pool f in let g = given_frames take_back gives pool back f in (
      λ o. ⊎_elim (λ i. inl (g.1 i)) (λ t. inr t) (s.0 o),
      ⊎_elim (λ i. s.1 (inl (g.0 i))) (λ t. s.1 (inr t)),
    );
    one_each = λ o. record {
      own_frames = λ p q f a b. o.own_frames p q f (clean_before L root M h low high p f a) (clean_before L root M h low high q f b);
      each_once = given_once take_back gives pool back o.each_once
          (once_map (λ q. address (entry M q)) went (once_filter (is_removed L M low high) (paths_below (L - 1) []) (once_paths (L - 1) []))
          (λ p q a b e. o.own_frames p q (address (entry M q)) (removed_leads L root M h low high p (was_removed p a) ∙ ap Some e) (removed_leads L root M h low high q (was_removed q b))))
          (λ f a b. let more = from_map (λ q. address (entry M q)) went f a in o.no_table f b (more.0, removed_leads L root M h low high more.0 (was_removed more.0 more.1) ∙ ap Some more.2));
      no_table = λ f i t. ⊎_elim
          (λ a. let more = from_map (λ q. address (entry M q)) went f a in
          still_no_table t.0 f t.1 more.0 (o.own_frames t.0 more.0 f (clean_before L root M h low high t.0 f t.1) (removed_leads L root M h low high more.0 (was_removed more.0 more.1) ∙ ap Some more.2)) (was_removed more.0 more.1))
          (λ b. o.no_table f b (t.0, clean_before L root M h low high t.0 f t.1))
          (in_append back pool f ((given_frames take_back gives pool back f).0 i));
    };
  }
    where
      went : List (List ℕ)
      went = filter (is_removed L M low high) (paths_below (L - 1) [])

      back : List ℕ
      back = map (λ q. address (entry M q)) went

      was_removed : (q : List ℕ) → In went q → is_removed L M low high q ≡ true
      was_removed q a = passes (is_removed L M low high) (paths_below (L - 1) []) q a
