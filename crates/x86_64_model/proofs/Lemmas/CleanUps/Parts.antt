-- What is left once a part of what a clean up removes is gone.
use Rattle.std.proofs.Common.{◌≡◌, ◌≢◌, ⊎_elim, ℕ, ◌&&◌, Bool, true, false, not, cond, List, [], ◌∷◌, ◌++◌, filter, map, None, length, nat_lt, refl, sym, ap, ap₂, ◌∙◌}
use Rattle.std.proofs.lemmas.Bool.{false_from_ne_true, cases_Bool}
use Rattle.std.proofs.lemmas.List.{map-append}
use Rattle.std.proofs.lemmas.List.Elements.{filter-append}
use Rattle.std.specs.List.{list_all, AllByRecursion}
use Rattle.std.specs.FinMap.{retain_keys}
use Rattle.x86_64_model.specs.Entry.{used, present, huge, address}
use Rattle.x86_64_model.specs.PathMap.{PathMap, entry, HasUsedAlone, table_of, table_at}
use Rattle.x86_64_model.specs.Path.{parents, begins}
use Rattle.x86_64_model.specs.CleanUp.{in_range, meets, is_removed, clean_up}
use Rattle.x86_64_model.proofs.Lemmas.Hierarchies.Trees.{IsTree, some_not_none}
use Rattle.x86_64_model.proofs.Lemmas.Paths.Puts.{same_paths}
use Rattle.x86_64_model.proofs.Lemmas.Lists.All.{every_in, all_same, all_in}
use Rattle.x86_64_model.proofs.Lemmas.CleanUps.Keys.{entry-retained, entry-cleaned, used_alone-retained}
use Rattle.x86_64_model.proofs.Lemmas.CleanUps.Removed.{Removed, removed_gives, removed_from}
use Rattle.x86_64_model.proofs.Lemmas.CleanUps.Trees.{clean_tree}
use Rattle.x86_64_model.proofs.Lemmas.CleanUps.Below.{cleaned, back_of}
use Rattle.x86_64_model.proofs.Lemmas.Paths.Begins.{begins_itself, same_or_below, below_begins, parent_begins, below_parent}

-- ---- the entries

module _ (L : ℕ) (M : PathMap) (low high : ℕ) (part : List ℕ → Bool) where
  pub entry-part : (p : List ℕ) → entry (cleaned L M low high part) p ≡ cond (part p && is_removed L M low high p) 0 (entry M p)
  unfolding cleaned
  entry-part p = entry-retained M (λ p. part p && is_removed L M low high p) p

  -- in the part they are as after the whole clean up, outside it as before
  pub inside_part : (p : List ℕ) → part p ≡ true → entry (cleaned L M low high part) p ≡ entry (clean_up L M low high).paths p
  inside_part p h = entry-part p ∙ ap (λ b. cond (b && is_removed L M low high p) 0 (entry M p)) h ∙ sym (entry-cleaned L M low high p)

  pub outside_part : (p : List ℕ) → part p ≡ false → entry (cleaned L M low high part) p ≡ entry M p
  outside_part p h = entry-part p ∙ ap (λ b. cond (b && is_removed L M low high p) 0 (entry M p)) h

  pub used_alone-part : HasUsedAlone M → HasUsedAlone (cleaned L M low high part)
  unfolding cleaned
  used_alone-part alone = used_alone-retained M (λ p. part p && is_removed L M low high p) alone

  -- parts with equal removed paths leave equal path maps
  pub same_part : (other : List ℕ → Bool) → ((p : List ℕ) → (part p && is_removed L M low high p) ≡ (other p && is_removed L M low high p))
      → cleaned L M low high part ≡ cleaned L M low high other
  unfolding cleaned
  same_part other same = λ n. retain_keys M (λ p. not (same p n))

  -- and one with none leaves all
  pub empty_part : HasUsedAlone M → ((p : List ℕ) → (part p && is_removed L M low high p) ≡ false) → cleaned L M low high part ≡ M
  empty_part alone none = same_paths _ M (used_alone-part alone) alone (λ p. entry-part p ∙ ap (λ b. cond b 0 (entry M p)) (none p))

-- a part that goes on below its paths leaves a tree
module _ (L root : ℕ) (M : PathMap) (tree : IsTree L root M) (low high : ℕ) (part : List ℕ → Bool) (goes_on : (p : List ℕ) (i : ℕ) → part p ≡ true → part (p ++ i ∷ []) ≡ true) where
  none_left : (p : List ℕ) → entry M p ≡ 0 → entry (cleaned L M low high part) p ≡ 0
  none_left p z = entry-part L M low high part p ∙ elim (part p && is_removed L M low high p) as (λ b. cond b 0 (entry M p) ≡ 0) [ true ↦ refl | false ↦ z ]

  below_left : (q : List ℕ) (i : ℕ) → table_at L root (cleaned L M low high part) q ≡ None → entry (cleaned L M low high part) (q ++ i ∷ []) ≡ 0
  below_left [] i t = absurd (some_not_none root t)
  below_left (j ∷ q) i t = ⊎_elim
      (λ h. inside_part L M low high part (j ∷ q ++ i ∷ []) (goes_on (j ∷ q) i h)
      ∙ (clean_tree L root M tree low high).below (j ∷ q) i (ap (table_of L (j ∷ q)) (sym (inside_part L M low high part (j ∷ q) h)) ∙ t))
      (λ h. none_left (j ∷ q ++ i ∷ []) (tree.below (j ∷ q) i (ap (table_of L (j ∷ q)) (sym (outside_part L M low high part (j ∷ q) h)) ∙ t)))
      (cases_Bool (part (j ∷ q)))

  pub part_tree : IsTree L root (cleaned L M low high part)
  part_tree = record {
    nothing_above = none_left [] tree.nothing_above;
    used_alone = used_alone-part L M low high part tree.used_alone;
    below = below_left;
    small = λ q i l. none_left (q ++ i ∷ []) (tree.small q i l);
  }

-- ---- what is removed hangs on the entries at the path, at its parents and below

pub same_range : (L : ℕ) (M N : PathMap) (low high : ℕ) (p : List ℕ) → entry M p ≡ entry N p → in_range L M low high p ≡ in_range L N low high p
same_range L M N low high p e = ap (λ e. nat_lt (length p) L && present e && not (huge e) && meets L low high p) e

module _ (L : ℕ) (M N : PathMap) (low high : ℕ) (p : List ℕ) (up : (s : List ℕ) → begins s p ≡ true → entry M s ≡ entry N s) where
  pub same_parents : list_all (in_range L M low high) (parents p) ≡ list_all (in_range L N low high) (parents p)
  same_parents = all_same _ _ (parents p) (every_in _ (parents p) (λ s h. same_range L M N low high s (up s (parent_begins p s h))))

  still_removed : ((s : List ℕ) → begins p s ≡ true → entry M s ≡ entry N s) → Removed L N low high p → Removed L M low high p
  still_removed down r = record {
    itself = same_range L M N low high p (up p (begins_itself p)) ∙ r.itself;
    above = same_parents ∙ r.above;
    below = λ s b u. let e = down s (below_begins p s b) in same_range L M N low high s e ∙ r.below s b (ap used (sym e) ∙ u);
  }

pub same_bool : (a b : Bool) → (a ≡ true → b ≡ true) → (b ≡ true → a ≡ true) → a ≡ b
same_bool true b f g = sym (f refl)
same_bool false b f g = sym (false_from_ne_true b (λ h. let t : false ≡ true = g h in cc))

pub same_removed : (L : ℕ) (M N : PathMap) (low high : ℕ) (p : List ℕ) → HasUsedAlone M → HasUsedAlone N
    → ((s : List ℕ) → begins s p ≡ true → entry M s ≡ entry N s) → ((s : List ℕ) → begins p s ≡ true → entry M s ≡ entry N s) → is_removed L M low high p ≡ is_removed L N low high p
same_removed L M N low high p m n up down = same_bool _ _
    (λ h. removed_from L N n low high p (still_removed L N M low high p (λ s b. sym (up s b)) (λ s b. sym (down s b)) (removed_gives L M low high p h)))
    (λ h. removed_from L M m low high p (still_removed L M N low high p up down (removed_gives L N low high p h)))

-- every front of a removed path is in range
pub front_in_range : (L : ℕ) (M : PathMap) (low high : ℕ) (s p : List ℕ) → is_removed L M low high p ≡ true → begins s p ≡ true → s ≢ [] → in_range L M low high s ≡ true
front_in_range L M low high [] p h b n = absurd (n refl)
front_in_range L M low high (a ∷ c) p h b n = let r = removed_gives L M low high p h in ⊎_elim
    (λ e. ap (in_range L M low high) (sym e) ∙ r.itself)
    (λ b. all_in (in_range L M low high) (parents p) (a ∷ c) r.above (below_parent a c p b))
    (same_or_below (a ∷ c) p b)

-- ---- the frames that come back

pub back-append : (L : ℕ) (M : PathMap) (low high : ℕ) (ps qs : List (List ℕ)) → back_of L M low high (ps ++ qs) ≡ back_of L M low high ps ++ back_of L M low high qs
unfolding back_of
back-append L M low high ps qs = ap (map (λ p. address (entry M p))) (filter-append (is_removed L M low high) ps qs)
    ∙ map-append (λ p. address (entry M p)) (filter (is_removed L M low high) ps) (filter (is_removed L M low high) qs)

pub back_none : (L : ℕ) (M : PathMap) (low high : ℕ) (ps : List (List ℕ)) → AllByRecursion (λ p. is_removed L M low high p ≡ false) ps → back_of L M low high ps ≡ []
unfolding back_of
back_none L M low high [] h = refl
back_none L M low high (p ∷ ps) h = ap (λ b. map (λ p. address (entry M p)) (cond b (p ∷ filter (is_removed L M low high) ps) (filter (is_removed L M low high) ps))) h.0 ∙ back_none L M low high ps h.1

pub back_same : (L : ℕ) (M N : PathMap) (low high : ℕ) (ps : List (List ℕ)) → AllByRecursion (λ p. (is_removed L M low high p ≡ is_removed L N low high p) × (entry M p ≡ entry N p)) ps
    → back_of L M low high ps ≡ back_of L N low high ps
unfolding back_of
back_same L M N low high [] h = refl
back_same L M N low high (p ∷ ps) h = ap (λ b. map (λ p. address (entry M p)) (cond b (p ∷ filter (is_removed L M low high) ps) (filter (is_removed L M low high) ps))) h.0.0
    ∙ by (is_removed L N low high p) (back_same L M N low high ps h.1)
  where
    by : (b : Bool) → back_of L M low high ps ≡ back_of L N low high ps → map (λ p. address (entry M p)) (cond b (p ∷ filter (is_removed L M low high) ps) (filter (is_removed L M low high) ps))
        ≡ map (λ p. address (entry N p)) (cond b (p ∷ filter (is_removed L N low high) ps) (filter (is_removed L N low high) ps))
    by true rest = ap₂ (λ e fs. address e ∷ fs) h.0.1 rest
    by false rest = rest
