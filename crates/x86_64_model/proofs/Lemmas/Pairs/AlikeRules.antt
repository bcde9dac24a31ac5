-- The calls on one entry and clean ups on path maps that are alike.
use Rattle.std.proofs.Common.{◌≡◌, ◌⊎◌, inl, inr, ⊎_elim, ◌<◌, ◌-◌, ◌%◌, ℕ, ◌==◌, ◌&&◌, Bool, true, false, not, cond, List, [], ◌∷◌, length, find, filter, map, Some, None, Option, option_map, nat_lt, nat_le, bit_or, refl, sym, ap, ◌∙◌, subst, subst₂}
use Rattle.std.proofs.lemmas.Bool.Decides.{same_from_decides}
use Rattle.std.specs.List.{AllByRecursion, list_all}
use Rattle.x86_64_model.specs.Entry.{used, present, huge, address}
use Rattle.x86_64_model.specs.PathMap.{PathMap, entry, put}
use Rattle.x86_64_model.specs.Path.{level_of, front_at, parents, paths_below, span_size}
use Rattle.x86_64_model.specs.Refusal.{Refusal, ParentEntryHugePage, PageNotMapped, InvalidFrameAddress, Done, Refused, refused_if, answer_unless, first_stop}
use Rattle.x86_64_model.specs.MapRule.{leaf_entry}
use Rattle.x86_64_model.specs.PageRules.{AfterChange, refused_or, unmap, update_flags, translate_page, set_flags}
use Rattle.x86_64_model.specs.CleanUp.{in_range, meets, is_removed, clean_up}
use Rattle.x86_64_model.specs.Alike.{AlikeTables, Alike}
use Rattle.x86_64_model.proofs.Lemmas.Hierarchies.Trees.{IsTree}
use Rattle.x86_64_model.proofs.Lemmas.CleanUps.Removed.{Removed, removed_gives, removed_from}
use Rattle.x86_64_model.proofs.Lemmas.CleanUps.Keys.{entry-cleaned}
pub use Rattle.x86_64_model.specs.Laws.Pairs.{IsAdded, NoneNames, AlikeRuns}
use Rattle.x86_64_model.proofs.Lemmas.Pairs.AlikeEntries.{LikeAt, like, alike_put}

-- ---- refusals

-- what both read at a path
pub record ReadAlike (E F : List ℕ → ℕ) (q : List ℕ) : Type 0 where
  pub at : LikeAt (E q) (F q)
  pub above : AllByRecursion (λ p. LikeAt (E p) (F p)) (parents q)

pub stop_among : (E F : List ℕ → ℕ) (ps : List (List ℕ)) → AllByRecursion (λ p. LikeAt (E p) (F p)) ps
    → option_map (λ p. cond (present (F p)) ParentEntryHugePage PageNotMapped) (find (λ p. not (present (F p) && not (huge (F p)))) ps)
    ≡ option_map (λ p. cond (present (E p)) ParentEntryHugePage PageNotMapped) (find (λ p. not (present (E p) && not (huge (E p)))) ps)
stop_among E F [] a = refl
stop_among E F (p ∷ ps) a = by _ _ _ _ (λ i. not (a.0.same_present i && not (a.0.same_huge i))) (λ i. cond (a.0.same_present i) ParentEntryHugePage PageNotMapped) (stop_among E F ps a.1)
  where
    by : (b c : Bool) (x y : Option (List ℕ)) → c ≡ b → cond (present (F p)) ParentEntryHugePage PageNotMapped ≡ cond (present (E p)) ParentEntryHugePage PageNotMapped
        → option_map (λ p. cond (present (F p)) ParentEntryHugePage PageNotMapped) x ≡ option_map (λ p. cond (present (E p)) ParentEntryHugePage PageNotMapped) y
        → option_map (λ p. cond (present (F p)) ParentEntryHugePage PageNotMapped) (cond c (Some p) x) ≡ option_map (λ p. cond (present (E p)) ParentEntryHugePage PageNotMapped) (cond b (Some p) y)
    by true c x y cb h g = ap (λ c. option_map (λ p. cond (present (F p)) ParentEntryHugePage PageNotMapped) (cond c (Some p) x)) cb ∙ ap Some h
    by false c x y cb h g = ap (λ c. option_map (λ p. cond (present (F p)) ParentEntryHugePage PageNotMapped) (cond c (Some p) x)) cb ∙ g

pub same_stop : (E F : List ℕ → ℕ) (q : List ℕ) → AllByRecursion (λ p. LikeAt (E p) (F p)) (parents q) → first_stop F q ≡ first_stop E q
unfolding first_stop
same_stop E F q a = stop_among E F (parents q) a

pub record AlikeChanged (L : ℕ) (c d : AfterChange) : Type 0 where
  pub paths : Alike L c.paths d.paths
  pub answer : c.answer ≡ d.answer

pub both_refused : (L : ℕ) (M N : PathMap) → Alike L M N → (o p : Option Refusal) (c d : AfterChange) → p ≡ o → (o ≡ None → AlikeChanged L c d) → AlikeChanged L (refused_or M o c) (refused_or N p d)
both_refused L M N alike o p c d same h = subst (λ p. AlikeChanged L (refused_or M o c) (refused_or N p d)) (sym same) (by o h)
  where
    by : (o : Option Refusal) → (o ≡ None → AlikeChanged L c d) → AlikeChanged L (refused_or M o c) (refused_or N o d)
    by None h = h refl
    by (Some why) h = record { paths = alike; answer = refl }

module _ (L : ℕ) (E F : List ℕ → ℕ) (M N : PathMap) (alike : Alike L M N) (q : List ℕ) (r : ReadAlike E F q) where
  pub unmap_alike : AlikeChanged L (unmap L E M q) (unmap L F N q)
  unfolding unmap
  unmap_alike = both_refused L M N alike _ _ _ _ (same_stop E F q r.above) (λ s. both_refused L M N alike _ _ _ _
      (λ i. refused_if (not (r.at.same_present i)) PageNotMapped
      (cond (length q == L)
      (refused_if (r.at.same_huge i) ParentEntryHugePage None)
      (refused_if (not (r.at.same_huge i)) ParentEntryHugePage (refused_if (not (r.at.same_address i % span_size L q == 0)) (InvalidFrameAddress (r.at.same_address i)) None))))
      (λ t. record { paths = alike_put L M N alike q 0 0 (inl refl); answer = ap Done (sym r.at.same_address) }))

  pub update_alike : (given : ℕ) → AlikeChanged L (update_flags L E M q given) (update_flags L F N q given)
  unfolding update_flags
  update_alike given = both_refused L M N alike _ _ _ _ (same_stop E F q r.above) (λ s. both_refused L M N alike _ _ _ _
      (λ i. refused_if (not (r.at.same_used i)) PageNotMapped (cond (length q == L) None (refused_if (not (r.at.same_huge i)) PageNotMapped None)))
      (λ t. record { paths = alike_put L M N alike q _ _ (inl (ap (λ a. leaf_entry L q a given) (sym r.at.same_address))); answer = ap Done (sym r.at.same_address) }))

  pub page_alike : translate_page L F q ≡ translate_page L E q
  unfolding translate_page
  page_alike = λ i. answer_unless (same_stop E F q r.above i) (answer_unless (refused_if (not (r.at.same_used i)) PageNotMapped
      (cond (length q == L) None (refused_if (not (r.at.same_huge i)) (InvalidFrameAddress (r.at.same_address i)) (refused_if (not (r.at.same_address i % span_size L q == 0)) (InvalidFrameAddress (r.at.same_address i)) None))))
      (Done (r.at.same_address i)))

pub set_alike : (L : ℕ) (E F : List ℕ → ℕ) (M N : PathMap) → Alike L M N → (level : ℕ) (page : List ℕ) (given : ℕ) → ReadAlike E F (front_at L level page) → AlikeChanged L (set_flags L E M level page given) (set_flags L F N level page given)
unfolding set_flags
set_alike L E F M N alike level page given r = let q = front_at L level page in elim (nat_le level (level_of L page)) as (λ b. AlikeChanged L
    (cond b (record { paths = M; answer = Refused ParentEntryHugePage }) (refused_or M (first_stop E q) (refused_or M (refused_if (not (used (E q))) PageNotMapped None)
    (record { paths = put M q (bit_or (address (E q)) given); answer = Done (address (E q)) }))))
    (cond b (record { paths = N; answer = Refused ParentEntryHugePage }) (refused_or N (first_stop F q) (refused_or N (refused_if (not (used (F q))) PageNotMapped None)
    (record { paths = put N q (bit_or (address (F q)) given); answer = Done (address (F q)) }))))) [
      | true ↦ record { paths = alike; answer = refl }
      | false ↦ both_refused L M N alike _ _ _ _ (same_stop E F q r.above) (λ s. both_refused L M N alike _ _ _ _ (λ i. refused_if (not (r.at.same_used i)) PageNotMapped None)
          (λ t. record { paths = alike_put L M N alike q _ _ (inl (ap (λ a. bit_or a given) (sym r.at.same_address))); answer = ap Done (sym r.at.same_address) }))
    ]

-- ---- clean up

module _ (L : ℕ) (M N : PathMap) (alike : Alike L M N) (low high : ℕ) where
  pub range_same : (q : List ℕ) → in_range L N low high q ≡ in_range L M low high q
  range_same q = λ i. nat_lt (length q) L && (like L M N alike q).same_present i && not ((like L M N alike q).same_huge i) && meets L low high q

pub removed_alike : (L : ℕ) (M N : PathMap) → Alike L M N → (low high : ℕ) (q : List ℕ) → Removed L M low high q → Removed L N low high q
removed_alike L M N alike low high q r = record {
  itself = range_same L M N alike low high q ∙ r.itself;
  above = (λ i. list_all (λ p. range_same L M N alike low high p i) (parents q)) ∙ r.above;
  below = λ p b u. range_same L M N alike low high p ∙ r.below p b (sym (like L M N alike p).same_used ∙ u);
}

pub other_way : (L : ℕ) (M N : PathMap) → Alike L M N → Alike L N M
other_way L M N alike q = ⊎_elim (λ e. inl (sym e)) (λ t. inr (t.0, record { one_names = t.1.other_names; other_names = t.1.one_names; same_else = sym t.1.same_else })) (alike q)

module _ (L root root' : ℕ) (M N : PathMap) (tree : IsTree L root M) (tree' : IsTree L root' N) (alike : Alike L M N) (low high : ℕ) where
  pub removed_same : (q : List ℕ) → is_removed L N low high q ≡ is_removed L M low high q
  removed_same q = same_from_decides {P = is_removed L M low high q ≡ true} _ _ (
    λ h. removed_from L M tree.used_alone low high q (removed_alike L N M (other_way L M N alike) low high q (removed_gives L N low high q h)),
    λ h. removed_from L N tree'.used_alone low high q (removed_alike L M N alike low high q (removed_gives L M low high q h)),
  ) (λ h. h, λ h. h)

  pub clean_alike : Alike L (clean_up L M low high).paths (clean_up L N low high).paths
  clean_alike q = subst₂ (λ a b. (a ≡ b) ⊎ ((length q < L) × AlikeTables a b)) (sym (entry-cleaned L M low high q)) (sym (entry-cleaned L N low high q ∙ ap (λ b. cond b 0 (entry N q)) (removed_same q)))
      (elim (is_removed L M low high q) as (λ b. (cond b 0 (entry M q) ≡ cond b 0 (entry N q)) ⊎ ((length q < L) × AlikeTables (cond b 0 (entry M q)) (cond b 0 (entry N q)))) [ true ↦ inl refl | false ↦ alike q ])

  pub back_same : (clean_up L N low high).back ≡ (clean_up L M low high).back
  unfolding clean_up
  back_same = λ i. map (λ q. (like L M N alike q).same_address i) (filter (λ q. removed_same q i) (paths_below (L - 1) []))
