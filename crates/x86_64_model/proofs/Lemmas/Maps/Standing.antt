-- Pages that stand: an accepted map creates one, later maps keep it, the walk arrives in it, and no map of its addresses is
-- accepted.
use Rattle.std.proofs.Common.{zero, suc, ◌≡◌, ◌≢◌, ◌⊎◌, inl, inr, ⊎_elim, ◌<◌, ◌≤◌, ℕ, ◌&&◌, true, false, not, List, [], ◌∷◌, length, take, bit_or, refl, sym, ap, ap₂, ◌∙◌, subst, subst₂, arith, ne_eqb, cond}
use Rattle.std.proofs.lemmas.Bool.{and_parts, cases_lt}
use Rattle.std.specs.List.{AllByRecursion}
use Rattle.x86_64_model.specs.Entry.{IsParentFlags, has, used, huge, address}
use Rattle.x86_64_model.specs.Laws.Standing.{AcceptedMapsStand, MapsLeaveStanding, StandingPagesArrive, StandingPagesRefuse}
use Rattle.x86_64_model.specs.Lists.{In}
use Rattle.x86_64_model.specs.MapRule.{AfterMap, leaf_entry, map_rule, map_call, parent_part}
use Rattle.x86_64_model.specs.Path.{parents, is_small}
use Rattle.x86_64_model.specs.PathMap.{PathMap, entry, put}
use Rattle.x86_64_model.specs.Position.{page_path}
use Rattle.x86_64_model.specs.Refusal.{Done, Refused, ParentEntryHugePage}
use Rattle.x86_64_model.specs.Standing.{IsParent, IsMappedIn}
use Rattle.x86_64_model.proofs.Lemmas.Entries.Bits.{has_or, unused_zero, used_present}
use Rattle.x86_64_model.proofs.Lemmas.Hierarchies.Changes.{zero_not_huge}
use Rattle.x86_64_model.proofs.Lemmas.Hierarchies.Trees.{tree_of_holds}
use Rattle.x86_64_model.proofs.Lemmas.Machines.Spares.{length_path}
use Rattle.x86_64_model.proofs.Lemmas.Lists.All.{all_both, all_mapped, at_member}
use Rattle.x86_64_model.proofs.Lemmas.Lists.Members.{in_map}
use Rattle.x86_64_model.proofs.Lemmas.Maps.Accepted.{map_ind, map_makes, added_there}
use Rattle.x86_64_model.proofs.Lemmas.Maps.Arrives.{asks_map_to, part_is_flags, parents_lead}
use Rattle.x86_64_model.proofs.Lemmas.Maps.Down.{Descends, others}
use Rattle.x86_64_model.proofs.Lemmas.Maps.Flags.{has_kept}
use Rattle.x86_64_model.proofs.Lemmas.Maps.Frames.{used_or, used_not_zero}
use Rattle.x86_64_model.proofs.Lemmas.Maps.Leaves.{leaf_is}
use Rattle.x86_64_model.proofs.Lemmas.Maps.Rights.{map_grows}
use Rattle.x86_64_model.proofs.Lemmas.Maps.Trees.{page_descends, parents_short}
use Rattle.x86_64_model.proofs.Lemmas.Paths.Puts.{entry-put_other}

-- ---- an accepted map

pub accepted_stands : AcceptedMapsStand
accepted_stands L level T root M supply added q frame given holds adds frames asks accepted =
    let made = map_makes (parent_part given) added q (leaf_entry L q frame given) frame (part_is_flags given) adds M supply (parents q)
    (page_descends L root M (tree_of_holds L T root M holds) q) frames accepted in
    record { asks = asks; own_entry = made.0; below = made.1 }

-- ---- the walk

no_flags : IsParentFlags 0
unfolding address
no_flags = record { no_address = refl; not_huge = refl }

pub standing_arrives : StandingPagesArrive
standing_arrives L level window T root M q frame given valid outside stands =
    parents_lead L level window T root M (parent_part given) 0 q frame given (asks_map_to L level 0 q frame given no_flags stands.asks) outside valid stands.own_entry stands.below

-- the entry of a page that stands is used, and huge above level one
module _ (L level : ℕ) (M : PathMap) (page : List ℕ) (f flags : ℕ) (stands : IsMappedIn L level M page f flags) where
  own_used : used (entry M page) ≡ true
  own_used = ap used stands.own_entry ∙ used_present _ (leaf_is L level (parent_part flags) 0 page f flags (asks_map_to L level 0 page f flags no_flags stands.asks) (is_small L page) refl).is_present

  own_huge : is_small L page ≡ false → huge (entry M page) ≡ true
  unfolding has
  own_huge large = ap huge stands.own_entry ∙ ap (λ b. huge (bit_or f (cond b flags (bit_or flags 0x80)))) large ∙ added_there f (bit_or flags 0x80) 0x80 (added_there flags 0x80 0x80 refl)

-- ---- later maps

parent_kept : (given more : ℕ) → IsParentFlags more → (e x : ℕ) → IsParent given e → (x ≡ e) ⊎ (x ≡ bit_or e more) → IsParent given x
parent_kept given more marks e x parent (inl is) = subst (IsParent given) (sym is) parent
parent_kept given more marks e x parent (inr is) =
    let parts = and_parts (used e) (not (huge e)) parent.is_table in
    subst (IsParent given) (sym is) (record {
      is_table = ap₂ (λ u h. u && not h) (used_or e more (used_not_zero e parts.0) ∙ sym parts.0) (has_or e more 0x80 marks.not_huge) ∙ parent.is_table;
      has_flags = λ flag h. has_kept e more flag (parent.has_flags flag h);
    })

module _ (more added : ℕ) (q : List ℕ) (e frame : ℕ) (r : List ℕ) where
  -- what lets the entry at r be: no parent is r, or it is huge and the map isn't refused by a huge parent
  abbrev Spared : PathMap → List (List ℕ) → AfterMap → Type 0
  Spared M ps m = AllByRecursion (λ p. r ≢ p) ps ⊎ ((huge (entry M r) ≡ true) × (m.answer ≢ Refused ParentEntryHugePage))

  apart : (M : PathMap) (p : List ℕ) (ps : List (List ℕ)) (m : AfterMap) → huge (entry M p) ≡ false → Spared M (p ∷ ps) m → r ≢ p
  apart M p ps m plain (inl a) = a.0
  apart M p ps m plain (inr x) = λ is. let t : true ≡ false = sym x.0 ∙ ap (λ r. huge (entry M r)) is ∙ plain in cc

  on : (M N : PathMap) (p : List ℕ) (ps : List (List ℕ)) (m : AfterMap) → entry N r ≡ entry M r → Spared M (p ∷ ps) m → Spared N ps m
  on M N p ps m same (inl a) = inl a.1
  on M N p ps m same (inr x) = inr (ap huge same ∙ x.0, x.1)

  abbrev Left : PathMap → List ℕ → List (List ℕ) → AfterMap → Type 0
  Left M s ps m = used (entry M r) ≡ true → Spared M ps m → entry m.paths r ≡ entry M r

  goes_on : (M : PathMap) (s p : List ℕ) (ps : List (List ℕ)) (x : ℕ) (m : AfterMap) → huge (entry M p) ≡ false → Left (put M p x) s ps m → Left M s (p ∷ ps) m
  goes_on M s p ps x m plain ih u spared =
      let same : entry (put M p x) r ≡ entry M r = entry-put_other M p x r (apart M p ps m plain spared) in
      ih (ap used same ∙ u) (on M (put M p x) p ps m same spared) ∙ same

  is_left : (M : PathMap) (supply : List ℕ) (ps : List (List ℕ)) → Descends M ps q → Left M supply ps (map_rule M supply more added ps q e frame)
  is_left = map_ind more added q e frame Left
      (λ M s u v spared. refl)
      (λ M s u v spared. entry-put_other M q e r (λ is. let t : true ≡ false = sym v ∙ ap (λ r. used (entry M r)) is ∙ u in cc))
      (λ M s p ps u h v spared. ⊎_elim (λ a. entry-put_other M p _ r a.0) (λ x. absurd (x.1 refl)) spared)
      (λ M s p ps d u h m ih. goes_on M s p ps _ m h ih)
      (λ M p ps u v spared. refl)
      (λ M f fs p ps d u m ih. goes_on M fs p ps _ m (ap huge (unused_zero (entry M p) u) ∙ zero_not_huge) ih)

pub standing_is_left : MapsLeaveStanding
standing_is_left L level T root M supply more added q frame given holds marks short page f flags stands spared =
    let tree = tree_of_holds L T root M holds in
    let descends = page_descends L root M tree q in
    let e = leaf_entry L q frame given in
    record {
      asks = stands.asks;
      own_entry = is_left more added q e frame page M supply (parents q) descends (own_used L level M page f flags stands)
          (elim (cases_lt (length page) (length q)) as (λ _. Spared more added q e frame page M (parents q) (map_rule M supply more added (parents q) q e frame)) [
            | inl lower ↦ inr (own_huge L level M page f flags stands (ne_eqb (length page) L (λ is. omega (arith, is, lower, short))), not_refused lower spared)
            | inr not_lower ↦ inl (all_mapped (λ p. (0 < length p) × (length p < length q)) (λ p. page ≢ p) (λ p l is. let same : length page ≡ length p = ap length is in let below = l.1 in absurd (omega (arith, same, below, not_lower))) (parents q) (parents_short q))
          ])
          ∙ stands.own_entry;
      below = all_mapped (λ p. IsParent (parent_part flags) (entry M p)) (λ p. IsParent (parent_part flags) (entry (map_call L M supply more added q frame given).paths p)) (λ p parent. parent_kept (parent_part flags) more marks _ _ parent
          (map_grows more added q e frame M supply (parents q) descends p (and_parts _ _ parent.is_table).0)) (parents page) stands.below;
    }
  where
    not_refused : length page < length q → (length q ≤ length page) ⊎ ((map_call L M supply more added q frame given).answer ≢ Refused ParentEntryHugePage)
        → (map_call L M supply more added q frame given).answer ≢ Refused ParentEntryHugePage
    not_refused lower (inl low) = absurd (omega (arith, low, lower))
    not_refused lower (inr not) = not

-- ---- no second map

-- two lengths of fronts of a path: the shorter is a parent of the longer
front_is_parent : (t : List ℕ) (k n : ℕ) → 1 ≤ k → k < n → n ≤ length t → In (parents (take n t)) (take k t)
front_is_parent t zero n low less fits = absurd (omega (arith, low))
front_is_parent t (suc k) zero low less fits = absurd (omega (arith, less))
front_is_parent t (suc k) (suc zero) low less fits = absurd (omega (arith, less))
front_is_parent [] (suc k) (suc (suc n)) low less fits = absurd (omega (arith, fits))
front_is_parent (i ∷ []) (suc k) (suc (suc n)) low less fits = absurd (omega (arith, fits))
front_is_parent (i ∷ j ∷ t) (suc zero) (suc (suc n)) low less fits = inl refl
front_is_parent (i ∷ j ∷ t) (suc (suc k)) (suc (suc n)) low less fits =
    inr (in_map (λ p. i ∷ p) _ _ (front_is_parent (j ∷ t) (suc k) (suc n) (omega arith) (omega (arith, less)) (omega (arith, fits))))

module _ (more added : ℕ) (q : List ℕ) (e frame : ℕ) where
  -- an accepted map finds its page unused, and no page above it
  abbrev Fresh : PathMap → List ℕ → List (List ℕ) → AfterMap → Type 0
  Fresh M s ps m = m.answer ≡ Done frame → (used (entry M q) ≡ false) × AllByRecursion (λ p. (used (entry M p) && huge (entry M p)) ≡ false) ps

  fresh_on : (M : PathMap) (s t p : List ℕ) (ps : List (List ℕ)) (x : ℕ) (m : AfterMap) → Descends M (p ∷ ps) q → (used (entry M p) && huge (entry M p)) ≡ false → Fresh (put M p x) t ps m → Fresh M s (p ∷ ps) m
  fresh_on M s t p ps x m d plain ih accepted =
      let rest = ih accepted in (
        ap used (sym (entry-put_other M p x q d.2)) ∙ rest.0,
        (plain, all_both _ _ _ (λ r (h : (used (entry (put M p x) r) && huge (entry (put M p x) r)) ≡ false) (same : entry (put M p x) r ≡ entry M r). ap (λ e. used e && huge e) (sym same) ∙ h) ps rest.1 (others more added q e frame M p x ps d.1)),
      )

  accepted_fresh : (M : PathMap) (supply : List ℕ) (ps : List (List ℕ)) → Descends M ps q → Fresh M supply ps (map_rule M supply more added ps q e frame)
  accepted_fresh = map_ind more added q e frame Fresh
      (λ M s u a. cc)
      (λ M s u a. (u, tt))
      (λ M s p ps u h a. cc)
      (λ M s p ps d u h m ih. fresh_on M s s p ps _ m d (ap₂ (λ u h. u && h) u h) ih)
      (λ M p ps u a. cc)
      (λ M f fs p ps d u m ih. fresh_on M (f ∷ fs) fs p ps _ m d (ap (λ u. u && huge (entry M p)) u) ih)

pub standing_refuses : StandingPagesRefuse
standing_refuses L level T root M supply more added q frame given holds nonempty short page f flags stands p front_page front_q accepted =
    let fresh = accepted_fresh more added q (leaf_entry L q frame given) frame M supply (parents q) (page_descends L root M (tree_of_holds L T root M holds) q) accepted in
    let own = own_used L level M page f flags stands in
    let path = page_path L p in let whole : length path ≡ L = length_path L p in
    elim (cases_lt (length page) (length q)) [
      | inl lower ↦
          let inside : In (parents q) page = subst₂ (λ q r. In (parents q) r) front_q front_page (front_is_parent path (length page) (length q) stands.asks.nonempty lower (omega (arith, whole, short))) in
          let large = own_huge L level M page f flags stands (ne_eqb (length page) L (λ is. omega (arith, is, lower, short))) in
          let t : true ≡ false = sym (ap₂ (λ u h. u && h) own large) ∙ at_member _ (parents q) fresh.1 page inside in cc
      | inr not_lower ↦ elim (cases_lt (length q) (length page)) [
        | inl higher ↦
            let fits : length page ≤ L = let l = stands.asks.at_level in let low = stands.asks.low in omega (arith, l, low) in
            let inside : In (parents page) q = subst₂ (λ q r. In (parents q) r) front_page front_q (front_is_parent path (length q) (length page) nonempty higher (omega (arith, whole, fits))) in
            let parent : IsParent (parent_part flags) (entry M q) = at_member _ (parents page) stands.below q inside in
            let t : true ≡ false = sym (and_parts _ _ parent.is_table).0 ∙ fresh.0 in cc
        | inr not_higher ↦
            let same : length page ≡ length q = omega (arith, not_lower, not_higher) in
            let one : page ≡ q = sym front_page ∙ ap (λ n. take n path) same ∙ front_q in
            let t : true ≡ false = sym own ∙ ap (λ r. used (entry M r)) one ∙ fresh.0 in cc
      ]
    ]
