-- After an accepted map with PRESENT the walk arrives at each address of the page, at the frame, with exactly the rights asked for.
use Rattle.std.proofs.Common.{zero, suc, ◌≡◌, ◌≤◌, ◌+◌, ◌%◌, ℕ, ◌==◌, true, false, cond, List, [], ◌∷◌, length, take, map, Some, None, Option, bit_and, refl, sym, ap, ap₂, ◌∙◌, subst, arith, map-id}
use Rattle.std.proofs.lemmas.Nat.{and_assoc, and_comm}
use Rattle.std.specs.List.{AllByRecursion}
use Rattle.x86_64_model.specs.Entry.{IsParentFlags, has, writable, user, address}
use Rattle.x86_64_model.specs.Memory.{Words}
use Rattle.x86_64_model.specs.PathMap.{PathMap, entry}
use Rattle.x86_64_model.specs.Path.{parents, is_small}
use Rattle.x86_64_model.specs.Window.{Window, entry_at, windowed, IsValidFor, outside_window, begins_with}
use Rattle.x86_64_model.specs.Position.{span, page_path}
use Rattle.x86_64_model.specs.PageWalk.{page_walk}
use Rattle.x86_64_model.specs.MapRule.{AfterMap, leaf_entry, map_call, parent_part}
use Rattle.x86_64_model.specs.Refusal.{Done}
use Rattle.x86_64_model.specs.Arrivals.{Asks as IsAsked}
use Rattle.x86_64_model.specs.Laws.Maps.{MapArrives}
use Rattle.x86_64_model.proofs.Lemmas.Maps.Frames.{IsFrame}
use Rattle.x86_64_model.proofs.Lemmas.Hierarchies.Changes.{each_parent}
use Rattle.x86_64_model.proofs.Lemmas.Hierarchies.Trees.{tree_of_holds}
use Rattle.x86_64_model.proofs.Lemmas.Walks.Agrees.{reads}
use Rattle.x86_64_model.proofs.Lemmas.Walks.Walked.{walked, page_walk_is}
use Rattle.x86_64_model.proofs.Lemmas.Maps.Accepted.{IsParent, map_makes}
use Rattle.x86_64_model.proofs.Lemmas.Maps.Leaves.{arrived, Above, walked_to, Asks, writable_by, user_by, leaf_is}
use Rattle.x86_64_model.proofs.Lemmas.Maps.Trees.{page_descends}
use Rattle.x86_64_model.proofs.Lemmas.Lists.All.{all_both}

-- ---- beside the window the entries are the map's

pub entry_outside : (window : Option Window) (N : PathMap) (i : ℕ) (r : List ℕ) → begins_with window (i ∷ r) ≡ false → entry_at window N (i ∷ r) ≡ entry N (i ∷ r)
unfolding entry_at
entry_outside None N i r h = refl
entry_outside (Some w) N i [] h = ap (λ b. cond b w.self_entry (entry N (i ∷ []))) h
entry_outside (Some w) N i (j ∷ r) h = ap (λ b. cond b (windowed w N (j ∷ r)) (entry N (i ∷ j ∷ r))) h

pub first_alone : (window : Option Window) (i : ℕ) (r s : List ℕ) → begins_with window (i ∷ r) ≡ false → begins_with window (i ∷ s) ≡ false
first_alone None i r s h = refl
first_alone (Some w) i r s h = h

pub parents_outside : (window : Option Window) (N : PathMap) (i : ℕ) (c : List ℕ) → begins_with window (i ∷ c) ≡ false → AllByRecursion (λ r. entry_at window N r ≡ entry N r) (parents (i ∷ c))
parents_outside window N i [] h = tt
parents_outside window N i (j ∷ c) h = (
  entry_outside window N i [] (first_alone window i (j ∷ c) [] h),
  each_parent (λ r. entry_at window N r ≡ entry N r) (i ∷ []) (λ k s. entry_outside window N i (k ∷ s) (first_alone window i (j ∷ c) (k ∷ s) h)) (j ∷ c),
)

-- where parents that have the parent flags lead to the entry of a page, the walk arrives in the page with just the rights that were asked for
module _ (L level : ℕ) (window : Option Window) (U : Words) (root : ℕ) (N : PathMap) (more added : ℕ) (q : List ℕ) (frame given : ℕ) (asks : Asks L level more added q frame given) where
  above : Above (leaf_entry L q frame given) (writable more) (user more)
  above = (λ h. asks.grants_write (sym (writable_by L level more added q frame given asks (is_small L q)) ∙ h), λ h. asks.grants_user (sym (user_by L level more added q frame given asks (is_small L q)) ∙ h))

  pub parents_lead : begins_with window q ≡ false → IsValidFor L window U root N → entry N q ≡ leaf_entry L q frame given → AllByRecursion (λ p. IsParent more (entry N p)) (parents q)
      → (p : ℕ) → take (length q) (page_path L p) ≡ q → page_walk L U root p ≡ Some (record { address = frame + p % span level; write = writable given; user = user given })
  parents_lead outside valid is below p front =
      page_walk_is L U root (entry_at window N) (reads L U root N window valid) p
      ∙ by L q front outside asks.page.nonempty asks.page.at_level is below
      ∙ ap₂ (λ w u. Some (record { address = frame + p % span level; write = w; user = u })) (writable_by L level more added q frame given asks (is_small L q)) (user_by L level more added q frame given asks (is_small L q))
    where
      by : (n : ℕ) (r : List ℕ) → take (length r) (page_path n p) ≡ r → begins_with window r ≡ false → 1 ≤ length r → length r + level ≡ n + 1
          → entry N r ≡ leaf_entry L q frame given → AllByRecursion (λ p. IsParent more (entry N p)) (parents r)
          → walked (entry_at window N) p n [] true true ≡ arrived (frame + p % span level) (leaf_entry L q frame given)
      by n [] f o l s is ps = absurd (omega (arith, l))
      by zero (i ∷ c) f o l s is ps = absurd (omega (arith, s, asks.page.low))
      by (suc n) (i ∷ c) f o l s is ps =
          walked_to more p (leaf_entry L q frame given) frame (entry_at window N) asks.parents_present above (length c) n level [] true true (omega (arith, s)) asks.page.low (λ h. refl, λ h. refl)
          (subst (AllByRecursion (λ r. IsParent more (entry_at window N r))) (sym (map-id _) ∙ ap (λ r. map (λ s. s) (parents r)) (sym f))
          (all_both (λ r. IsParent more (entry N r)) (λ r. entry_at window N r ≡ entry N r) (λ r. IsParent more (entry_at window N r))
          (λ r parent same. subst (IsParent more) (sym same) parent) (parents (i ∷ c)) ps (parents_outside window N i c o)))
          (ap (entry_at window N) f ∙ entry_outside window N i c o ∙ is)
          (leaf_is L level more added q frame given asks (is_small L q) refl)

module _ (L level : ℕ) (window : Option Window) (T U : Words) (root : ℕ) (M : PathMap) (supply : List ℕ) (more added : ℕ) (q : List ℕ) (frame given : ℕ) where
  abbrev pub after : AfterMap
  after = map_call L M supply more added q frame given

  pub map_arrives : Asks L level more added q frame given → begins_with window q ≡ false → AllByRecursion IsFrame supply
      → IsValidFor L window T root M → IsValidFor L window U root after.paths → after.answer ≡ Done frame
      → (p : ℕ) → take (length q) (page_path L p) ≡ q → page_walk L U root p ≡ Some (record { address = frame + p % span level; write = writable given; user = user given })
  map_arrives asks outside frames before valid accepted =
      let made = map_makes more added q (leaf_entry L q frame given) frame asks.parent_flags asks.added_flags M supply (parents q)
      (page_descends L root M (tree_of_holds L (outside_window window root T) root M before.valid.holds) q) frames accepted in
      parents_lead L level window U root after.paths more added q frame given asks outside valid made.0 made.1

-- ---- `map_to`: the parent flags are those of PRESENT, WRITABLE, USER_ACCESSIBLE that are given

pub part_has : (given flag : ℕ) → bit_and 7 flag ≡ flag → has (parent_part given) flag ≡ has given flag
unfolding has
part_has given flag h = ap (λ x. x == flag) (and_assoc flag given 7 ∙ ap (bit_and given) h)

pub part_is_flags : (given : ℕ) → IsParentFlags (parent_part given)
unfolding address
part_is_flags given = record {
  no_address = and_assoc 0x000f_ffff_ffff_f000 given 7 ∙ and_comm given 0;
  not_huge = and_assoc 0x80 given 7 ∙ and_comm given 0;
}

pub asks_map_to : (L level added : ℕ) (q : List ℕ) (frame given : ℕ) → IsParentFlags added → IsAsked L level q frame given → Asks L level (parent_part given) added q frame given
asks_map_to L level added q frame given adds asked = record {
  page = asked;
  parent_flags = part_is_flags given;
  added_flags = adds;
  parents_present = part_has given 1 refl ∙ asked.is_present;
  grants_write = λ h. part_has given 2 refl ∙ h;
  grants_user = λ h. part_has given 4 refl ∙ h;
}

pub map_to_arrives : MapArrives
map_to_arrives L level window T U root M supply added q frame given is =
    map_arrives L level window T U root M supply (parent_part given) added q frame given (asks_map_to L level added q frame given is.adds is.asks) is.outside is.frames is.words.before is.words.after is.answer
