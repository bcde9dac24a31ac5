-- The tables that a clean up comes to are reached, and remain so while those below them are cleaned up.
use Rattle.std.proofs.Common.{zero, suc, ◌≡◌, inr, ◌<◌, ◌≤◌, ℕ, ◌==◌, Bool, true, false, List, [], ◌∷◌, ◌++◌, length, take, get_or, Some, refl, ap, ◌∙◌, arith, eq-eqb}
use Rattle.std.proofs.lemmas.Bool.{and_from, false_from_ne_true}
use Rattle.std.proofs.lemmas.List.{take_all, length-append}
use Rattle.std.specs.List.{list_all}
use Rattle.x86_64_model.proofs.Lemmas.CleanUps.Below.{is_before, cleaned, cleaned_below, cleaned_before, Visits}
use Rattle.x86_64_model.proofs.Lemmas.CleanUps.Befores.{from_before}
use Rattle.x86_64_model.proofs.Lemmas.CleanUps.Parts.{outside_part, same_range}
use Rattle.x86_64_model.proofs.Lemmas.CleanUps.Removed.{in_range_parts}
use Rattle.x86_64_model.proofs.Lemmas.CleanUps.Visits.{next_visits}
use Rattle.x86_64_model.proofs.Lemmas.Hierarchies.Held.{table_at_same}
use Rattle.x86_64_model.proofs.Lemmas.Lists.All.{all_in, all_mapped, all_same}
use Rattle.x86_64_model.proofs.Lemmas.Maps.Trees.{parents_short}
use Rattle.x86_64_model.proofs.Lemmas.Paths.Begins.{below_parent, all_below_more, goes_on_from_below}
use Rattle.x86_64_model.proofs.Lemmas.Walks.Agrees.{named}
use Rattle.x86_64_model.proofs.Lemmas.Walks.Walked.{names, one_more}
use Rattle.x86_64_model.specs.CleanUp.{in_range}
use Rattle.x86_64_model.specs.Entry.{present, address}
use Rattle.x86_64_model.specs.Layout.{Layout}
use Rattle.x86_64_model.specs.Hierarchy.{◌laid_in◌, Valid, paths}
use Rattle.x86_64_model.specs.Memory.{Memory}
use Rattle.x86_64_model.specs.Path.{AllBelow, is_below, parents}
use Rattle.x86_64_model.specs.PathMap.{PathMap, entry, table_at}
use Rattle.x86_64_model.specs.Window.{begins_with}
use Rattle.x86_64_mappers.proofs.Map.OpenWays.{open_end}
use Rattle.x86_64_mappers.specs.private.CleaningUp.{IsVisited}
use Rattle.x86_64_mappers.specs.Reached.{IsReached}

-- ---- the entries on the way

below_at : (q : List ℕ) → AllBelow q → (j : ℕ) → j < length q → get_or q j 0 < 512
below_at [] a j within = absurd (omega (arith, within))
below_at (k ∷ q) a zero within = a.0
below_at (k ∷ q) a (suc j) within = below_at q a.1 j (omega (arith, within))

front_below : (j : ℕ) (q : List ℕ) (z : ℕ) → is_below (take j q) (q ++ z ∷ []) ≡ true
front_below zero [] z = refl
front_below zero (k ∷ q) z = refl
front_below (suc j) [] z = refl
front_below (suc j) (k ∷ q) z = and_from (k == k) _ (eq-eqb k k refl) (front_below j q z)

front_visited : (L : ℕ) (M : PathMap) (low high : ℕ) (q : List ℕ) → Visits L M low high q → (j : ℕ) → j < length q → in_range L M low high (take (suc j) q) ≡ true
front_visited L M low high [] v j within = absurd (omega (arith, within))
front_visited L M low high (k ∷ q) v j within =
    all_in (in_range L M low high) _ (k ∷ take j q) (v 0) (below_parent k (take j q) (k ∷ q ++ 0 ∷ []) (front_below (suc j) (k ∷ q) 0))

none_short : (q p : List ℕ) → length p ≤ length q → is_below q p ≡ false
none_short q p short = false_from_ne_true _ (λ b.
    let more = goes_on_from_below q p b in let long = ap length more.2 in absurd (omega (arith, short, long, length-append q (more.0 ∷ more.1))))

-- ---- the root, and the next table

module _ (l : Layout) (m : Memory) (low high : ℕ) (q : List ℕ) (f : ℕ) (v : IsVisited l m low high q f) where
  abbrev M : PathMap
  M = paths (l laid_in m)

  pub visited_reached : Valid (l laid_in m) → IsReached l m q f
  visited_reached valid = open_end l m valid 0 q v.outside (length q) (omega arith) (omega arith) f (record {
    leads = ap (table_at l.levels l.root M) (take_all (length q) q (omega arith)) ∙ v.leads;
    small = below_at q v.below;
    are_present = on;
    to_come = inr (λ j within plain. on j within);
  })
    where
      on : (j : ℕ) → j < length q → present (entry M (take (suc j) q)) ≡ true
      on j within = (in_range_parts l.levels M low high (take (suc j) q) (front_visited l.levels M low high q v.visits j within)).1

  pub visited_next : (i : ℕ) → i < 512 → begins_with l.window (q ++ i ∷ []) ≡ false → in_range l.levels M low high (q ++ i ∷ []) ≡ true → IsVisited l m low high (q ++ i ∷ []) (address (entry M (q ++ i ∷ [])))
  visited_next i small outside inside = record {
    leads = led q i inside;
    visits = next_visits l.levels M low high q i v.visits inside;
    below = all_below_more q i v.below small;
    outside = outside;
  }
    where
      led : (q : List ℕ) (i : ℕ) → in_range l.levels M low high (q ++ i ∷ []) ≡ true → table_at l.levels l.root M (q ++ i ∷ []) ≡ Some (address (entry M (q ++ i ∷ [])))
      led [] i h = let p = in_range_parts l.levels M low high (i ∷ []) h in named l.levels (i ∷ []) (entry M (i ∷ [])) (names _ p.1 p.2) p.0
      led (k ∷ q) i h = let p = in_range_parts l.levels M low high (k ∷ q ++ i ∷ []) h in named l.levels (k ∷ q ++ i ∷ []) (entry M (k ∷ q ++ i ∷ [])) (names _ p.1 p.2) p.0

  -- a clean up of longer paths leaves the path as it is
  visited_still : (n : Memory) (part : List ℕ → Bool) → ((p : List ℕ) → length p ≤ length q → part p ≡ false) → paths (l laid_in n) ≡ cleaned l.levels M low high part → IsVisited l n low high q f
  visited_still n part longer is = record {
    leads = ap (λ N. table_at l.levels l.root N q) is ∙ table_at_same l.levels l.root N M q (same q (omega arith)) ∙ v.leads;
    visits = λ i. ap (λ N. list_all (in_range l.levels N low high) (parents (q ++ i ∷ []))) is ∙ still i ∙ v.visits i;
    below = v.below;
    outside = v.outside;
  }
    where
      N : PathMap
      N = cleaned l.levels M low high part

      same : (p : List ℕ) → length p ≤ length q → entry N p ≡ entry M p
      same p short = outside_part l.levels M low high part p (longer p short)

      still : (i : ℕ) → list_all (in_range l.levels N low high) (parents (q ++ i ∷ [])) ≡ list_all (in_range l.levels M low high) (parents (q ++ i ∷ []))
      still i = all_same _ _ (parents (q ++ i ∷ [])) (all_mapped _ _
          (λ s (h : (0 < length s) × (length s < length (q ++ i ∷ []))). same_range l.levels N M low high s (same s (omega (arith, h.1, one_more q i))))
          (parents (q ++ i ∷ [])) (parents_short (q ++ i ∷ [])))

  -- This holds after the clean up of all tables below the table, of one such table, and of those at its first indices.
  pub still_below : (n : Memory) → paths (l laid_in n) ≡ cleaned_below l.levels M low high q → IsVisited l n low high q f
  still_below n = visited_still n (is_below q) (λ p short. none_short q p short)

  pub still_at : (i : ℕ) (n : Memory) → paths (l laid_in n) ≡ cleaned_below l.levels M low high (q ++ i ∷ []) → IsVisited l n low high q f
  still_at i n = visited_still n (is_below (q ++ i ∷ [])) (λ p short. none_short (q ++ i ∷ []) p (omega (arith, short, one_more q i)))

  pub still_before : (i : ℕ) (n : Memory) → paths (l laid_in n) ≡ cleaned_before l.levels M low high q i → IsVisited l n low high q f
  still_before i n = visited_still n (is_before q i) (λ p short. false_from_ne_true _ (λ b.
      let more = from_before q i p b in let long = ap length more.3 in absurd (omega (arith, short, long, length-append q (more.0 ∷ more.1)))))
