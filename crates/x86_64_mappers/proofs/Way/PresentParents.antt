-- The walk down the parents of a page decides whether one of them is absent.
use Rattle.std.proofs.Common.{◌≡◌, ℕ, ◌&&◌, ◌||◌, Bool, true, false, not, cond, List, [], ◌∷◌, ◌++◌, find, Option, Some, None, option_map, Result, Ok, Err, refl, sym, ap, ◌∙◌}
use Rattle.x86_64_model.specs.Allowed.{none_absent}
use Rattle.x86_64_model.specs.Entry.{present, huge}
use Rattle.x86_64_model.specs.Layout.{Layout}
use Rattle.x86_64_model.specs.Hierarchy.{◌laid_in◌, paths, read_entry}
use Rattle.x86_64_model.specs.Memory.{Memory}
use Rattle.x86_64_model.specs.Path.{parents}
use Rattle.x86_64_model.specs.PathMap.{PathMap, entry}
use Rattle.x86_64_model.specs.Refusal.{Refusal, PageNotMapped, ParentEntryHugePage, first_stop}
use Rattle.x86_64_model.specs.Window.{begins_with}
use Rattle.x86_64_mappers.specs.private.Stops.{IsFound}
use Rattle.x86_64_mappers.specs.private.MapConditions.{are_present, meets_none_absent}
use Rattle.x86_64_mappers.proofs.Way.Outside.{first_stop_outside}

abbrev of_stop : Option Refusal → Bool
of_stop None = true
of_stop (Some why) = meets_none_absent (Err why)

are_present_is : (M : PathMap) (q : List ℕ) → are_present M q ≡ of_stop (first_stop (entry M) q)
unfolding first_stop
are_present_is M q =
    (λ i. none_absent M (find (λ p. same_test (present (entry M p)) (huge (entry M p)) i) (parents q)))
    ∙ by (find (λ p. not (present (entry M p) && not (huge (entry M p)))) (parents q))
  where
    same_test : (p h : Bool) → (not p || h) ≡ not (p && not h)
    same_test true true = refl
    same_test true false = refl
    same_test false h = refl

    by_entry : (b : Bool) → b ≡ meets_none_absent (Err (cond b ParentEntryHugePage PageNotMapped))
    by_entry true = refl
    by_entry false = refl

    by : (o : Option (List ℕ)) → none_absent M o ≡ of_stop (option_map (λ p. cond (present (entry M p)) ParentEntryHugePage PageNotMapped) o)
    by None = refl
    by (Some p) = by_entry (present (entry M p))

-- this for a page outside the window
pub found_present : (l : Layout) (m : Memory) (path : List ℕ) (r : Result ℕ Refusal) → IsFound l m path r → (last : ℕ) → begins_with l.window (path ++ last ∷ []) ≡ false
    → meets_none_absent r ≡ are_present (paths (l laid_in m)) (path ++ last ∷ [])
found_present l m path r found last outside = by r found ∙ ap of_stop (first_stop_outside l.window (paths (l laid_in m)) (path ++ last ∷ []) outside) ∙ sym (are_present_is (paths (l laid_in m)) (path ++ last ∷ []))
  where
    by : (r : Result ℕ Refusal) → IsFound l m path r → meets_none_absent r ≡ of_stop (first_stop (read_entry (l laid_in m)) (path ++ last ∷ []))
    by (Ok frame) found = sym (ap of_stop (found.1 last))
    by (Err why) found = sym (ap of_stop (found last))
