-- Which entries are in the range of a clean up: those that name tables, except the root's entry for itself.
use Rattle.std.proofs.Common.{◌≡◌, ◌<◌, ◌+◌, ℕ, Bool, true, false, not, cond, List, [], ◌∷◌, ◌++◌, length, Option, Some, None, Ok, Err, sym, ap, ◌∙◌, subst, arith, eqb-true, lt-ltb}
use Rattle.std.proofs.lemmas.Bool.{and_from, false_from_ne_true}
use Rattle.x86_64_model.proofs.Lemmas.CleanUps.Removed.{in_range_parts}
use Rattle.x86_64_model.proofs.Lemmas.Entries.Bits.{zero_absent}
use Rattle.x86_64_model.proofs.Lemmas.Hierarchies.Unset.{word_unset}
use Rattle.x86_64_model.proofs.Lemmas.Machines.Writes.{word_is_entry}
use Rattle.x86_64_model.proofs.Lemmas.Walks.Walked.{one_more}
use Rattle.x86_64_model.specs.CleanUp.{in_range, meets}
use Rattle.x86_64_model.specs.Entry.{present, huge, address}
use Rattle.x86_64_model.specs.Validity.{IsValid}
use Rattle.x86_64_model.specs.Layout.{Layout}
use Rattle.x86_64_model.specs.Hierarchy.{◌laid_in◌, Valid, paths, words}
use Rattle.x86_64_model.specs.Memory.{Memory, word}
use Rattle.x86_64_model.specs.PathMap.{entry}
use Rattle.x86_64_model.specs.Refusal.{Refusal, PageNotMapped, ParentEntryHugePage}
use Rattle.x86_64_model.specs.Window.{Window, outside_window, begins_with}
use Rattle.x86_64_mappers.proofs.CleanUp.Visited.{visited_next}
use Rattle.x86_64_mappers.specs.private.CleaningUp.{IsVisited}
use Rattle.x86_64_mappers.proofs.Way.Finds.{names_below}
use Rattle.x86_64_mappers.specs.private.Stops.{table_below}

-- the next table is visited too
pub record IsNext (l : Layout) (m : Memory) (low high : ℕ) (q : List ℕ) (i g : ℕ) : Type 0 where
  pub inside : in_range l.levels (paths (l laid_in m)) low high (q ++ i ∷ []) ≡ true
  pub visited : IsVisited l m low high (q ++ i ∷ []) g
  pub is : g ≡ address (entry (paths (l laid_in m)) (q ++ i ∷ []))

module _ (l : Layout) (m : Memory) (valid : Valid (l laid_in m)) (low high : ℕ) (q : List ℕ) (f : ℕ) (v : IsVisited l m low high q f) (i : ℕ) (small : i < 512) (out : begins_with l.window (q ++ i ∷ []) ≡ false) where
  abbrev L : ℕ
  L = l.levels

  abbrev r : List ℕ
  r = q ++ i ∷ []

  abbrev e : ℕ
  e = entry (paths (l laid_in m)) r

  word_is : word (words (l laid_in m)) f i ≡ e
  word_is = word_is_entry L l.window (words (l laid_in m)) l.root (paths (l laid_in m)) valid q i f v.leads small out

  -- the word names a table
  pub next_visited : length q + 1 < L → meets L low high r ≡ true → (g : ℕ) → Ok g ≡ table_below (word (words (l laid_in m)) f i) → IsNext l m low high q i g
  next_visited room met g names =
      let n = names_below e g (names ∙ ap table_below word_is) in
      let inside = and_from _ _ (and_from _ _ (and_from _ _ (lt-ltb (length r) L (omega (arith, room, one_more q i))) n.is_present) (ap not n.not_huge)) met in record {
        inside = inside;
        visited = subst (IsVisited l m low high r) (sym n.address) (visited_next l m low high q f v i small out inside);
        is = n.address;
      }

  -- the word names no table
  pub refused_out : (why : Refusal) → Err why ≡ table_below (word (words (l laid_in m)) f i) → in_range L (paths (l laid_in m)) low high r ≡ false
  refused_out why refused = false_from_ne_true _ (λ h. let parts = in_range_parts L (paths (l laid_in m)) low high r h in
      clash (present e) (huge e) (refused ∙ ap table_below word_is) parts.1 parts.2)
    where
      clash : (p h : Bool) → Err why ≡ cond (not p) (Err PageNotMapped) (cond h (Err ParentEntryHugePage) (Ok (address e))) → p ≡ true → h ≡ false → ⊥
      clash true true refused here plain = cc
      clash true false refused here plain = cc
      clash false h refused here plain = cc

-- the self-entry, which the path map doesn't have
pub recursive_out : (l : Layout) (m : Memory) → Valid (l laid_in m) → (low high : ℕ) (q : List ℕ) (i : ℕ) → begins_with l.window q ≡ false → begins_with l.window (q ++ i ∷ []) ≡ true
    → in_range l.levels (paths (l laid_in m)) low high (q ++ i ∷ []) ≡ false
recursive_out l m valid low high q i out is = false_from_ne_true _ (λ h. let t : false ≡ true = sym (by l.window valid.valid q out is) ∙ (in_range_parts l.levels (paths (l laid_in m)) low high (q ++ i ∷ []) h).1 in cc)
  where
    by : (window : Option Window) → IsValid l.levels (outside_window window l.root (words (l laid_in m))) l.root (paths (l laid_in m)) → (q : List ℕ) → begins_with window q ≡ false → begins_with window (q ++ i ∷ []) ≡ true
        → present (entry (paths (l laid_in m)) (q ++ i ∷ [])) ≡ false
    by None v q out is = cc
    by (Some w) v [] out is = ap present (v.holds.entries [] i ∙ ap (word (outside_window (Some w) l.root (words (l laid_in m))) l.root) (eqb-true i w.index is) ∙ word_unset (words (l laid_in m)) l.root w.index) ∙ zero_absent
    by (Some w) v (k ∷ q) out is = cc
