-- Parents that are present stay so when pages are mapped, since maps only add flags to their entries.
use Rattle.std.proofs.Common.{◌≡◌, ◌||◌, ℕ, Bool, true, false, not, cond, List, [], ◌∷◌, find, Option, Some, refl, sym, ap₂, ◌∙◌, subst}
use Rattle.x86_64_model.specs.Allowed.{none_absent, parents_present}
use Rattle.x86_64_model.specs.Entry.{IsParentFlags, present, huge}
use Rattle.x86_64_model.specs.Layout.{Layout}
use Rattle.x86_64_model.specs.Hierarchy.{◌laid_in◌, SupplyFits, paths}
use Rattle.x86_64_model.specs.MapRule.{AfterMap}
use Rattle.x86_64_model.specs.Memory.{Memory}
use Rattle.x86_64_model.specs.Path.{parents}
use Rattle.x86_64_model.specs.PathMap.{PathMap, entry}
use Rattle.x86_64_model.specs.Refusal.{Answer}
use Rattle.x86_64_model.proofs.Lemmas.Entries.Bits.{used_present}
use Rattle.x86_64_model.proofs.Lemmas.Hierarchies.Trees.{tree_of_holds}
use Rattle.x86_64_model.proofs.Lemmas.Maps.Flags.{Same, same_after}
use Rattle.x86_64_model.proofs.Lemmas.Maps.Rights.{Grows, map_grows}
use Rattle.x86_64_model.proofs.Lemmas.Maps.Trees.{page_descends}
use Rattle.x86_64_mappers.proofs.Map.StepOutcomes.{IsPathMapped}
use Rattle.x86_64_mappers.proofs.Memory.WordsRead.{words_read}

module _ (more : ℕ) (marks : IsParentFlags more) (M N : PathMap) (grows : Grows more M N) where
  -- the first of these parents that ends the way, by a path map
  abbrev first_end : PathMap → List (List ℕ) → Option (List ℕ)
  first_end K ps = find (λ p. not (present (entry K p)) || huge (entry K p)) ps

  -- this with what the entry of the first parent says
  abbrev end_by : PathMap → (is_present is_huge : Bool) → List ℕ → List (List ℕ) → Bool
  end_by K a b p ps = none_absent K (cond (not a || b) (Some p) (first_end K ps))

  -- the way of a parent and those below it
  on_way : (p : List ℕ) (ps : List (List ℕ)) → (none_absent M (first_end M ps) ≡ true → none_absent N (first_end N ps) ≡ true)
      → (a b : Bool) → present (entry M p) ≡ a → huge (entry M p) ≡ b → end_by M a b p ps ≡ true → none_absent N (first_end N (p ∷ ps)) ≡ true
  on_way p ps below false b is at h = absurd (let t : true ≡ false = sym h ∙ is in cc)
  on_way p ps below true b is at h = ap₂ (λ x y. end_by N x y p ps) grown.is_present (grown.same_huge ∙ at) ∙ next b h
    where
      grown : Same more (entry M p) (entry N p)
      grown = same_after more (entry M p) (entry N p) marks is (λ _. grows p (used_present (entry M p) is))

      next : (b : Bool) → end_by M true b p ps ≡ true → end_by N true b p ps ≡ true
      next true h = grown.is_present
      next false h = below h

  none_absent_still : (ps : List (List ℕ)) → none_absent M (first_end M ps) ≡ true → none_absent N (first_end N ps) ≡ true
  none_absent_still [] h = refl
  none_absent_still (p ∷ ps) h = on_way p ps (none_absent_still ps) (present (entry M p)) (huge (entry M p)) refl refl h

  parents_grown : (q : List ℕ) → parents_present M more q ≡ true → parents_present N more q ≡ true
  parents_grown q h = by (present more) h
    where
      by : (b : Bool) → (b || none_absent M (first_end M (parents q))) ≡ true → (b || none_absent N (first_end N (parents q))) ≡ true
      by true h = refl
      by false h = none_absent_still (parents q) h

pub parents_mapped : (l : Layout) (m : Memory) (s : List ℕ) → SupplyFits (l laid_in m) s → (more : ℕ) → IsParentFlags more → (q : List ℕ) (e frame : ℕ) (answer : Answer) (n : Memory) (rest : List ℕ)
    → IsPathMapped l m s more q e frame answer n rest → (p : List ℕ) → parents_present (paths (l laid_in m)) more p ≡ true → parents_present (paths (l laid_in n)) more p ≡ true
parents_mapped l m s ready more marks q e frame answer n rest mapped p before =
    let descends = page_descends l.levels l.root (paths (l laid_in m)) (tree_of_holds l.levels (words_read l m) l.root (paths (l laid_in m)) ready.valid.valid.holds) q in
    let grows : Grows more (paths (l laid_in m)) (paths (l laid_in n)) = subst (λ (a : AfterMap). Grows more (paths (l laid_in m)) a.paths) mapped.outcome (map_grows more l.added_flags q e frame (paths (l laid_in m)) s (parents q) descends) in
    parents_grown more marks (paths (l laid_in m)) (paths (l laid_in n)) grows p before
