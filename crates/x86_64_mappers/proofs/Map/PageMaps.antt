-- A map of a page, from the way down its parents and the write of its own entry.
use Rattle.std.proofs.Common.{◌≡◌, ◌<◌, ◌≤◌, ◌+◌, ◌==◌, ℕ, false, cond, List, [], ◌∷◌, ◌++◌, length, take, get_or, Ok, Err, bit_or, sym, ap, ◌∙◌, subst, arith}
use Rattle.x86_64_model.specs.Entry.{IsParentFlags}
use Rattle.x86_64_model.specs.Layout.{Layout}
use Rattle.x86_64_model.proofs.Lemmas.Maps.Leaves.{none_at_leaf}
use Rattle.x86_64_model.proofs.Lemmas.Maps.Mapped.{walks_after}
use Rattle.x86_64_model.specs.MapRule.{leaf_entry}
use Rattle.x86_64_model.specs.Hierarchy.{◌laid_in◌, SupplyFits}
use Rattle.x86_64_model.specs.private.MapperCalls.{MapsPage}
use Rattle.x86_64_model.specs.Memory.{Memory, Distinct}
use Rattle.x86_64_model.specs.Refusal.{Refusal, Answer, Refused}
use Rattle.x86_64_model.specs.Window.{begins_with}
use Rattle.x86_64_mappers.specs.private.MapSteps.{IsDown}
use Rattle.x86_64_mappers.specs.private.Writes.{IsLeafSet}
use Rattle.x86_64_mappers.proofs.Map.Down.{path_mapped, path_refused}
use Rattle.x86_64_mappers.proofs.Map.StepOutcomes.{IsPathMapped, IsLeaf}
use Rattle.x86_64_mappers.proofs.Way.Pages.{path_parted, small_page}

-- the entry of a page may be written at its path
pub page_leaf : (L : ℕ) (q : List ℕ) → L ≤ length q + 2 → (frame given : ℕ) → IsLeaf L q (leaf_entry L q frame given)
page_leaf L q low frame given = record { no_table = none_at_leaf L q frame given; none_huge = λ above. absurd (omega arith) }

module _ (l : Layout) (apart : Distinct l.places) (m : Memory) (s : List ℕ) (level : ℕ) (q : List ℕ) (last : ℕ) (size : length q ≡ last + 1) (at_level : length q + level ≡ l.levels + 1) (frame given more : ℕ)
    (before : SupplyFits (l laid_in m) s) (marks : IsParentFlags more) where
  -- the path is mapped as the call says
  called : (answer : Answer) (n : Memory) (rest : List ℕ) → IsPathMapped l m s more q (leaf_entry l.levels q frame given) frame answer n rest → MapsPage l m s q frame given more answer n rest
  called answer n rest h = record {
    outcome = h.outcome;
    ready = h.owned.ready;
    others = h.owned.others;
    walks = walks_after l m s q frame given more answer n rest marks before h.outcome h.owned.ready;
  }

  pub page_stopped : (why : Refusal) (n : Memory) (rest : List ℕ) → IsDown l m s more (take last q) (Err why) n rest → MapsPage l m s q frame given more (Refused why) n rest
  page_stopped why n rest h = called (Refused why) n rest
      (subst (λ q. IsPathMapped l m s more q (leaf_entry l.levels q frame given) frame (Refused why) n rest) (path_parted q last size)
      (path_refused l apart m s more (take last q) (get_or q last 0) _ frame n rest why h))

  pub page_mapped : 1 ≤ level → level ≤ 3 → begins_with l.window q ≡ false → (n : Memory) (rest : List ℕ) (g : ℕ) → IsDown l m s more (take last q) (Ok g) n rest → (i : ℕ) → i ≡ get_or q last 0 → i < 512
      → (answer : Answer) (o : Memory) → IsLeafSet l.places n g i (bit_or frame (cond (level == 1) given (bit_or given 0x80))) frame answer o → MapsPage l m s q frame given more answer o rest
  page_mapped low high outside n rest g down i is small answer o k =
      let parted : take last q ++ i ∷ [] ≡ q = ap (λ i. take last q ++ i ∷ []) is ∙ path_parted q last size in
      let e = leaf_entry l.levels q frame given in
      called answer o rest
      (subst (λ q. IsPathMapped l m s more q e frame answer o rest) parted
      (path_mapped l apart m s more (take last q) i e frame (omega arith) (ap (begins_with l.window) parted ∙ outside) small
      (subst (λ q. IsLeaf l.levels q e) (sym parted) (page_leaf l.levels q (omega arith) frame given))
      n rest g down answer o
      (subst (λ b. IsLeafSet l.places n g i (bit_or frame (cond b given (bit_or given 0x80))) frame answer o) (sym (small_page l.levels level q at_level)) k)))
