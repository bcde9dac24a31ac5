-- The steps of a map as the path map sees them: down to the next table, and the last one.
use Rattle.std.proofs.Common.{◌≡◌, inl, inr, ◌<◌, ℕ, Bool, true, false, cond, List, [], ◌∷◌, ◌++◌, length, Some, Result, Ok, Err, sym, ap, ap₂, ◌∙◌, subst}
use Rattle.x86_64_model.specs.Entry.{IsParentFlags, used}
use Rattle.x86_64_model.specs.Layout.{Layout}
use Rattle.x86_64_model.specs.Hierarchy.{◌laid_in◌, SupplyFits, paths, words}
use Rattle.x86_64_model.proofs.Lemmas.Maps.Down.{step_last}
use Rattle.x86_64_model.specs.Memory.{Memory, Distinct, word}
use Rattle.x86_64_model.specs.PathMap.{PathMap, put, table_at}
use Rattle.x86_64_model.specs.Refusal.{Refusal, PageNotMapped, ParentEntryHugePage, InvalidFrameAddress, PageAlreadyMapped, FrameAllocationFailed, Answer, Done, Refused}
use Rattle.x86_64_mappers.specs.private.MapSteps.{KeepsOwned, mapped_from}
use Rattle.x86_64_mappers.specs.private.Linked.{Beside}
use Rattle.x86_64_mappers.specs.private.Writes.{IsTableMade, IsLeafSet}
use Rattle.x86_64_mappers.proofs.Map.OwnedWays.{owned_nothing}
use Rattle.x86_64_mappers.proofs.Map.StepOutcomes.{Reached, Stopped, IsStep, IsLeaf}
use Rattle.x86_64_mappers.proofs.Map.Marked.{reached_used, stopped_huge}
use Rattle.x86_64_mappers.proofs.Map.NewTables.{reached_new, stopped_empty}
use Rattle.x86_64_mappers.proofs.Memory.Written.{entry_is, unused_leads, written}

module _ (l : Layout) (apart : Distinct l.places) (m : Memory) (pre : List ℕ) (i f : ℕ) (leads : table_at l.levels l.root (paths (l laid_in m)) pre ≡ Some f) (small : i < 512) (beside : Beside l.window l.root f i) (more : ℕ) where
  abbrev M : PathMap
  M = paths (l laid_in m)

  abbrev p : List ℕ
  p = pre ++ i ∷ []

  -- a step down
  module _ (marks : IsParentFlags more) (adds : IsParentFlags l.added_flags) (room : length p < l.levels) where
    pub step : (s : List ℕ) → SupplyFits (l laid_in m) s → (r : Result ℕ Refusal) (n : Memory) (rest : List ℕ) → IsTableMade l.places more l.added_flags m s f i r n rest → IsStep l m s more pre i r n rest
    step s ready (Ok g) n rest (inl k) = subst (λ rest. Reached l m s more pre i n rest g) (sym k.3) (reached_used l apart m pre i f leads small beside more marks room s ready g n k.0 k.1 k.2)
    step s ready (Ok g) n rest (inr k) = subst (λ s. Reached l m s more pre i n rest g) (sym k.first)
        (reached_new l apart m pre i f leads small beside more marks adds room g rest (subst (SupplyFits (l laid_in m)) k.first ready) k.middle n k.is_unused k.is_cleared k.is_set)
    step s ready (Err ParentEntryHugePage) n rest k = subst (λ rest. Stopped l m s more pre i n rest ParentEntryHugePage) (sym k.2) (stopped_huge l apart m pre i f leads small beside more marks room s ready n k.0 k.1)
    step s ready (Err FrameAllocationFailed) n rest k =
        subst (λ n. Stopped l m s more pre i n rest FrameAllocationFailed) (sym k.2) (subst (λ rest. Stopped l m s more pre i m rest FrameAllocationFailed) (sym k.3)
        (subst (λ s. Stopped l m s more pre i m [] FrameAllocationFailed) (sym k.1) (stopped_empty l apart m pre i f leads small beside more marks adds room (subst (SupplyFits (l laid_in m)) k.1 ready) k.0)))
    step s ready (Err PageNotMapped) n rest k = absurd k
    step s ready (Err (InvalidFrameAddress a)) n rest k = absurd k
    step s ready (Err (PageAlreadyMapped g)) n rest k = absurd k

  -- the last step
  module _ (at_least_four : 0 < l.levels) (s : List ℕ) (ready : SupplyFits (l laid_in m) s) (e frame : ℕ) (is : IsLeaf l.levels p e) where
    last : (u : Bool) → used (word (words (l laid_in m)) f i) ≡ u
        → mapped_from M s more l.added_flags pre (i ∷ []) e frame ≡ cond u (record { paths = M; supply = s; answer = Refused (PageAlreadyMapped frame) }) (record { paths = put M p e; supply = s; answer = Done frame })
    last u h = step_last more l.added_flags p e frame M s
        ∙ ap (λ u. cond u (record { paths = M; supply = s; answer = Refused (PageAlreadyMapped frame) }) (record { paths = put M p e; supply = s; answer = Done frame })) (ap used (entry_is l apart at_least_four m pre i f leads small beside s ready) ∙ h)

    pub leaf : (answer : Answer) (n : Memory) → IsLeafSet l.places m f i e frame answer n
        → KeepsOwned l m s n s × (mapped_from M s more l.added_flags pre (i ∷ []) e frame ≡ record { paths = paths (l laid_in n); supply = s; answer = answer })
    leaf (Done g) n k =
        let w = written l apart at_least_four m pre i f leads small beside s ready e n k.2 (unused_leads l apart at_least_four m pre i f leads small beside s ready k.0) is.no_table is.none_huge in
        (w.1, last false k.0 ∙ ap₂ (λ N g. record { paths = N; supply = s; answer = Done g }) w.0 (sym k.1))
    leaf (Refused (PageAlreadyMapped g)) n k = (
      subst (λ n. KeepsOwned l m s n s) (sym k.2) (owned_nothing l m s ready),
      last true k.0 ∙ ap₂ (λ N x. record { paths = N; supply = s; answer = Refused (PageAlreadyMapped x) }) (ap (λ m. paths (l laid_in m)) (sym k.2)) (sym k.1),
    )
    leaf (Refused PageNotMapped) n k = absurd k
    leaf (Refused ParentEntryHugePage) n k = absurd k
    leaf (Refused (InvalidFrameAddress a)) n k = absurd k
    leaf (Refused FrameAllocationFailed) n k = absurd k
