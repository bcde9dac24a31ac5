-- The way down to a table whose parents have the parent flags: another map changes none of them.
use Rattle.std.proofs.Common.{◌≡◌, ◌<◌, ℕ, true, false, List, [], ◌∷◌, ◌++◌, map, Some, bit_and, bit_or, refl, sym, ap, ◌∙◌, subst, arith, append_assoc, append-nil, map-id, eqb-true, eq-eqb, min, inl, inr}
use Rattle.std.proofs.lemmas.Nat.Bits.{same_from_bits, bit_at_and}
use Rattle.std.specs.Int.{bit_at}
use Rattle.std.proofs.lemmas.Bool.{and_parts, not-true}
use Rattle.std.specs.List.{AllByRecursion}
use Rattle.x86_64_model.specs.Entry.{IsParentFlags, has, used}
use Rattle.x86_64_model.specs.Layout.{Layout}
use Rattle.x86_64_model.specs.Hierarchy.{◌laid_in◌, SupplyFits, paths, words}
use Rattle.x86_64_model.specs.MapRule.{AfterMap, map_rule}
use Rattle.x86_64_model.specs.Memory.{Memory, Distinct, word}
use Rattle.x86_64_model.specs.Path.{parents}
use Rattle.x86_64_model.specs.PathMap.{PathMap, HasUsedAlone, entry, put, table_at}
use Rattle.x86_64_model.specs.Refusal.{Done}
use Rattle.x86_64_model.specs.Standing.{IsParent}
use Rattle.x86_64_model.proofs.Lemmas.Hierarchies.Changes.{parents_descend}
use Rattle.x86_64_model.proofs.Lemmas.Hierarchies.Trees.{tree_of_holds}
use Rattle.x86_64_model.proofs.Lemmas.Maps.Accepted.{map_makes}
use Rattle.x86_64_model.proofs.Lemmas.Maps.Down.{Descends, step_used}
use Rattle.x86_64_model.proofs.Lemmas.Maps.Mapped.{supply_frames}
use Rattle.x86_64_model.proofs.Lemmas.Maps.Trees.{page_descends}
use Rattle.x86_64_model.proofs.Lemmas.Pairs.AlikeEntries.{or_part}
use Rattle.x86_64_model.proofs.Lemmas.Paths.Puts.{cases_path, entry-put_same, entry-put_other, used_alone-put, same_paths}
use Rattle.x86_64_mappers.specs.private.Linked.{Beside}
use Rattle.x86_64_mappers.specs.private.MapSteps.{IsAt, mapped_from}
use Rattle.x86_64_mappers.specs.private.Writes.{IsSet}
use Rattle.x86_64_mappers.proofs.Map.OwnedWays.{owned_nothing}
use Rattle.x86_64_mappers.proofs.Map.StepOutcomes.{IsLeaf, IsPathMapped}
use Rattle.x86_64_mappers.proofs.Memory.WordsRead.{words_read}
use Rattle.x86_64_mappers.proofs.Memory.Written.{same_tables_last, unused_leads, written}
use Rattle.x86_64_mappers.proofs.Way.Finds.{next_parents}

-- pages of one table have the same parents
pub same_parents : (path : List ℕ) (x y : ℕ) → parents (path ++ x ∷ []) ≡ parents (path ++ y ∷ [])
same_parents [] x y = refl
same_parents (i ∷ []) x y = refl
same_parents (i ∷ j ∷ path) x y = ap (λ ps. (i ∷ []) ∷ map (λ p. i ∷ p) ps) (same_parents (j ∷ path) x y)

-- an entry that is put where it is
put_there : (M : PathMap) → HasUsedAlone M → (p : List ℕ) → put M p (entry M p) ≡ M
put_there M alone p = same_paths (put M p (entry M p)) M (used_alone-put M p (entry M p) alone) alone (λ q. elim (cases_path q p) [
  | inl e ↦ ap (entry (put M p (entry M p))) e ∙ entry-put_same M p (entry M p) ∙ ap (entry M) (sym e)
  | inr n ↦ entry-put_other M p (entry M p) q n
])

least : (x : ℕ) → min x x ≡ x
least x = omega arith

has_itself : (n : ℕ) → has n n ≡ true
unfolding has
has_itself n = eq-eqb (bit_and n n) n (same_from_bits _ _ (λ i. bit_at_and n n i ∙ least (bit_at n i)))

-- flags that an entry has change nothing
flags_there : (more e : ℕ) → IsParent more e → bit_or e more ≡ e
unfolding has
flags_there more e parent = or_part e more (eqb-true (bit_and e more) more (parent.has_flags more (has_itself more)))

module _ (l : Layout) (m : Memory) (s : List ℕ) (ready : SupplyFits (l laid_in m) s) (more : ℕ) where
  abbrev M : PathMap
  M = paths (l laid_in m)

  abbrev AreParents : List (List ℕ) → Type 0
  AreParents ps = AllByRecursion (λ p. IsParent more (entry M p)) ps

  stays : (p : List ℕ) → IsParent more (entry M p) → put M p (bit_or (entry M p) more) ≡ M
  stays p parent = ap (put M p) (flags_there more (entry M p) parent) ∙ put_there M ready.valid.valid.holds.used_alone p

  goes_on : (pre path : List ℕ) (x e frame : ℕ) → AreParents (map (λ y. pre ++ y) (parents (path ++ x ∷ [])))
      → mapped_from M s more l.added_flags pre (path ++ x ∷ []) e frame ≡ mapped_from M s more l.added_flags (pre ++ path) (x ∷ []) e frame
  goes_on pre [] x e frame all = ap (λ q. mapped_from M s more l.added_flags q (x ∷ []) e frame) (sym (append-nil pre))
  goes_on pre (i ∷ path) x e frame all =
      let p = pre ++ i ∷ [] in
      let q = pre ++ ((i ∷ path) ++ x ∷ []) in
      let ps = map (λ y. p ++ y) (parents (path ++ x ∷ [])) in
      let next = next_parents pre i path x in
      let here : AreParents (p ∷ ps) = subst AreParents next all in
      let table = and_parts (used (entry M p)) _ here.0.is_table in
      let down : Descends M (p ∷ ps) q = subst (λ ps. Descends M ps q) next (parents_descend l.levels (words_read l m) l.root M ready.valid.valid.holds pre ((i ∷ path) ++ x ∷ [])) in
      ap (λ ps. map_rule M s more l.added_flags ps q e frame) next
      ∙ step_used more l.added_flags q e frame M p ps down s table.0 (not-true _ table.1)
      ∙ ap (λ N. map_rule N s more l.added_flags ps q e frame) (stays p here.0)
      ∙ ap (λ q. map_rule M s more l.added_flags ps q e frame) (sym (append_assoc pre (i ∷ []) (path ++ x ∷ [])))
      ∙ goes_on p path x e frame here.1
      ∙ ap (λ q. mapped_from M s more l.added_flags q (x ∷ []) e frame) (append_assoc pre (i ∷ []) path)

  -- the way down changes nothing
  pub way_there : (path : List ℕ) (x g : ℕ) → AreParents (parents (path ++ x ∷ [])) → table_at l.levels l.root M path ≡ Some g → IsAt l m s more path path [] m s g
  way_there path x g all leads = record {
    owned = owned_nothing l m s ready;
    leads = leads;
    outcome = λ last e frame. goes_on [] path last e frame (subst AreParents (same_parents path x last ∙ sym (map-id (parents (path ++ last ∷ [])))) all);
  }

-- an accepted map leaves parents that have the parent flags
pub parents_marked : (l : Layout) → IsParentFlags l.added_flags → (m : Memory) (s : List ℕ) → SupplyFits (l laid_in m) s → (more : ℕ) → IsParentFlags more → (q : List ℕ) (e frame : ℕ) (n : Memory) (rest : List ℕ)
    → IsPathMapped l m s more q e frame (Done frame) n rest → AllByRecursion (λ p. IsParent more (entry (paths (l laid_in n)) p)) (parents q)
parents_marked l adds m s ready more marks q e frame n rest mapped =
    let made = map_makes more l.added_flags q e frame marks adds (paths (l laid_in m)) s (parents q)
    (page_descends l.levels l.root (paths (l laid_in m)) (tree_of_holds l.levels (words_read l m) l.root (paths (l laid_in m)) ready.valid.valid.holds) q)
    (supply_frames l m s ready) (ap (λ (a : AfterMap). a.answer) mapped.outcome) in
    subst (λ (a : AfterMap). AllByRecursion (λ p. IsParent more (entry a.paths p)) (parents q)) mapped.outcome made.1

-- the entry of a page leaves the table that its parents lead to
pub still_leads : (l : Layout) (apart : Distinct l.places) (at_least_four : 0 < l.levels) (m : Memory) (path : List ℕ) (x f : ℕ) → table_at l.levels l.root (paths (l laid_in m)) path ≡ Some f → x < 512 → Beside l.window l.root f x
    → (s : List ℕ) → SupplyFits (l laid_in m) s → (w : ℕ) → IsLeaf l.levels (path ++ x ∷ []) w → used (word (words (l laid_in m)) f x) ≡ false → (n : Memory) → IsSet l.places m f x w n
    → table_at l.levels l.root (paths (l laid_in n)) path ≡ Some f
still_leads l apart at_least_four m path x f leads small beside s ready w leaf unused n set =
    let none = unused_leads l apart at_least_four m path x f leads small beside s ready unused in
    let wrote = written l apart at_least_four m path x f leads small beside s ready w n set none leaf.no_table leaf.none_huge in
    ap (λ N. table_at l.levels l.root N path) (sym wrote.0)
    ∙ same_tables_last l.levels l.root (paths (l laid_in m)) path x w (leaf.no_table ∙ sym none) path ∙ leads
