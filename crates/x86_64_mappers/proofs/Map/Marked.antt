-- A parent of a page that is used: it gets the parent flags.
use Rattle.std.proofs.Common.{⊎_elim, ◌≡◌, ◌<◌, ℕ, true, false, not, ◌&&◌, cond, nat_lt, List, [], ◌∷◌, ◌++◌, length, map, Some, None, bit_or, sym, ap, ap₂, ◌∙◌, subst, arith, lt-ltb, append_assoc}
use Rattle.std.proofs.lemmas.Nat.{or_comm}
use Rattle.x86_64_model.specs.Entry.{IsParentFlags, used, present, huge, address}
use Rattle.x86_64_model.specs.Validity.{IsValid}
use Rattle.x86_64_model.specs.Layout.{Layout}
use Rattle.x86_64_model.specs.Hierarchy.{◌laid_in◌, SupplyFits, paths, words}
use Rattle.x86_64_model.proofs.Lemmas.Hierarchies.Changes.{parents_descend, map_again}
use Rattle.x86_64_model.proofs.Lemmas.Hierarchies.Held.{table_at_last}
use Rattle.x86_64_model.proofs.Lemmas.Hierarchies.Marks.{marked_valid}
use Rattle.x86_64_model.proofs.Lemmas.Maps.Down.{Descends, step_used, step_huge}
use Rattle.x86_64_model.proofs.Lemmas.Maps.Frames.{conserves_marked, table_of_marked}
use Rattle.x86_64_model.proofs.Lemmas.Maps.Flags.{has_kept}
use Rattle.x86_64_model.specs.MapRule.{map_rule}
use Rattle.x86_64_model.specs.Memory.{Memory, Distinct, word, set_word}
use Rattle.x86_64_model.specs.Path.{parents}
use Rattle.x86_64_model.specs.PathMap.{PathMap, entry, put, table_of, table_at}
use Rattle.x86_64_model.specs.Refusal.{Refused, ParentEntryHugePage}
use Rattle.x86_64_mappers.specs.private.MapSteps.{KeepsOwned, mapped_from}
use Rattle.x86_64_mappers.specs.private.Linked.{Beside}
use Rattle.x86_64_mappers.specs.private.Writes.{IsEntryMarked}
use Rattle.x86_64_mappers.proofs.Memory.Changed.{set_others, set_keeps, read_set, self_set}
use Rattle.x86_64_mappers.proofs.Map.StepOutcomes.{Reached, Stopped}
use Rattle.x86_64_mappers.proofs.Memory.WordsRead.{words_read, read_word, read_table}
use Rattle.x86_64_mappers.proofs.Memory.Written.{entry_is, owned_to, own_place, same_tables_last}

-- what is left of the rule at the next parent
pub rest_same : (more added : ℕ) (pre : List ℕ) (i : ℕ) (N : PathMap) (s : List ℕ) (j : ℕ) (r : List ℕ) (e frame : ℕ)
    → map_rule N s more added (map (λ x. pre ++ x) (map (λ x. i ∷ x) (parents (j ∷ r)))) (pre ++ i ∷ j ∷ r) e frame ≡ mapped_from N s more added (pre ++ i ∷ []) (j ∷ r) e frame
rest_same more added pre i N s j r e frame = λ n. map_rule N s more added (sym (map_again pre i (parents (j ∷ r))) n) (sym (append_assoc pre (i ∷ []) (j ∷ r)) n) e frame

pub descends : (l : Layout) (m : Memory) (s : List ℕ) → SupplyFits (l laid_in m) s → (pre : List ℕ) (i j : ℕ) (r : List ℕ) → Descends (paths (l laid_in m)) (map (λ x. pre ++ x) (parents (i ∷ j ∷ r))) (pre ++ i ∷ j ∷ r)
descends l m s ready pre i j r = parents_descend l.levels (words_read l m) l.root (paths (l laid_in m)) ready.valid.valid.holds pre (i ∷ j ∷ r)

module _ (l : Layout) (apart : Distinct l.places) (m : Memory) (pre : List ℕ) (i f : ℕ) (leads : table_at l.levels l.root (paths (l laid_in m)) pre ≡ Some f) (small : i < 512) (beside : Beside l.window l.root f i)
    (more : ℕ) (marks : IsParentFlags more) (room : length (pre ++ i ∷ []) < l.levels) (s : List ℕ) (ready : SupplyFits (l laid_in m) s) where
  abbrev M : PathMap
  M = paths (l laid_in m)

  abbrev p : List ℕ
  p = pre ++ i ∷ []

  at_least_four : 0 < l.levels
  at_least_four = omega (arith, room)

  is : entry M p ≡ word (words (l laid_in m)) f i
  is = entry_is l apart at_least_four m pre i f leads small beside s ready

  marked : (n : Memory) → IsEntryMarked l.places m f i more n → (put M p (bit_or (entry M p) more) ≡ paths (l laid_in n)) × KeepsOwned l m s n s
  marked n k =
      let T = words_read l m in
      let t = read_table l.window l.root (words (l laid_in m)) f k.is_set.table k.is_set.is in
      let u : used (entry M p) ≡ true = ap used is ∙ k.is_used in
      let w = read_word l.window l.root (words (l laid_in m)) f i beside in
      owned_to l apart at_least_four m n s s (put M p (bit_or (entry M p) more)) ready
      (subst (λ U. IsValid l.levels U l.root (put M p (bit_or (entry M p) more))) (ap (λ x. set_word T f i (bit_or x more)) w ∙ sym (read_set l apart m f i _ n k.is_set beside))
      (marked_valid T f i more t.table t.is (omega (arith, k.is_set.long, t.long)) small marks (ap used w ∙ k.is_used) l.levels l.root M pre ready.valid.valid leads))
      (self_set l apart m f i _ n k.is_set beside ready.valid.self)
      (conserves_marked l.levels l.root M _ s (same_tables_last l.levels l.root M pre i _ (table_of_marked l.levels p (entry M p) more marks u ∙ sym (table_at_last l.levels l.root M pre i))))
      (λ f h. h) (set_keeps l.places apart m f i _ n k.is_set)
      (λ a h. set_others l.places apart m f i _ n k.is_set a (own_place l apart at_least_four m pre i f leads small beside s ready s (λ f h. h) a h))

  -- a parent that isn't huge leads to the next table
  pub reached_used : (g : ℕ) (n : Memory) → IsEntryMarked l.places m f i more n → huge (word (words (l laid_in m)) f i) ≡ false → g ≡ address (word (words (l laid_in m)) f i) → Reached l m s more pre i n s g
  unfolding table_of
  reached_used g n k h names =
      let u : used (entry M p) ≡ true = ap used is ∙ k.is_used in
      let hh : huge (entry M p) ≡ false = ap huge is ∙ h in
      let w = marked n k in
      let t : table_of l.levels p (entry M p) ≡ Some g = ap₂ (λ a b. cond (a && not b && nat_lt (length p) l.levels) (Some (address (entry M p))) None) u hh
      ∙ ap (λ b. cond b (Some (address (entry M p))) None) (lt-ltb (length p) l.levels room) ∙ ap (λ x. Some (address x)) is ∙ ap Some (sym names) in
      record {
        owned = w.1;
        leads = ap (λ N. table_at l.levels l.root N p) (sym w.0) ∙ same_tables_last l.levels l.root M pre i _ (table_of_marked l.levels p (entry M p) more marks u ∙ sym (table_at_last l.levels l.root M pre i)) p
            ∙ table_at_last l.levels l.root M pre i ∙ t;
        opens = record {
          word = bit_or (entry M p) more;
          is = w.0;
          was_plain = hh;
          is_present = ⊎_elim (λ x. ap present (or_comm (entry M p) more) ∙ has_kept more (entry M p) 0x1 x) (has_kept (entry M p) more 0x1);
        };
        outcome = λ j r x frame. step_used more l.added_flags (pre ++ i ∷ j ∷ r) x frame M p _ (descends l m s ready pre i j r) s u hh
            ∙ rest_same more l.added_flags pre i _ s j r x frame ∙ ap (λ N. mapped_from N s more l.added_flags p (j ∷ r) x frame) w.0;
      }

  -- a huge parent refuses
  pub stopped_huge : (n : Memory) → IsEntryMarked l.places m f i more n → huge (word (words (l laid_in m)) f i) ≡ true → Stopped l m s more pre i n s ParentEntryHugePage
  stopped_huge n k h =
      let w = marked n k in record {
        owned = w.1;
        outcome = λ j r x frame. step_huge more l.added_flags (pre ++ i ∷ j ∷ r) x frame M p _ (descends l m s ready pre i j r) s (ap used is ∙ k.is_used) (ap huge is ∙ h)
            ∙ ap (λ N. record { paths = N; supply = s; answer = Refused ParentEntryHugePage }) w.0;
      }
