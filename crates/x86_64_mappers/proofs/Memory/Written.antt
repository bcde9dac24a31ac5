-- A write to the entry that a path names, as the path map sees it.
use Rattle.std.proofs.Common.{◌≡◌, ◌≢◌, inr, ◌<◌, ℕ, false, List, [], ◌∷◌, ◌++◌, None, Some, IsSome, refl, sym, ap, ◌∙◌, subst, arith}
use Rattle.x86_64_model.specs.Conserved.{Conserves}
use Rattle.x86_64_model.specs.Entry.{used, huge}
use Rattle.x86_64_model.specs.Validity.{entry_in, IsValid}
use Rattle.x86_64_model.specs.Layout.{Layout}
use Rattle.x86_64_model.specs.Hierarchy.{◌laid_in◌, KeepsOthers, SupplyFits, Uses, paths, words}
use Rattle.x86_64_model.proofs.Lemmas.Entries.Bits.{unused_zero}
use Rattle.x86_64_model.proofs.Lemmas.Hierarchies.Changes.{unused_no_table, may_be_leaf}
use Rattle.x86_64_model.proofs.Lemmas.Hierarchies.Exists.{held_is_paths_of}
use Rattle.x86_64_model.proofs.Lemmas.Hierarchies.Held.{table_at_last, valid_after}
use Rattle.x86_64_model.proofs.Lemmas.Maps.Frames.{conserves_marked, same_tables}
use Rattle.x86_64_model.specs.Lists.{In}
use Rattle.x86_64_model.specs.Memory.{Memory, Distinct, word}
use Rattle.x86_64_model.specs.Path.{level_of}
use Rattle.x86_64_model.specs.PathMap.{PathMap, entry, put, table_of, table_at}
use Rattle.x86_64_model.specs.Pool.{IsTable, IsOwn}
use Rattle.x86_64_model.specs.Window.{SelfEntry}
use Rattle.x86_64_mappers.specs.private.MapSteps.{KeepsOwned}
use Rattle.x86_64_mappers.specs.private.Linked.{Beside}
use Rattle.x86_64_mappers.specs.private.Writes.{IsSet}
use Rattle.x86_64_mappers.proofs.Memory.Changed.{set_others, set_keeps, read_set, self_set}
use Rattle.x86_64_mappers.proofs.Memory.WordsRead.{words_read, read_word, read_table}

-- a write at a path's end that keeps the table that it leads to
pub same_tables_last : (L root : ℕ) (M : PathMap) (p : List ℕ) (i e : ℕ) → table_of L (p ++ i ∷ []) e ≡ table_at L root M (p ++ i ∷ []) → (q : List ℕ) → table_at L root (put M (p ++ i ∷ []) e) q ≡ table_at L root M q
same_tables_last L root M [] i e same = same_tables L root M i [] e same
same_tables_last L root M (k ∷ p) i e same = same_tables L root M k (p ++ i ∷ []) e same

module _ (l : Layout) (apart : Distinct l.places) (at_least_four : 0 < l.levels) where
  -- the words now hold N
  pub owned_to : (m n : Memory) (s rest : List ℕ) (N : PathMap) → SupplyFits (l laid_in m) s → IsValid l.levels (words_read l n) l.root N → SelfEntry (words (l laid_in n)) l.root l.window → Conserves l.levels l.root (paths (l laid_in m)) s N rest
      → ((f : ℕ) → In rest f → In s f) → ((f : ℕ) → IsSome (words (l laid_in m) f) → IsSome (words (l laid_in n) f))
      → KeepsOthers (Uses (l laid_in m) s rest) (l laid_in m) (l laid_in n) → (N ≡ paths (l laid_in n)) × KeepsOwned l m s n rest
  owned_to m n s rest N ready valid self conserves within kept others =
      let e : N ≡ paths (l laid_in n) = held_is_paths_of l.levels (words_read l n) l.root at_least_four N valid.holds in
      let one = conserves.one_each (record { own_frames = ready.valid.valid.own_frames; each_once = ready.each_once; no_table = ready.no_table }) in (
        e,
        record {
          ready = record {
            valid = record { valid = subst (IsValid l.levels (words_read l n) l.root) e valid; self = self };
            each_once = one.each_once;
            in_memory = λ f h. kept f (ready.in_memory f (within f h));
            are_frames = λ f h. ready.are_frames f (within f h);
            not_zero = λ h. ready.not_zero (within 0 h);
            no_table = λ f h t. one.no_table f h (subst (λ M. IsTable l.levels l.root M f) (sym e) t);
            serves_pool = λ f h. refl;
            serves_tables = λ i q f h. refl;
          };
          own = λ f o. (conserves.same_set f).1 (subst (λ M. IsOwn l.levels l.root M rest f) (sym e) o);
          within = within;
          others = others;
        },
      )

  -- the entry at the path pre and the index i, which is word i of the frame f
  module _ (m : Memory) (pre : List ℕ) (i f : ℕ) (leads : table_at l.levels l.root (paths (l laid_in m)) pre ≡ Some f) (small : i < 512) (beside : Beside l.window l.root f i) where
    abbrev M : PathMap
    M = paths (l laid_in m)

    abbrev p : List ℕ
    p = pre ++ i ∷ []

    module _ (s : List ℕ) (ready : SupplyFits (l laid_in m) s) where
      pub entry_is : entry M p ≡ word (words (l laid_in m)) f i
      entry_is = ready.valid.valid.holds.entries pre i ∙ ap (λ t. entry_in (words_read l m) t i) leads ∙ read_word l.window l.root (words (l laid_in m)) f i beside

      pub own_place : (rest : List ℕ) → ((g : ℕ) → In rest g → In s g) → (k : ℕ) → ((g : ℕ) → Uses (l laid_in m) s rest g → l.places.place g ≢ k) → k ≢ l.places.place f
      own_place rest within k h e = h f (inr (pre, leads), λ i. ready.no_table f (within f i) (pre, leads)) (sym e)

      pub unused_leads : used (word (words (l laid_in m)) f i) ≡ false → table_at l.levels l.root M p ≡ None
      unused_leads u = table_at_last l.levels l.root M pre i ∙ ap (table_of l.levels p) (unused_zero _ (ap used entry_is ∙ u)) ∙ unused_no_table l.levels p

      -- a word that names no table is set to one that names none
      pub written : (w : ℕ) (n : Memory) → IsSet l.places m f i w n → table_at l.levels l.root M p ≡ None → table_of l.levels p w ≡ None → (3 < level_of l.levels p → huge w ≡ false)
          → (put M p w ≡ paths (l laid_in n)) × KeepsOwned l m s n s
      written w n k old new low =
          let T = words_read l m in
          let t = read_table l.window l.root (words (l laid_in m)) f k.table k.is in
          owned_to m n s s (put M p w) ready
          (subst (λ U. IsValid l.levels U l.root (put M p w)) (sym (read_set l apart m f i w n k beside))
          (valid_after l.levels T l.root M pre i w f t.table ready.valid.valid leads t.is (omega (arith, k.long, t.long)) small (may_be_leaf l.levels T l.root M ready.valid.valid.holds pre i w old new low)))
          (self_set l apart m f i w n k beside ready.valid.self)
          (conserves_marked l.levels l.root M _ s (same_tables_last l.levels l.root M pre i w (new ∙ sym old)))
          (λ f h. h) (set_keeps l.places apart m f i w n k)
          (λ a h. set_others l.places apart m f i w n k a (own_place s (λ f h. h) a h))
