-- An unused parent of a page: a table is created in the first frame of the supply.
use Rattle.std.proofs.Common.{⊎_elim, ◌≡◌, ◌≢◌, inl, inr, ◌<◌, ℕ, false, List, [], ◌∷◌, ◌++◌, length, Some, None, bit_or, refl, sym, ap, ◌∙◌, subst, arith, eqb-true}
use Rattle.std.specs.FinMap.{get}
use Rattle.x86_64_model.specs.Conserved.{IsFrame, Conserves}
use Rattle.x86_64_model.specs.Entry.{IsParentFlags, used, huge, address}
use Rattle.x86_64_model.specs.Validity.{IsValid}
use Rattle.x86_64_model.specs.Layout.{Layout}
use Rattle.x86_64_model.specs.Hierarchy.{◌laid_in◌, SupplyFits, paths, words}
use Rattle.x86_64_model.proofs.Lemmas.Entries.Bits.{has_or, only_flags, unused_absent, unused_zero}
use Rattle.x86_64_model.proofs.Lemmas.Hierarchies.Changes.{zero_not_huge}
use Rattle.x86_64_model.proofs.Lemmas.Hierarchies.Held.{table_at_last}
use Rattle.x86_64_model.proofs.Lemmas.Hierarchies.Marks.{made_valid}
use Rattle.x86_64_model.proofs.Lemmas.Maps.Down.{step_new, step_none}
use Rattle.x86_64_model.proofs.Lemmas.Maps.Frames.{conserves_taken, table_of_new, flags_or, frame_not_huge}
use Rattle.x86_64_model.proofs.Lemmas.Maps.Flags.{has_kept}
use Rattle.x86_64_model.proofs.Lemmas.Paths.Puts.{entry-put_same}
use Rattle.x86_64_model.specs.Lists.{In}
use Rattle.x86_64_model.specs.Memory.{Memory, Distinct, word, set_word}
use Rattle.x86_64_model.specs.PathMap.{PathMap, entry, put, table_of, table_at}
use Rattle.x86_64_model.specs.Refusal.{FrameAllocationFailed}
use Rattle.x86_64_model.specs.Window.{SelfEntry}
use Rattle.x86_64_tables.specs.PageTable.{zero_words}
use Rattle.x86_64_mappers.specs.private.MapSteps.{mapped_from}
use Rattle.x86_64_mappers.specs.private.Linked.{Beside}
use Rattle.x86_64_mappers.specs.private.Writes.{IsSet, IsZeroed}
use Rattle.x86_64_mappers.proofs.Memory.Changed.{not_none, set_others, set_keeps, read_set, self_set, cleared_other, cleared_here, cleared_other_word, cleared_words, cleared_keeps}
use Rattle.x86_64_mappers.proofs.Map.OwnedWays.{owned_nothing}
use Rattle.x86_64_mappers.proofs.Map.StepOutcomes.{Reached, Stopped}
use Rattle.x86_64_mappers.proofs.Map.Marked.{rest_same, descends}
use Rattle.x86_64_mappers.proofs.Memory.WordsRead.{words_read, read_word, read_table, read_some, read_same, self_kept}
use Rattle.x86_64_mappers.proofs.Memory.Stored.{get-put}
use Rattle.x86_64_mappers.proofs.Memory.Written.{entry_is, unused_leads, owned_to, own_place}

taken_last : (L root : ℕ) (M : PathMap) (f : ℕ) (fs : List ℕ) (p : List ℕ) (i e : ℕ) → table_of L (p ++ i ∷ []) e ≡ Some f → table_at L root M (p ++ i ∷ []) ≡ None → Conserves L root M (f ∷ fs) (put M (p ++ i ∷ []) e) fs
taken_last L root M f fs [] i e new old = conserves_taken L root M f fs i [] e new old
taken_last L root M f fs (k ∷ p) i e new old = conserves_taken L root M f fs k (p ++ i ∷ []) e new old

-- the frames of a supply
supply_frame : (l : Layout) (m : Memory) (s : List ℕ) → SupplyFits (l laid_in m) s → (f : ℕ) → In s f → IsFrame f
supply_frame l m s ready f h = record { aligned = eqb-true (address f) f (ready.are_frames f h); not_zero = λ z. ready.not_zero (subst (In s) z h) }

module _ (l : Layout) (apart : Distinct l.places) (m : Memory) (pre : List ℕ) (i f : ℕ) (leads : table_at l.levels l.root (paths (l laid_in m)) pre ≡ Some f) (small : i < 512) (beside : Beside l.window l.root f i)
    (more : ℕ) (marks : IsParentFlags more) (adds : IsParentFlags l.added_flags) (room : length (pre ++ i ∷ []) < l.levels) where
  abbrev M : PathMap
  M = paths (l laid_in m)

  abbrev p : List ℕ
  p = pre ++ i ∷ []

  at_least_four : 0 < l.levels
  at_least_four = omega (arith, room)

  -- no frame is left
  pub stopped_empty : SupplyFits (l laid_in m) [] → used (word (words (l laid_in m)) f i) ≡ false → Stopped l m [] more pre i m [] FrameAllocationFailed
  stopped_empty ready u = record {
    owned = owned_nothing l m [] ready;
    outcome = λ j r x frame. step_none more l.added_flags (pre ++ i ∷ j ∷ r) x frame M p _ (descends l m [] ready pre i j r) (ap used (entry_is l apart at_least_four m pre i f leads small beside [] ready) ∙ u);
  }

  -- the frame g was cleared, and then the entry came to name it
  module _ (g : ℕ) (rest : List ℕ) (ready : SupplyFits (l laid_in m) (g ∷ rest)) (middle n : Memory) (u : used (word (words (l laid_in m)) f i) ≡ false)
      (cleared : IsZeroed l.places m g middle) (k : IsSet l.places middle f i (bit_or g (bit_or more l.added_flags)) n) where
    abbrev w : ℕ
    w = bit_or g (bit_or more l.added_flags)

    flags : IsParentFlags (bit_or more l.added_flags)
    flags = flags_or more l.added_flags marks adds

    frame : IsFrame g
    frame = supply_frame l m (g ∷ rest) ready g (inl refl)

    new : table_of l.levels p w ≡ Some g
    new = table_of_new l.levels p g (bit_or more l.added_flags) flags frame room

    old : table_at l.levels l.root M p ≡ None
    old = unused_leads l apart at_least_four m pre i f leads small beside (g ∷ rest) ready u

    unused : used (entry M p) ≡ false
    unused = ap used (entry_is l apart at_least_four m pre i f leads small beside (g ∷ rest) ready) ∙ u

    fresh : (q : List ℕ) → table_at l.levels l.root M q ≢ Some g
    fresh q t = ready.no_table g (inl refl) (q, t)

    not_root : g ≢ l.root
    not_root x = fresh [] (ap Some (sym x))

    valid : IsValid l.levels (set_word (words_read l middle) f i w) l.root (put M p w)
    valid =
        let same : (h : ℕ) → h ≢ g → words_read l middle h ≡ words_read l m h = λ h n. read_same l.window l.root (words (l laid_in m)) (words (l laid_in middle)) h (cleared_other l.places apart m g middle cleared h n) in
        let t = read_table l.window l.root (words (l laid_in middle)) f k.table k.is in
        made_valid l.levels (words_read l m) (words_read l middle) l.root M pre i w f g t.table ready.valid.valid leads
        (sym (same f (λ x. fresh pre (leads ∙ ap Some x))) ∙ t.is) (omega (arith, k.long, t.long)) small old new
        (has_or g (bit_or more l.added_flags) 0x80 flags.not_huge ∙ frame_not_huge g frame.aligned) frame.not_zero fresh same
        (read_some l.window l.root (words (l laid_in middle)) g (not_none _ zero_words (cleared_here l.places apart m g middle cleared)))
        (λ j. read_word l.window l.root (words (l laid_in middle)) g j (λ v x h. absurd (not_root h)) ∙ cleared_words l.places apart m g middle cleared j)

    self : SelfEntry (words (l laid_in middle)) l.root l.window
    self = self_kept l.window l.root (words (l laid_in m)) (words (l laid_in middle)) (λ v x. cleared_other_word l.places apart m g middle cleared l.root v.index not_root) ready.valid.self

    pub reached_new : Reached l m (g ∷ rest) more pre i n rest g
    reached_new =
        let go = owned_to l apart at_least_four m n (g ∷ rest) rest (put M p w) ready (subst (λ U. IsValid l.levels U l.root (put M p w)) (sym (read_set l apart middle f i w n k beside)) valid)
        (self_set l apart middle f i w n k beside self)
        (taken_last l.levels l.root M g rest pre i w new old) (λ f h. inr h)
        (λ h t. set_keeps l.places apart middle f i w n k h (cleared_keeps l.places apart m g middle cleared h t))
        (λ a h. set_others l.places apart middle f i w n k a (own_place l apart at_least_four m pre i f leads small beside (g ∷ rest) ready rest (λ f h. inr h) a h)
        ∙ ap (λ x. get x a) cleared.after ∙ get-put m (l.places.place g) a _ (λ x. h g (inl (inl refl), ready.each_once.0) (sym x))) in
        record {
          owned = go.1;
          leads = ap (λ N. table_at l.levels l.root N p) (sym go.0) ∙ table_at_last l.levels l.root (put M p w) pre i ∙ ap (table_of l.levels p) (entry-put_same M p w) ∙ new;
          opens = record {
            word = w;
            is = go.0;
            was_plain = ap huge (unused_zero (entry M p) unused) ∙ zero_not_huge;
            is_present = ⊎_elim
                (λ x. only_flags g (bit_or more l.added_flags) 0x1 frame.aligned refl ∙ has_kept more l.added_flags 0x1 x)
                (λ x. absurd (let no = unused_absent (entry M p) unused in cc));
          };
          outcome = λ j r x frame. step_new more l.added_flags (pre ++ i ∷ j ∷ r) x frame M p _ (descends l m (g ∷ rest) ready pre i j r) g rest unused
              ∙ rest_same more l.added_flags pre i _ rest j r x frame ∙ ap (λ N. mapped_from N rest more l.added_flags p (j ∷ r) x frame) go.0;
        }
