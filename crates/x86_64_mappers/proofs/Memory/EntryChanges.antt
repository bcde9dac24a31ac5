-- The memory after a write to one used entry that names the same table as before, or no table as before.
use Rattle.std.proofs.Common.{◌≡◌, ◌<◌, ℕ, true, List, [], ◌∷◌, ◌++◌, Some, sym, ap, ◌∙◌, subst}
use Rattle.std.proofs.lemmas.List.{same_from_push}
use Rattle.x86_64_model.specs.Layout.{Layout}
use Rattle.x86_64_model.specs.Hierarchy.{◌laid_in◌, KeepsOthers, SupplyFits, Valid, paths, words}
use Rattle.x86_64_model.proofs.Lemmas.Hierarchies.Exists.{held_is_paths_of}
use Rattle.x86_64_model.proofs.Lemmas.Machines.Changes.{IsChange}
use Rattle.x86_64_model.proofs.Lemmas.Machines.Fitting.{sound_of_fits, fits_of_sound}
use Rattle.x86_64_model.proofs.Lemmas.Machines.States.{sound_change}
use Rattle.x86_64_model.proofs.Lemmas.Machines.Writes.{Written, change_written}
use Rattle.x86_64_model.specs.Memory.{Memory, Distinct, set_word}
use Rattle.x86_64_model.specs.PathMap.{PathMap, put, table_at}
use Rattle.x86_64_model.specs.Pool.{IsTable, Fits}
use Rattle.x86_64_model.specs.Window.{IsValidFor, outside_window}
use Rattle.x86_64_mappers.specs.private.Writes.{IsSet}
use Rattle.x86_64_mappers.proofs.Memory.Changed.{set_is, set_others, set_keeps}

-- The hierarchy is valid with the new entry, a supply that fitted it still does, and no word outside its tables changed.
pub record IsEntryChanged (l : Layout) (m : Memory) (q : List ℕ) (w : ℕ) (n : Memory) : Type 0 where
  pub meant : put (paths (l laid_in m)) q w ≡ paths (l laid_in n)
  pub valid : Valid (l laid_in n)
  pub ready : (supply : List ℕ) → SupplyFits (l laid_in m) supply → SupplyFits (l laid_in n) supply
  pub others : KeepsOthers (IsTable l.levels l.root (paths (l laid_in m))) (l laid_in m) (l laid_in n)

module _ (l : Layout) (apart : Distinct l.places) (at_least_four : 0 < l.levels) (m : Memory) (valid : Valid (l laid_in m)) (path : List ℕ) (last w : ℕ) (change : IsChange l.levels l.window (paths (l laid_in m)) (path ++ last ∷ []) w)
    (g : ℕ) (leads : table_at l.levels l.root (paths (l laid_in m)) path ≡ Some g) (n : Memory) (set : IsSet l.places m g last w n) where
  abbrev M : PathMap
  M = paths (l laid_in m)

  abbrev q : List ℕ
  q = path ++ last ∷ []

  wrote : Written l.levels l.window (words (l laid_in m)) l.root M q w
  wrote = change_written l.levels l.window (words (l laid_in m)) l.root M q w valid change

  ends : (path ≡ wrote.place.above) × (last ≡ wrote.index)
  ends = same_from_push path wrote.place.above last wrote.index wrote.place.path

  same_frame : wrote.frame ≡ g
  same_frame = let e : Some wrote.frame ≡ Some g = sym wrote.place.leads ∙ ap (table_at l.levels l.root M) (sym ends.0) ∙ leads in cc

  words_after : set_word (words (l laid_in m)) wrote.frame wrote.index w ≡ words (l laid_in n)
  words_after = ap (λ f. set_word (words (l laid_in m)) f wrote.index w) same_frame ∙ ap (λ j. set_word (words (l laid_in m)) g j w) (sym ends.1) ∙ sym (set_is l.places apart m g last w n set)

  valid_after : IsValidFor l.levels l.window (words (l laid_in n)) l.root (put M q w)
  valid_after = subst (λ T. IsValidFor l.levels l.window T l.root (put M q w)) words_after wrote.after

  held : put M q w ≡ paths (l laid_in n)
  held = held_is_paths_of l.levels (outside_window l.window l.root (words (l laid_in n))) l.root at_least_four (put M q w) valid_after.valid.holds

  pub entry_changed : IsEntryChanged l m q w n
  entry_changed = record {
    meant = held;
    valid = subst (IsValidFor l.levels l.window (words (l laid_in n)) l.root) held valid_after;
    ready = λ s ready. subst (λ N. Fits l.levels l.window (words (l laid_in n)) l.root N (λ f. true) s) held
        (fits_of_sound l.levels l.window (words (l laid_in n)) l.root (λ f. true) (record { paths = put M q w; pool = s })
        (sound_change l.levels l.window l.root (λ f. true) (record { paths = M; pool = s })
        (sound_of_fits l.levels l.window (words (l laid_in m)) l.root (λ f. true) (record { paths = M; pool = s }) ready) q w change)
        valid_after (λ f i. set_keeps l.places apart m g last w n set f (ready.in_memory f i)));
    others = λ k h. set_others l.places apart m g last w n set k (λ is. h g (path, leads) (sym is));
  }
