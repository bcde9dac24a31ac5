-- The word that a clean up sets to 0, once the table that it names is empty.
use Rattle.std.proofs.Common.{◌≡◌, ◌≢◌, ⊎_elim, ℕ, ◌<◌, true, false, List, [], ◌∷◌, ◌++◌, Some, Option, sym, ap, ◌∙◌}
use Rattle.std.proofs.lemmas.Bool.{cases_lt}
use Rattle.x86_64_model.specs.Entry.{used}
use Rattle.x86_64_model.specs.Memory.{Words, set_word}
use Rattle.x86_64_model.specs.PathMap.{PathMap, entry, put, table_at}
use Rattle.x86_64_model.specs.Window.{Window, begins_with, outside_window, IsValidFor}
use Rattle.x86_64_model.proofs.Lemmas.Hierarchies.Changes.{may_be_removed, unused_no_table}
use Rattle.x86_64_model.proofs.Lemmas.Hierarchies.Held.{table_at-put_same, table_at-put_other}
use Rattle.x86_64_model.proofs.Lemmas.Hierarchies.Trees.{tree_of_holds, some_not_none}
use Rattle.x86_64_model.proofs.Lemmas.Machines.Writes.{set_written}
use Rattle.x86_64_model.proofs.Lemmas.Paths.Puts.{no_end}

module _ (L : ℕ) (window : Option Window) (T : Words) (root : ℕ) (M : PathMap) (valid : IsValidFor L window T root M) where
  -- it is valid without the entry
  pub removed_written : (p : List ℕ) (i f : ℕ) → table_at L root M p ≡ Some f → i < 512 → begins_with window (p ++ i ∷ []) ≡ false → used (entry M (p ++ i ∷ [])) ≡ true
      → ((j : ℕ) → j < 512 → entry M ((p ++ i ∷ []) ++ j ∷ []) ≡ 0) → IsValidFor L window (set_word T f i 0) root (put M (p ++ i ∷ []) 0)
  removed_written p i f leads small out u empty =
      let U = outside_window window root T in
      set_written L window T root M valid p i f leads small out 0 u (may_be_removed L U root M valid.valid.holds p i
      (λ j. ⊎_elim (empty j) ((tree_of_holds L U root M valid.valid.holds).small (p ++ i ∷ []) j) (cases_lt j 512)))

  -- a table that is left was a table, and not the one that the entry named
  module _ (p : List ℕ) (i : ℕ) (q : List ℕ) (g : ℕ) (left : table_at L root (put M (p ++ i ∷ []) 0) q ≡ Some g) where
    abbrev r : List ℕ
    r = p ++ i ∷ []

    not_itself : q ≢ r
    not_itself e = some_not_none g (sym left ∙ ap (table_at L root (put M r 0)) e ∙ table_at-put_same L root M r 0 (λ e. no_end p i (sym e)) ∙ unused_no_table L r)

    pub left_table : table_at L root M q ≡ Some g
    left_table = sym (table_at-put_other L root M r 0 q not_itself) ∙ left

    pub not_removed : table_at L root M r ≢ Some g
    not_removed t = not_itself (valid.valid.own_frames q r g left_table t)
