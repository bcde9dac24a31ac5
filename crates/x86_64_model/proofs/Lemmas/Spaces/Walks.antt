-- Walks of hierarchies that share tables.
use Rattle.std.proofs.Common.{◌≡◌, ℕ, Bool, true, false, List, [], ◌∷◌, ◌++◌, refl, sym, ap, ◌∙◌}
use Rattle.x86_64_model.specs.Laws.Spaces.{SharedWalksAreTheSame, WalksStay}
use Rattle.x86_64_model.specs.Layout.{Layout}
use Rattle.x86_64_model.specs.Hierarchy.{◌laid_in◌, Valid, paths, walk, words}
use Rattle.x86_64_model.specs.Memory.{Memory}
use Rattle.x86_64_model.specs.PathMap.{PathMap, entry}
use Rattle.x86_64_model.specs.Position.{page_path}
use Rattle.x86_64_model.specs.Spaces.{is_shared}
use Rattle.x86_64_model.specs.Window.{IsValidFor, begins_with, entry_at}
use Rattle.x86_64_model.proofs.Lemmas.Spaces.Tables.{shared_tables_stay, shared_entries_are_the_same}
use Rattle.x86_64_model.proofs.Lemmas.Walks.Agrees.{reads}
use Rattle.x86_64_model.proofs.Lemmas.Walks.Fronts.{walked_same, walked_outside}
use Rattle.x86_64_model.proofs.Lemmas.Walks.Walked.{walked, page_walk_is}

-- the front parts of a path are shared as it is
front_shared : (shared : ℕ → Bool) (c : List ℕ) (j : ℕ) (t path : List ℕ) → path ≡ c ++ j ∷ t → is_shared shared (c ++ j ∷ []) ≡ is_shared shared path
front_shared shared [] j t path e = ap (is_shared shared) (sym e)
front_shared shared (i ∷ c) j t path e = ap (is_shared shared) (sym e)

-- outside the window a walk is that of a path map that the words hold
pub walk_of_paths : (l : Layout) (m : Memory) (M : PathMap) (p : ℕ) → IsValidFor l.levels l.window (words (l laid_in m)) l.root M → begins_with l.window (page_path l.levels p) ≡ false
    → walk (l laid_in m) p ≡ walked (entry M) p l.levels [] true true
walk_of_paths l m M p valid out =
    page_walk_is l.levels (words (l laid_in m)) l.root (entry_at l.window M) (reads l.levels (words (l laid_in m)) l.root M l.window valid) p
    ∙ walked_outside l.levels l.window M p out

module _ (a b : Layout) (m n : Memory) (p : ℕ) (shared : ℕ → Bool) (kind : Bool) where
  -- where the entries at such paths are the same, so are the walks
  pub same_walks : b.levels ≡ a.levels → Valid (a laid_in m) → Valid (b laid_in n) → begins_with a.window (page_path a.levels p) ≡ false → begins_with b.window (page_path b.levels p) ≡ false
      → is_shared shared (page_path a.levels p) ≡ kind → ((q : List ℕ) → is_shared shared q ≡ kind → entry (paths (b laid_in n)) q ≡ entry (paths (a laid_in m)) q) → walk (b laid_in n) p ≡ walk (a laid_in m) p
  same_walks levels va vb out_a out_b is same =
      walk_of_paths b n (paths (b laid_in n)) p vb out_b
      ∙ ap (λ L. walked (entry (paths (b laid_in n))) p L [] true true) levels
      ∙ walked_same a.levels p (entry (paths (b laid_in n))) (entry (paths (a laid_in m))) (λ c j t e. same (c ++ j ∷ []) (front_shared shared c j t (page_path a.levels p) e ∙ is)) a.levels [] true true refl
      ∙ sym (walk_of_paths a m (paths (a laid_in m)) p va out_a)

pub shared_walks_are_the_same : SharedWalksAreTheSame
shared_walks_are_the_same shared first second mapping some serves m pool fits is p on out_first out_second =
    same_walks first second m m p shared true is.levels fits.valid is.valid out_first out_second on
    (λ q s. shared_entries_are_the_same shared first second mapping some serves m pool fits is q s)

pub walks_stay : WalksStay
walks_stay shared first second mapping some serves m n pool rest fits keeps kept is p off out =
    let stay = shared_tables_stay shared first second mapping some serves m n pool rest fits keeps kept is in
    same_walks second second m n p shared false refl is.valid stay.valid out out off (λ q s. stay.elsewhere q s)
