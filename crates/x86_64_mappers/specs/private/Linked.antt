-- A new table that an entry is made to name, and that is cleared before, or afterwards through this entry.
use Rattle.std.specs.Prelude.{◌≡◌, ◌≢◌, ℕ, true, List, ◌∷◌, ◌++◌, take, get_or, Option, Some}
use Rattle.x86_64_model.specs.Arrivals.{leads}
use Rattle.x86_64_model.specs.Entry.{IsParentFlags, present}
use Rattle.x86_64_model.specs.Layout.{Layout}
use Rattle.x86_64_model.specs.Hierarchy.{◌laid_in◌, words}
use Rattle.x86_64_model.specs.Memory.{Memory, Places, Words}
use Rattle.x86_64_model.specs.Window.{Window}
use Rattle.x86_64_mappers.specs.Reached.{IsReached}
use Rattle.x86_64_mappers.specs.private.Writes.{IsThere, IsSet, IsZeroed}

-- Word i of the table in the frame f isn't the root's word at the recursive index.
abbrev pub Beside : Option Window → (root f i : ℕ) → Type 0
Beside window root f i = (v : Window) → window ≡ Some v → f ≡ root → i ≢ v.index

-- None of the tables that the words lead to from the root along a path is in the frame f, except perhaps the one at the path's end.
abbrev pub NotOnWay : Words → (root : ℕ) → (path : List ℕ) → (f : ℕ) → Type 0
NotOnWay T root path f = (a : List ℕ) (j : ℕ) (b : List ℕ) → path ≡ a ++ j ∷ b → (h : ℕ) → leads T root a ≡ Some h → h ≢ f

-- None of the tables that the words lead to from the root along a path, including the one at the path's end, is in the frame f.
abbrev pub Unmet : Words → (root : ℕ) → (path : List ℕ) → (f : ℕ) → Type 0
Unmet T root path f = (a b : List ℕ) → path ≡ a ++ b → (h : ℕ) → leads T root a ≡ Some h → h ≢ f

-- The entry at index k of a path, in the table in the frame f, may be made to name the frame g with these flags, which have
-- PRESENT. The frame g is in the memory, and holds no table on the way to f.
pub record MayLink (l : Layout) (m : Memory) (path : List ℕ) (k f g flags : ℕ) : Type 0 where
  pub reached : IsReached l m (take k path) f
  pub not_on_way : NotOnWay (words (l laid_in m)) l.root (take k path) f
  pub beside : Beside l.window l.root f (get_or path k 0)
  pub there : IsThere l.places m g
  pub unmet : Unmet (words (l laid_in m)) l.root (take k path) g
  pub marks : IsParentFlags flags
  pub is_present : present flags ≡ true

-- Word i of the table in the frame f was set to w and the table in the frame g cleared, with the effect of clearing it first.
pub record IsClearedFirst (places : Places) (m : Memory) (f i w g : ℕ) (n : Memory) : Type 0 where
  pub middle : Memory
  pub is_cleared : IsZeroed places m g middle
  pub is_set : IsSet places middle f i w n
