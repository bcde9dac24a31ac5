-- Tables that words lead to along a path, on which each entry is present and names a table.
use Rattle.std.specs.Prelude.{◌≡◌, ℕ, List, Some, IsSome}
use Rattle.x86_64_model.specs.Arrivals.{leads}
use Rattle.x86_64_model.specs.Layout.{Layout}
use Rattle.x86_64_model.specs.Memory.{Memory}
use Rattle.x86_64_model.specs.Hierarchy.{◌laid_in◌, Hierarchy, words}
use Rattle.x86_64_model.specs.Window.{SelfEntry}

-- The words lead along the path, on which each entry is present and names a table, to the table in the frame. This table and the
-- root are in the memory, and the root has its self-entry if there is a recursive index.
pub record IsReached (l : Layout) (m : Memory) (path : List ℕ) (frame : ℕ) : Type 0 where
  pub way : leads (words (l laid_in m)) l.root path ≡ Some frame
  pub there : IsSome (words (l laid_in m) frame)
  pub root_there : IsSome (words (l laid_in m) l.root)
  pub self : SelfEntry (words (l laid_in m)) l.root l.window

-- The words of the hierarchy lead along a path, on which each entry is present and names a table, to the table in a frame. This
-- table and the root are in the memory, and the root has its self-entry if there is a recursive index.
abbrev pub PathReaches : {Lent : Type 0} → Hierarchy Lent → (path : List ℕ) → (frame : ℕ) → Type 0
PathReaches h path frame = IsReached h.layout h.memory path frame
