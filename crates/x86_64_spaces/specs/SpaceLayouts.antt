-- Address spaces in a memory, by their roots and recursive indices.
use Rattle.std.specs.Prelude.{◌≡◌, ℕ, ◌&&◌, nat_le, nat_lt, Bool, false, List, [], ◌∷◌, Option, Some, None, map}
use Rattle.x86_64_model.specs.Layout.{Layout}
use Rattle.x86_64_model.specs.Hierarchy.{◌laid_in◌, Hierarchy, paths}
use Rattle.x86_64_model.specs.Memory.{Memory, Places, words_of}
use Rattle.x86_64_model.specs.PathMap.{entry}
use Rattle.x86_64_spaces.specs.declared.space.SharedIndices.{SharedIndices}
use Rattle.x86_64_spaces.specs.declared.space.Space.{Space}
use Rattle.x86_64_tables.specs.SelfEntries.{window_in}

-- Whether an index of the highest level is one of the shared indices.
abbrev pub indices_of : SharedIndices → (index : ℕ) → Bool
indices_of shared i = nat_le shared.from i && nat_lt i shared.to

-- The flags that a new table entry gets in addition to the parent flags: PRESENT and WRITABLE with a recursive index.
abbrev pub flags_added : (recursive : Option ℕ) → ℕ
flags_added None = 0
flags_added (Some r) = 3

-- The layout of an address space whose tables are in a memory.
abbrev pub space_layout : (levels : ℕ) → Places → Memory → Space → Layout
space_layout levels places memory space = record {
  levels = levels;
  places = places;
  root = space.root;
  window = window_in (words_of memory places) space.root space.recursive;
  added_flags = flags_added space.recursive;
}

-- The hierarchy of an address space whose tables are in a memory.
abbrev pub space_in : (levels : ℕ) → Places → Memory → Space → Hierarchy (Unit {0})
space_in levels places memory space = space_layout levels places memory space laid_in memory

-- The layouts of address spaces whose tables are in a memory.
abbrev pub layouts_of : (levels : ℕ) → Places → Memory → List Space → List Layout
layouts_of levels places memory spaces = map (space_layout levels places memory) spaces

-- The frames of the roots of address spaces.
abbrev pub roots_of : List Space → List ℕ
roots_of spaces = map (λ space. space.root) spaces

-- The address spaces without a recursive index that have these roots.
abbrev pub spaces_at : (roots : List ℕ) → List Space
spaces_at roots = map (λ root. record { root = root; recursive = None }) roots

-- The root has used entries at shared indices alone, not counting its self-entry.
abbrev pub HasSharedAlone : (shared : ℕ → Bool) → Layout → Memory → Type 0
HasSharedAlone shared layout m = (i : ℕ) → shared i ≡ false → entry (paths (layout laid_in m)) (i ∷ []) ≡ 0
