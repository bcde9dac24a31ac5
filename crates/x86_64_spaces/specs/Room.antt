-- What tests of several address spaces answer: whether they share some indices, all alike or in pairs, a pool fits each, and an array
-- has room.
use Rattle.std.specs.Prelude.{◌≡◌, ◌≤◌, ℕ, Bool, true, List, length}
use Rattle.x86_64_model.specs.Layout.{Layout}
use Rattle.x86_64_model.specs.Lists.{In, EachOnce}
use Rattle.x86_64_model.specs.Memory.{Memory, Places}
use Rattle.x86_64_model.specs.Spaces.{AreSpaces, ArePaired}
use Rattle.x86_64_spaces.specs.declared.space.Space.{Space}
use Rattle.x86_64_spaces.specs.SpaceLayouts.{layouts_of, roots_of}
use Rattle.x86_64_tables.specs.LentPool.{is_in}

-- The layouts are address spaces that share these indices, and an array has room for every frame that the pool may ever hold: its
-- own frames, and those of all roots and tables.
pub record AreSpacesWithRoom (shared : ℕ → Bool) (m : Memory) (capacity : ℕ) (pool : List ℕ) (layouts : List Layout) : Type 0 where
  pub own : List ℕ
  pub few : length own ≤ capacity
  pub roots : (a : Layout) → In layouts a → is_in own a.root ≡ true
  pub spaces : AreSpaces shared m (is_in own) pool layouts

-- The layouts are address spaces of which any two share the indices that their roots share, and an array has room for every frame
-- that the pool may ever hold: its own frames, and those of all roots and tables.
pub record ArePairedWithRoom (sharing : (root other : ℕ) → ℕ → Bool) (m : Memory) (capacity : ℕ) (pool : List ℕ) (layouts : List Layout) : Type 0 where
  pub own : List ℕ
  pub few : length own ≤ capacity
  pub roots : (a : Layout) → In layouts a → is_in own a.root ≡ true
  pub spaces : ArePaired sharing m (is_in own) pool layouts

-- A list of address spaces with this number of levels, whose tables are in one memory, with the places of frames.
pub record SpacesIn : Type 0 where
  pub levels : ℕ
  pub places : Places
  pub memory : Memory
  pub spaces : List Space

-- The address spaces of a list, with this number of levels, whose tables are in one memory, with these places of frames.
abbrev pub spaces_in : (levels : ℕ) → Places → Memory → List Space → SpacesIn
spaces_in levels places memory spaces = record { levels = levels; places = places; memory = memory; spaces = spaces }

-- The layouts of address spaces whose tables are in one memory.
abbrev pub layouts_in : SpacesIn → List Layout
layouts_in all = layouts_of all.levels all.places all.memory all.spaces

-- The roots of the address spaces are distinct, any two spaces share these indices, and a pool fits each.
abbrev pub ShareAndFit : (shared : ℕ → Bool) → SpacesIn → (serves : ℕ → Bool) → (pool : List ℕ) → Type 0
ShareAndFit shared all serves pool = EachOnce (roots_of all.spaces) × AreSpaces shared all.memory serves pool (layouts_in all)

-- The roots of the address spaces are distinct, any two spaces share the indices that their roots share, and a pool fits each.
abbrev pub SharePaired : (sharing : (root other : ℕ) → ℕ → Bool) → SpacesIn → (serves : ℕ → Bool) → (pool : List ℕ) → Type 0
SharePaired sharing all serves pool = EachOnce (roots_of all.spaces) × ArePaired sharing all.memory serves pool (layouts_in all)

-- The roots of the address spaces are distinct, any two spaces share these indices, a pool fits each, and an array has room for
-- every frame that the pool may ever hold.
abbrev pub ShareWithRoom : (shared : ℕ → Bool) → SpacesIn → (capacity : ℕ) → (pool : List ℕ) → Type 0
ShareWithRoom shared all capacity pool = EachOnce (roots_of all.spaces) × AreSpacesWithRoom shared all.memory capacity pool (layouts_in all)

-- The roots of the address spaces are distinct, any two spaces share the indices that their roots share, a pool fits each, and an
-- array has room for every frame that the pool may ever hold.
abbrev pub SharePairedWithRoom : (sharing : (root other : ℕ) → ℕ → Bool) → SpacesIn → (capacity : ℕ) → (pool : List ℕ) → Type 0
SharePairedWithRoom sharing all capacity pool = EachOnce (roots_of all.spaces) × ArePairedWithRoom sharing all.memory capacity pool (layouts_in all)
