-- Laws of address spaces: their layouts, and the indices that they share.
use Rattle.std.specs.Prelude.{◌≡◌, ◌<◌, ◌≤◌, ◌↔◌, ℕ, Bool, true, List}
use Rattle.x86_64_model.specs.Lists.{In}
use Rattle.x86_64_model.specs.Memory.{Memory, Places}
use Rattle.x86_64_model.specs.Spaces.{AreSpaces, ArePaired, IsSharing}
use Rattle.x86_64_spaces.specs.declared.space.Space.{Space}
use Rattle.x86_64_spaces.specs.declared.space.SharedIndices.{SharedIndices}
use Rattle.x86_64_spaces.specs.SpaceGroups.{Grouped, spaces_of, sharing_of}
use Rattle.x86_64_spaces.specs.SpaceLayouts.{indices_of, layouts_of, roots_of}

-- If the layouts that spaces have in the memory m are address spaces in the memory n, to which calls may have led from m, the
-- spaces have the same layouts in n. All spaces share the same indices.
abbrev pub LayoutsStay : Type 0
LayoutsStay = (shared : ℕ → Bool) (levels : ℕ) (places : Places) (m n : Memory) (serves : ℕ → Bool) (pool : List ℕ) (spaces : List Space)
    → AreSpaces shared n serves pool (layouts_of levels places m spaces)
    → layouts_of levels places m spaces ≡ layouts_of levels places n spaces

-- If the layouts that spaces have in the memory m are address spaces in the memory n, to which calls may have led from m, the
-- spaces have the same layouts in n. Any two spaces share the indices that their roots share.
abbrev pub PairedLayoutsStay : Type 0
PairedLayoutsStay = (sharing : (root other : ℕ) → ℕ → Bool) (levels : ℕ) (places : Places) (m n : Memory) (serves : ℕ → Bool) (pool : List ℕ) (spaces : List Space)
    → ArePaired sharing n serves pool (layouts_of levels places m spaces)
    → layouts_of levels places m spaces ≡ layouts_of levels places n spaces

-- The indices are those of the upper half of the address space, at which the highest bit of an address is set.
abbrev pub IsUpperHalf : SharedIndices → Type 0
IsUpperHalf shared = (i : ℕ) → indices_of shared i ≡ true ↔ 256 ≤ i × i < 512

-- Sharing by groups is symmetric and transitive: roots that share an index share it both ways, and with all roots with which one of
-- them shares it.
abbrev pub GroupsShare : Type 0
GroupsShare = (spaces : List Grouped) → IsSharing (sharing_of spaces)

-- Each sharing is one by groups: for any address spaces there are groups by which any two of their roots share the same indices.
abbrev pub SharingsAreGroups : Type 0
SharingsAreGroups = (sharing : (root other : ℕ) → ℕ → Bool) → IsSharing sharing → (spaces : List Space)
    → (groups : List Grouped) × (spaces_of groups ≡ spaces)
    × ((a b : ℕ) → In (roots_of spaces) a → In (roots_of spaces) b → (i : ℕ) → sharing_of groups a b i ≡ sharing a b i)
