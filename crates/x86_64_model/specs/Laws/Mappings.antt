-- Laws of mappings and regions. The words are arbitrary, except in the last two laws, which are about valid hierarchies.
-- A position is the number of an address counted without the gap of the address space.
use Rattle.std.specs.Prelude.{◌≡◌, ◌≢◌, ◌⊎◌, ℕ, ◌+◌, ◌-◌, ◌<◌, ◌≤◌, true, false, List, [], ◌∷◌, ◌++◌, map, Option, Some, option_map}
use Rattle.std.specs.List.{find, AllByRecursion}
use Rattle.x86_64_model.specs.Lists.{In}
use Rattle.x86_64_model.specs.Position.{position_count, lower_half, span}
use Rattle.x86_64_model.specs.Path.{AllBelow, parents, path_at}
use Rattle.x86_64_model.specs.PathMap.{PathMap, entry}
use Rattle.x86_64_model.specs.Memory.{Words}
use Rattle.x86_64_model.specs.Window.{Window, begins_with, entry_at, IsValidFor}
use Rattle.x86_64_model.specs.PageWalk.{Walked, page_walk}
use Rattle.x86_64_model.specs.Translation.{translate, Mapped}
use Rattle.x86_64_model.specs.Mappings.{Mapping, has_position, leaf_of, mapping_at, mappings_of, words_along}
use Rattle.x86_64_model.specs.Regions.{is_within, regions_of}

-- Each element of the list is related by R to each later one.
abbrev pub InOrder : {X : Type 0} → (X → X → Type 0) → List X → Type 0
InOrder R [] = Unit {0}
InOrder R (x ∷ xs) = AllByRecursion (R x) xs × InOrder R xs

-- ---- mappings

-- The mappings below a root are listed by ascending start, and no position is in two of them.
abbrev pub MappingsAreApart : Type 0
MappingsAreApart = (L : ℕ) (T : Words) (root : ℕ) → InOrder (λ m n. (m.start < n.start) × (m.start + m.size ≤ n.start)) (mappings_of L T root)

-- Where a page walk at a position of a mapping arrives, with the mapping's rights to write and of user mode.
abbrev pub arrival_in : (position : ℕ) → Mapping → Walked
arrival_in p m = record { address = m.frame + (p - m.start); write = m.rights.write; user = m.rights.user }

-- The page walk at a position arrives if and only if a mapping below the root has the position, and then at the mapping's frame
-- plus the offset, with its rights to write and of user mode.
abbrev pub WalksArriveInMappings : Type 0
WalksArriveInMappings = (L : ℕ) (T : Words) (root p : ℕ) → p < position_count L
    → page_walk L T root p ≡ option_map (arrival_in p) (find (has_position p) (mappings_of L T root))

-- The words of the page walk at position p, down to a level from one to three, are those of the mapping's leaf, and so say its
-- frame, its flags and all its rights, to execute too. The mapping has the size of a page of this level.
pub record IsSaidBy (L : ℕ) (T : Words) (root p : ℕ) (m : Mapping) (level : ℕ) (words : List ℕ) : Type 0 where
  pub low : 1 ≤ level
  pub high : level ≤ 3
  pub size : m.size ≡ span level
  pub walk : words_along T root (path_at L level p) ≡ Some words
  pub leaf : leaf_of L (path_at L level p) words ≡ Some m

-- The words of the page walk at each position of a mapping are those of the mapping's leaf. So the mapping has the rights that
-- these words grant together, to execute too.
abbrev pub WordsOfWalksSayMappings : Type 0
WordsOfWalksSayMappings = (L : ℕ) (T : Words) (root : ℕ) (m : Mapping) → In (mappings_of L T root) m
    → (p : ℕ) → has_position p m ≡ true → (level : ℕ) × (words : List ℕ) × IsSaidBy L T root p m level words

-- ---- regions

-- The regions below a root are listed in ascending order, and no position is in two of them. If one starts just after another ends,
-- that is the middle of the address space, or their rights differ.
abbrev pub RegionsAreApart : Type 0
RegionsAreApart = (L : ℕ) (T : Words) (root : ℕ) → InOrder
    (λ r s. (r.last < s.first) × (s.first ≡ r.last + 1 → (s.first ≡ lower_half L) ⊎ (r.rights ≢ s.rights)))
    (regions_of L T root)

-- Each region below a root lies in one half of the address space.
abbrev pub RegionsLieInHalves : Type 0
RegionsLieInHalves = (L : ℕ) (T : Words) (root : ℕ)
    → AllByRecursion (λ r. (r.last < lower_half L) ⊎ (lower_half L ≤ r.first)) (regions_of L T root)

-- A region below a root has a position if and only if a mapping has it, and both have the same rights. So exactly one region has a
-- position at which the page walk arrives.
abbrev pub RegionsHoldMappings : Type 0
RegionsHoldMappings = (L : ℕ) (T : Words) (root p : ℕ)
    → option_map (λ r. r.rights) (find (is_within p) (regions_of L T root)) ≡ option_map (λ m. m.rights) (find (has_position p) (mappings_of L T root))

-- ---- valid hierarchies

-- The entries of a path map at the parents of a path and at the path itself, the highest level first.
abbrev pub entries_along : PathMap → (path : List ℕ) → List ℕ
entries_along M q = map (entry M) (parents q ++ q ∷ [])

-- In a valid hierarchy, outside the recursive window, what a path maps is what the path map's entries along it say.
abbrev pub MappingsAreLeaves : Type 0
MappingsAreLeaves = (L : ℕ) (T : Words) (root : ℕ) (M : PathMap) (window : Option Window) → IsValidFor L window T root M
    → (q : List ℕ) → q ≢ [] → AllBelow q → begins_with window q ≡ false
    → mapping_at L T root q ≡ leaf_of L q (entries_along M q)

-- In a valid hierarchy `translate` names, at each position of a mapping, the mapping's size, frame and flags with the offset, also
-- in the recursive window.
abbrev pub TranslateNamesMappings : Type 0
TranslateNamesMappings = (L : ℕ) (T : Words) (root : ℕ) (M : PathMap) (window : Option Window) → IsValidFor L window T root M
    → (m : Mapping) → In (mappings_of L T root) m → (p : ℕ) → has_position p m ≡ true
    → translate L (entry_at window M) p ≡ Mapped m.size m.frame (p - m.start) m.flags
