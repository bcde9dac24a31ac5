-- Address spaces that share in pairs: at each index of the highest level a root is in one group or in none, and all roots that are in
-- one group there share the index.
use Rattle.std.specs.Prelude.{ℕ, ◌==◌, Bool, false, cond, List, [], ◌∷◌, Option, Some, None, map}
use Rattle.x86_64_spaces.specs.declared.space.GroupedSpace.{GroupedSpace}
use Rattle.x86_64_spaces.specs.declared.space.GroupIndices.{GroupIndices}
use Rattle.x86_64_spaces.specs.declared.space.Space.{Space}
use Rattle.x86_64_spaces.specs.SpaceLayouts.{indices_of}

-- An address space, and the group in which its root is at each index of the highest level, if there is one.
pub record Grouped : Type 0 where
  pub space : Space
  pub group : (index : ℕ) → Option ℕ

-- The address spaces of a list, without their groups.
abbrev pub spaces_of : List Grouped → List Space
spaces_of spaces = map (λ (s : Grouped). s.space) spaces

-- Whether there is a group and another one, and both are the same.
abbrev pub are_one : (group other : Option ℕ) → Bool
are_one None other = false
are_one (Some g) None = false
are_one (Some g) (Some h) = g == h

-- The group in which a root is at an index of the highest level, if there is one, by the first space of the list that has this
-- root.
abbrev pub group_of : List Grouped → (root index : ℕ) → Option ℕ
group_of [] root i = None
group_of (s ∷ spaces) root i = cond (s.space.root == root) (s.group i) (group_of spaces root i)

-- Whether two roots share an index of the highest level: both are in a group there, and in the same one.
abbrev pub sharing_of : List Grouped → (root other : ℕ) → (index : ℕ) → Bool
sharing_of spaces root other i = are_one (group_of spaces root i) (group_of spaces other i)

-- The group at an index of the highest level, by ranges of indices: that of the first range that has the index, if there is one.
abbrev pub group_in : List GroupIndices → (index : ℕ) → Option ℕ
group_in [] i = None
group_in (range ∷ ranges) i = cond (indices_of range.indices i) (Some range.group) (group_in ranges i)

-- An address space with the groups that its ranges of indices say.
abbrev pub grouped : GroupedSpace → Grouped
grouped s = record { space = s.space; group = group_in s.groups.now }

-- Address spaces that all share the same indices of the highest level: their roots are in one group there, and in none elsewhere.
abbrev pub all_sharing : (shared : ℕ → Bool) → List Space → List Grouped
all_sharing shared spaces = map (λ (s : Space). record { space = s; group = λ i. cond (shared i) (Some 0) None }) spaces
