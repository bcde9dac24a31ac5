-- The layouts of mappers.
use Rattle.std.specs.Prelude.{◌↔◌, ℕ, Bool, List, Option, None, IsSome}
use Rattle.x86_64_model.specs.Layout.{Layout}
use Rattle.x86_64_model.specs.Memory.{Memory, Places, words_of}
use Rattle.x86_64_model.specs.Hierarchy.{◌laid_in◌, Hierarchy, PoolFits, Valid, words}

-- The layout of a mapper without a recursive index, with this number of levels, these places of frames and the root in this frame.
-- A new table entry gets the parent flags alone.
abbrev pub direct_at : (levels : ℕ) → Places → (root : ℕ) → Layout
direct_at levels places root = record { levels = levels; places = places; root = root; window = None; added_flags = 0 }

-- The layout of a mapper with four levels and without a recursive index, with these places of frames and the root in this frame.
abbrev pub direct : Places → (root : ℕ) → Layout
direct places root = direct_at 4 places root

-- The hierarchy without a recursive index that has its root in this frame of the memory, with this number of levels and these
-- places of frames. The value `lent` says which memory was lent and what finds frames in it.
abbrev pub owned_at : {Lent : Type 0} → (levels : ℕ) → Places → (root : ℕ) → Memory → Lent → Hierarchy Lent
owned_at levels places root memory lent = record { layout = direct_at levels places root; memory = memory; lent = lent }

-- The hierarchy of four levels without a recursive index that has its root in this frame of the memory, with these places of
-- frames. The value `lent` says which memory was lent and what finds frames in it.
abbrev pub owned : {Lent : Type 0} → Places → (root : ℕ) → Memory → Lent → Hierarchy Lent
owned places root memory lent = owned_at 4 places root memory lent

-- The table in the root's frame of a hierarchy, if the memory has it.
abbrev pub root_table : {Lent : Type 0} → Hierarchy Lent → Option (List ℕ)
root_table h = words h h.layout.root

-- The root's frame is covered by the places, and its table is in the memory.
abbrev pub HasRoot : Places → (root : ℕ) → Memory → Type 0
HasRoot places root memory = IsSome (words_of memory places root)

-- With L levels and without a recursive index, the hierarchy of each root in the memory is valid with these places of frames if and
-- only if it is valid with those.
abbrev pub AreValidAlike : (L : ℕ) → Memory → (these those : Places) → Type 0
AreValidAlike L m these those = (root : ℕ) → Valid (direct_at L these root laid_in m) ↔ Valid (direct_at L those root laid_in m)

-- With L levels and without a recursive index, each pool fits the hierarchy of each root in the memory with these places of frames
-- if and only if it does with those, whichever frames are served.
abbrev pub FitAlike : (L : ℕ) → Memory → (these those : Places) → Type 0
FitAlike L m these those = (root : ℕ) (serves : ℕ → Bool) (pool : List ℕ) → PoolFits (direct_at L these root laid_in m) serves pool ↔ PoolFits (direct_at L those root laid_in m) serves pool
