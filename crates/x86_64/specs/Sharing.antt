-- Calls on one of several address spaces that leave the entries of its root which the others share.
use Rattle.std.specs.Prelude.{ℕ, Bool, List, [], ◌∷◌}
use Rattle.x86_64_model.specs.Call.{Call}
use Rattle.x86_64_model.specs.Layout.{Layout}
use Rattle.x86_64_model.specs.Lists.{In}
use Rattle.x86_64_model.specs.Hierarchy.{Hierarchy, paths}
use Rattle.x86_64_model.specs.PathMap.{entry}
use Rattle.x86_64_model.specs.Spaces.{AreSpaces, LeavesRootEntry}
use Rattle.x86_64_model.specs.Store.{Store}

-- The root's entry at an index, which counts as 0 at the recursive index.
abbrev pub root_entries : {Lent : Type 0} → Hierarchy Lent → (index : ℕ) → ℕ
root_entries h i = entry (paths h) (i ∷ [])

-- The call changes no entry of the root at a shared index.
abbrev pub KeepsShared : {Lent : Type 0} → Hierarchy Lent → (shared : ℕ → Bool) → Call → Type 0
KeepsShared h shared call = LeavesRootEntry h.layout.levels shared (root_entries h) call

-- Whatever address spaces share these indices, with this store: if the hierarchy is one of them, they are address spaces afterwards.
abbrev pub KeepsSpaces : {Lent : Type 0} → (shared : ℕ → Bool) → (h : Hierarchy Lent) → Store → (after : Hierarchy Lent) → (rest : List ℕ) → Type 0
KeepsSpaces shared h store after rest = (spaces : List Layout) → In spaces h.layout
    → AreSpaces shared h.memory store.serves store.frames spaces → AreSpaces shared after.memory store.serves rest spaces
