-- Address spaces: hierarchies in one memory whose roots have the same entries at some indices of the highest level, and so the same
-- tables below these. Kernels share their half of the address space so, with a root for each process.
use Rattle.std.specs.Prelude.{◌≡◌, ◌≢◌, ◌<◌, ℕ, Bool, true, false, List, [], ◌∷◌, Some, bit_or}
use Rattle.x86_64_model.specs.Call.{Call, MapTo, MapToWithTableFlags, IdentityMap, Unmap, UpdateFlags, SetFlags, TranslatePage, Translate, TranslateAddress, CleanUp}
use Rattle.x86_64_model.specs.CleanUp.{meets}
use Rattle.x86_64_model.specs.Hierarchy.{◌laid_in◌, Owns, PoolFits, Valid, paths}
use Rattle.x86_64_model.specs.Layout.{Layout}
use Rattle.x86_64_model.specs.Lists.{In}
use Rattle.x86_64_model.specs.MapRule.{parent_part}
use Rattle.x86_64_model.specs.Memory.{Memory}
use Rattle.x86_64_model.specs.Path.{path_at}
use Rattle.x86_64_model.specs.PathMap.{entry, table_at}

-- Whether a path begins with a shared index.
abbrev pub is_shared : (shared : ℕ → Bool) → List ℕ → Bool
is_shared shared [] = false
is_shared shared (i ∷ q) = shared i

-- Two hierarchies share the tables below some indices of the highest level. The second is valid in the memory, with the frames
-- at the same places and the same number of levels, and its root has the entries of the first one's at the shared indices. Its
-- root and its tables that aren't below shared indices are neither tables of the first nor free frames.
pub record Shares (shared : ℕ → Bool) (first : Layout) (m : Memory) (pool : List ℕ) (second : Layout) : Type 0 where
  pub places : second.places ≡ first.places
  pub levels : second.levels ≡ first.levels
  pub valid : Valid (second laid_in m)
  pub root_entries : (i : ℕ) → shared i ≡ true → entry (paths (second laid_in m)) (i ∷ []) ≡ entry (paths (first laid_in m)) (i ∷ [])
  pub apart : (q : List ℕ) (f : ℕ) → is_shared shared q ≡ false → table_at second.levels second.root (paths (second laid_in m)) q ≡ Some f → Owns (first laid_in m) pool f → ⊥

-- Address spaces with one pool: it fits each, no two have one root, and any two share these indices.
pub record AreSpaces (shared : ℕ → Bool) (m : Memory) (serves : ℕ → Bool) (pool : List ℕ) (spaces : List Layout) : Type 0 where
  pub fits : (a : Layout) → In spaces a → PoolFits (a laid_in m) serves pool
  pub own_roots : (a b : Layout) → In spaces a → In spaces b → a.root ≡ b.root → a ≡ b
  pub share : (a b : Layout) → In spaces a → In spaces b → a.root ≢ b.root → Shares shared a m pool b

-- ---- spaces that share in pairs

-- Which indices any two roots share. If two roots share an index, each shares it with the other, and with every root that
-- shares it with one of them. For example, a kernel's root and its user's root may share one half of the address space, and the
-- roots of all kernels the other half.
pub record IsSharing (sharing : (root other : ℕ) → ℕ → Bool) : Type 0 where
  pub symmetric : (a b i : ℕ) → sharing a b i ≡ true → sharing b a i ≡ true
  pub transitive : (a b c i : ℕ) → sharing a b i ≡ true → sharing b c i ≡ true → sharing a c i ≡ true

-- Address spaces with one pool: it fits each, no two have one root, and any two share the indices that `sharing` says of their
-- roots.
pub record ArePaired (sharing : (root other : ℕ) → ℕ → Bool) (m : Memory) (serves : ℕ → Bool) (pool : List ℕ) (spaces : List Layout) : Type 0 where
  pub fits : (a : Layout) → In spaces a → PoolFits (a laid_in m) serves pool
  pub own_roots : (a b : Layout) → In spaces a → In spaces b → a.root ≡ b.root → a ≡ b
  pub share : (a b : Layout) → In spaces a → In spaces b → a.root ≢ b.root → Shares (sharing a.root b.root) a m pool b

-- ---- calls

-- The call changes nothing below a shared index: the path of its page begins with none, and no span of one overlaps the range
-- of a clean up.
abbrev pub Avoids : (L : ℕ) (shared : ℕ → Bool) → Call → Type 0
Avoids L shared (MapTo level page frame given) = is_shared shared (path_at L level page) ≡ false
Avoids L shared (MapToWithTableFlags level page frame given parent_flags) = is_shared shared (path_at L level page) ≡ false
Avoids L shared (IdentityMap level frame given) = is_shared shared (path_at L level frame) ≡ false
Avoids L shared (Unmap level page) = is_shared shared (path_at L level page) ≡ false
Avoids L shared (UpdateFlags level page given) = is_shared shared (path_at L level page) ≡ false
Avoids L shared (SetFlags at level page given) = is_shared shared (path_at L level page) ≡ false
Avoids L shared (TranslatePage level page) = Unit {0}
Avoids L shared (Translate p) = Unit {0}
Avoids L shared (TranslateAddress p) = Unit {0}
Avoids L shared (CleanUp low high) = (i : ℕ) → shared i ≡ true → meets L low high (i ∷ []) ≡ false

-- The root's entry on the path has these flags already, if the path begins with a shared index.
abbrev pub HasFlags : (shared : ℕ → Bool) → (root_entry : ℕ → ℕ) → List ℕ → (flags : ℕ) → Type 0
HasFlags shared root_entry [] given = Unit {0}
HasFlags shared root_entry (i ∷ q) given = shared i ≡ true → bit_or (root_entry i) given ≡ root_entry i

-- The call changes no entry of the root at a shared index: a map adds no flag to one, no flags are set at the highest level, and
-- no span of one overlaps the range of a clean up.
abbrev pub LeavesRootEntry : (L : ℕ) (shared : ℕ → Bool) → (root_entry : ℕ → ℕ) → Call → Type 0
LeavesRootEntry L shared root_entry (MapTo level page frame given) = HasFlags shared root_entry (path_at L level page) (parent_part given)
LeavesRootEntry L shared root_entry (MapToWithTableFlags level page frame given parent_flags) = HasFlags shared root_entry (path_at L level page) parent_flags
LeavesRootEntry L shared root_entry (IdentityMap level frame given) = HasFlags shared root_entry (path_at L level frame) (parent_part given)
LeavesRootEntry L shared root_entry (Unmap level page) = Unit {0}
LeavesRootEntry L shared root_entry (UpdateFlags level page given) = Unit {0}
LeavesRootEntry L shared root_entry (SetFlags at level page given) = is_shared shared (path_at L level page) ≡ true → at < L
LeavesRootEntry L shared root_entry (TranslatePage level page) = Unit {0}
LeavesRootEntry L shared root_entry (Translate p) = Unit {0}
LeavesRootEntry L shared root_entry (TranslateAddress p) = Unit {0}
LeavesRootEntry L shared root_entry (CleanUp low high) = (i : ℕ) → shared i ≡ true → meets L low high (i ∷ []) ≡ false
