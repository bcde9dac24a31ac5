-- How a clean up goes down the tables: where it is, and what it has changed so far.
use Rattle.std.specs.Prelude.{◌≡◌, ◌≢◌, ◌⊎◌, ◌≤◌, ◌+◌, ℕ, true, false, List, [], ◌∷◌, ◌++◌, length, Some, IsSome}
use Rattle.x86_64_model.proofs.Lemmas.CleanUps.Below.{cleaned_below, back_below, Visits}
use Rattle.x86_64_model.specs.CleanUp.{in_range, meets}
use Rattle.x86_64_model.specs.Entry.{address}
use Rattle.x86_64_model.specs.Layout.{Layout}
use Rattle.x86_64_model.specs.Lists.{In}
use Rattle.x86_64_model.specs.Hierarchy.{◌laid_in◌, Hierarchy, KeepsOthers, Valid, paths, words}
use Rattle.x86_64_model.specs.Memory.{Memory, word}
use Rattle.x86_64_model.specs.Path.{AllBelow, span_start}
use Rattle.x86_64_model.specs.PathMap.{PathMap, entry, put, table_at}
use Rattle.x86_64_model.specs.Pool.{IsTable, with_returned}
use Rattle.x86_64_model.specs.Store.{Store}
use Rattle.x86_64_model.specs.Window.{begins_with}
use Rattle.x86_64_mappers.specs.CleanUps.{CleansUpInto}
use Rattle.x86_64_mappers.specs.CleanUpsBelowRoot.{CleansUpBelowRoot}

-- ---- the range

-- The position (an address counted without the non-canonical gap) of the last byte of the 4KiB page with a path, with L levels of
-- tables.
abbrev pub last_position : (L : ℕ) → List ℕ → ℕ
last_position L q = span_start L q + 0xfff

-- These are the paths of the first and of the last 4KiB page of a range that isn't empty, with L levels of tables.
pub record IsPageRange (L : ℕ) (first last : List ℕ) : Type 0 where
  pub first_long : length first ≡ L
  pub last_long : length last ≡ L
  pub first_below : AllBelow first
  pub last_below : AllBelow last
  pub in_order : span_start L first ≤ last_position L last

-- ---- where it is

-- The path isn't in the recursive window and leads to the table in the frame. Each entry on it is a present table entry whose
-- span meets the positions from low to high.
pub record IsVisited (l : Layout) (m : Memory) (low high : ℕ) (path : List ℕ) (frame : ℕ) : Type 0 where
  pub leads : table_at l.levels l.root (paths (l laid_in m)) path ≡ Some frame
  pub visits : Visits l.levels (paths (l laid_in m)) low high path
  pub below : AllBelow path
  pub outside : begins_with l.window path ≡ false

-- ---- what it has changed

-- A clean up led from the memory m and the held frames to the memory n and the frames rest. The words now mean the path map N,
-- whose tables were tables before. The frames in back were returned: they were tables, are none now, and hold only zero words.
-- Words outside the root and the tables did not change.
pub record IsCleaned (l : Layout) (take_back : List ℕ → ℕ → List ℕ) (m : Memory) (held : List ℕ) (N : PathMap) (back : List ℕ) (n : Memory) (rest : List ℕ) : Type 0 where
  pub meant : paths (l laid_in n) ≡ N
  pub valid : Valid (l laid_in n)
  pub given : rest ≡ with_returned take_back held back
  pub left : (q : List ℕ) (f : ℕ) → table_at l.levels l.root (paths (l laid_in n)) q ≡ Some f → table_at l.levels l.root (paths (l laid_in m)) q ≡ Some f
  pub were : (f : ℕ) → In back f → IsTable l.levels l.root (paths (l laid_in m)) f
  pub gone : (f : ℕ) → In back f → IsTable l.levels l.root (paths (l laid_in n)) f → ⊥
  pub empty : (f : ℕ) → In back f → (i : ℕ) → word (words (l laid_in n)) f i ≡ 0
  pub there : (f : ℕ) → IsSome (words (l laid_in m) f) → IsSome (words (l laid_in n) f)
  pub others : KeepsOthers (IsTable l.levels l.root (paths (l laid_in m))) (l laid_in m) (l laid_in n)

-- The path map N and the returned frames after the clean up of the entry at the path r. An entry outside the range stays. For an
-- entry in range, the tables below are cleaned up first. Then the entry stays if its table still has a used entry, and otherwise
-- it becomes unused and its table's frame is returned.
abbrev pub IsEntryCleaned : (L : ℕ) → PathMap → (low high : ℕ) → (r : List ℕ) → (N : PathMap) → (back : List ℕ) → Type 0
IsEntryCleaned L M low high r N back =
    ((in_range L M low high r ≡ false) × (N ≡ M) × (back ≡ []))
    ⊎ ((in_range L M low high r ≡ true) × ((j : ℕ) × (entry (cleaned_below L M low high r) (r ++ j ∷ []) ≢ 0)) × (N ≡ cleaned_below L M low high r) × (back ≡ back_below L M low high r))
    ⊎ ((in_range L M low high r ≡ true) × ((j : ℕ) → entry (cleaned_below L M low high r) (r ++ j ∷ []) ≡ 0) × (N ≡ put (cleaned_below L M low high r) r 0) × (back ≡ back_below L M low high r ++ address (entry M r) ∷ []))

-- The entry at the path r, with all tables below it, was cleaned up for the positions from low to high. The clean up led from the
-- memory m and the held frames to the memory n and the frames rest.
pub record IsCleanedAt (l : Layout) (take_back : List ℕ → ℕ → List ℕ) (m : Memory) (held : List ℕ) (low high : ℕ) (r : List ℕ) (n : Memory) (rest : List ℕ) : Type 0 where
  pub N : PathMap
  pub back : List ℕ
  pub rule : IsEntryCleaned l.levels (paths (l laid_in m)) low high r N back
  pub cleaned : IsCleaned l take_back m held N back n rest

-- ---- a clean up of the pages from a first to a last one, given by their paths

-- A clean up of the pages from a first to a last one, given by their paths, is at the table in the frame, to which the path leads.
abbrev pub VisitsTable : {Lent : Type 0} → Hierarchy Lent → (first last path : List ℕ) → (frame : ℕ) → Type 0
VisitsTable h first last path frame = IsVisited h.layout h.memory (span_start h.layout.levels first) (last_position h.layout.levels last) path frame

-- The span of the entry at the path meets the pages from a first to a last one, given by their paths.
abbrev pub MeetsPages : {Lent : Type 0} → Hierarchy Lent → (first last path : List ℕ) → Type 0
MeetsPages h first last path = meets h.layout.levels (span_start h.layout.levels first) (last_position h.layout.levels last) path ≡ true

-- The tables below the table that the path leads to were cleaned up for the pages from a first to a last one, given by their paths.
-- The store is `rest` then, and serves the same frames.
pub record CleansBelow {Lent : Type 0} (h : Hierarchy Lent) (store : Store) (first last path : List ℕ) (after : Hierarchy Lent) (rest : Store) : Type 0 where
  pub below : IsCleaned h.layout store.take_back h.memory store.frames (cleaned_below h.layout.levels (paths h) (span_start h.layout.levels first) (last_position h.layout.levels last) path)
      (back_below h.layout.levels (paths h) (span_start h.layout.levels first) (last_position h.layout.levels last) path) after.memory rest.frames
  pub serves : rest.serves ≡ store.serves

-- The entry at the path, with all tables below it, was cleaned up for the pages from a first to a last one, given by their paths.
-- The store is `rest` then, and serves the same frames.
pub record CleansEntry {Lent : Type 0} (h : Hierarchy Lent) (store : Store) (first last path : List ℕ) (after : Hierarchy Lent) (rest : Store) : Type 0 where
  pub cleaned : IsCleanedAt h.layout store.take_back h.memory store.frames (span_start h.layout.levels first) (last_position h.layout.levels last) path after.memory rest.frames
  pub serves : rest.serves ≡ store.serves

-- The hierarchy was cleaned up for the pages from a first to a last one, given by their paths, and is `after` then. The frames of
-- the removed tables were returned to the store, which is `rest` then.
abbrev pub CleansUpPages : {Lent : Type 0} → Hierarchy Lent → Store → (first last : List ℕ) → (after : Hierarchy Lent) → (rest : Store) → Type 0
CleansUpPages h store first last after rest = CleansUpInto h store (span_start h.layout.levels first) (last_position h.layout.levels last) after rest

-- The hierarchy was cleaned up below the root's entries for the pages from a first to a last one, given by their paths, and is `after`
-- then. The frames of the removed tables were returned to the store, which is `rest` then.
abbrev pub CleansUpPagesBelowRoot : {Lent : Type 0} → Hierarchy Lent → Store → (first last : List ℕ) → (after : Hierarchy Lent) → (rest : Store) → Type 0
CleansUpPagesBelowRoot h store first last after rest = CleansUpBelowRoot h store (span_start h.layout.levels first) (last_position h.layout.levels last) after rest
