-- Laws of entries that a kernel changes itself, each by one write of a word: those that name no table, and
-- flags of those that do.
use Rattle.std.specs.Prelude.{◌≡◌, ◌⊎◌, ◌<◌, ◌≤◌, ℕ, Bool, true, false, List, [], ◌∷◌, ◌++◌, length, set, unwrap_or, Some}
use Rattle.std.specs.FinMap.{get, insert}
use Rattle.x86_64_model.specs.Entry.{present, writable, user, huge, address, used, names_table}
use Rattle.x86_64_model.specs.Layout.{Layout}
use Rattle.x86_64_model.specs.Hierarchy.{◌laid_in◌, PoolFits, paths, walk, words}
use Rattle.x86_64_model.specs.Memory.{Memory, IsMapping, word}
use Rattle.x86_64_model.specs.Path.{level_of, begins}
use Rattle.x86_64_model.specs.PathMap.{entry, put, table_at}
use Rattle.x86_64_model.specs.Position.{page_path}
use Rattle.x86_64_model.specs.Store.{KeepsPool}
use Rattle.x86_64_model.specs.Window.{begins_with}

-- The entry at a path outside the recursive window is this word of a frame, which is in the memory: the
-- path without its last index leads to the frame's table, and the last index is the word's.
pub record IsInPlace (l : Layout) (m : Memory) (path : List ℕ) (frame i : ℕ) : Type 0 where
  pub above : List ℕ
  pub is : path ≡ above ++ i ∷ []
  pub leads : table_at l.levels l.root (paths (l laid_in m)) above ≡ Some frame
  pub table : List ℕ
  pub there : words (l laid_in m) frame ≡ Some table
  pub within : i < length table
  pub small : i < 512
  pub outside : begins_with l.window path ≡ false

-- The memory after a value is written to the word at an index of a frame.
abbrev pub with_word : Layout → Memory → (frame i value : ℕ) → Memory
with_word l m f i w = insert m (l.places.place f) (set (unwrap_or (get m (l.places.place f)) []) i w)

-- ---- which words

-- The word, as the entry at a path, names no table: it is of level one, or it is 0, or it has HUGE_PAGE at level two or three.
abbrev pub NamesNoTable : (L : ℕ) → List ℕ → (entry : ℕ) → Type 0
NamesNoTable L q e = (length q ≡ L) ⊎ ((e ≡ 0) ⊎ ((level_of L q ≤ 3) × (huge e ≡ true)))

-- The words e and w, as the entry at a path above level one, name the same table, present or not: e names a table, w has the same
-- address, and lacks HUGE_PAGE.
pub record NameOneTable (L : ℕ) (q : List ℕ) (e w : ℕ) : Type 0 where
  pub is_table : names_table e ≡ true
  pub above : length q < L
  pub same_address : address w ≡ address e
  pub not_huge : huge w ≡ false

-- The word w may take the place of the entry e at a path: neither names a table, or both name the same one.
abbrev pub MayReplace : (L : ℕ) → List ℕ → (e w : ℕ) → Type 0
MayReplace L q e w = (NamesNoTable L q e × NamesNoTable L q w) ⊎ NameOneTable L q e w

-- ---- what a write leaves

-- From the memory m to the memory n the path map changed at this path, to this value, and each path leads to the same table as
-- before. The pool fits the hierarchy again, and no word changed outside the frames of its tables and of the pool. Page walks at
-- positions outside the path's span and the recursive window stay.
pub record OneChanged (l : Layout) (serves : ℕ → Bool) (pool : List ℕ) (m : Memory) (path : List ℕ)
    (value : ℕ) (n : Memory) : Type 0 where
  pub changed : paths (l laid_in n) ≡ put (paths (l laid_in m)) path value
  pub tables : (q : List ℕ) → table_at l.levels l.root (paths (l laid_in n)) q
      ≡ table_at l.levels l.root (paths (l laid_in m)) q
  pub keeps : KeepsPool l serves m pool n pool
  pub walks : (p : ℕ) → begins path (page_path l.levels p) ≡ false
      → begins_with l.window (page_path l.levels p) ≡ false
      → walk (l laid_in n) p ≡ walk (l laid_in m) p

-- A kernel may write a word in place itself, at any moment between calls, if it may take the place of the entry: what the kernel
-- finds there is the entry, and what it leaves is a hierarchy with this one entry changed.
abbrev pub EntriesMayChange : Type 0
EntriesMayChange = (l : Layout) → IsMapping l.places → 0 < l.levels
    → (serves : ℕ → Bool) (m : Memory) (pool : List ℕ) → PoolFits (l laid_in m) serves pool
    → (q : List ℕ) (f i w : ℕ) → IsInPlace l m q f i → MayReplace l.levels q (entry (paths (l laid_in m)) q) w
    → (word (words (l laid_in m)) f i ≡ entry (paths (l laid_in m)) q)
    × OneChanged l serves pool m q w (with_word l m f i w)

-- Every word that is in place stays in place after a kernel has changed an entry by one write, so that any entry may be changed
-- next.
abbrev pub EntriesStayInPlace : Type 0
EntriesStayInPlace = (l : Layout) → IsMapping l.places → 0 < l.levels
    → (serves : ℕ → Bool) (m : Memory) (pool : List ℕ) → PoolFits (l laid_in m) serves pool
    → (q : List ℕ) (f i w : ℕ) → IsInPlace l m q f i → MayReplace l.levels q (entry (paths (l laid_in m)) q) w
    → (r : List ℕ) (g j : ℕ) → IsInPlace l m r g j → IsInPlace l (with_word l m f i w) r g j

-- Each used entry outside the recursive window is a word in place: it lies in a table in memory, at the last index of its path.
abbrev pub UsedEntriesAreInPlace : Type 0
UsedEntriesAreInPlace = (l : Layout) (serves : ℕ → Bool) (m : Memory) (pool : List ℕ)
    → PoolFits (l laid_in m) serves pool
    → (q : List ℕ) → used (entry (paths (l laid_in m)) q) ≡ true → begins_with l.window q ≡ false
    → (f : ℕ) × (i : ℕ) × IsInPlace l m q f i

-- ---- bits that no walk regards

-- Both words have the same address, and the same PRESENT, WRITABLE, USER_ACCESSIBLE and HUGE_PAGE, which is all that `page_walk`
-- reads. They may differ in ACCESSED, DIRTY, NO_EXECUTE and all other bits.
pub record AreUsedAlike (e w : ℕ) : Type 0 where
  pub present : present w ≡ present e
  pub writable : writable w ≡ writable e
  pub user : user w ≡ user e
  pub huge : huge w ≡ huge e
  pub address : address w ≡ address e

-- If entries differ between two memories only in bits that `page_walk` doesn't read, such as ACCESSED and DIRTY, all page walks are
-- the same, also in the recursive window.
abbrev pub WalksIgnoreBits : Type 0
WalksIgnoreBits = (l : Layout) (m n : Memory) (serves : ℕ → Bool) (pool pool' : List ℕ)
    → PoolFits (l laid_in m) serves pool → PoolFits (l laid_in n) serves pool'
    → ((q : List ℕ) → AreUsedAlike (entry (paths (l laid_in m)) q) (entry (paths (l laid_in n)) q))
    → (p : ℕ) → walk (l laid_in n) p ≡ walk (l laid_in m) p
