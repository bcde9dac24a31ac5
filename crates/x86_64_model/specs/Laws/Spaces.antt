-- Laws of hierarchies that share the tables below some indices of the highest level.
use Rattle.std.specs.Prelude.{◌≡◌, ◌≢◌, ◌<◌, ◌||◌, ℕ, Bool, true, false, List, [], ◌∷◌, length, IsSome}
use Rattle.std.specs.List.{AllByRecursion}
use Rattle.x86_64_model.specs.Call.{Call}
use Rattle.x86_64_model.specs.CleanUp.{clean_up}
use Rattle.x86_64_model.specs.Entry.{IsParentFlags, used, present, huge}
use Rattle.x86_64_model.specs.Store.{KeepsPool}
use Rattle.x86_64_model.specs.Laws.Steps.{AllCalls}
use Rattle.x86_64_model.specs.Layout.{Layout}
use Rattle.x86_64_model.specs.Lists.{In}
use Rattle.x86_64_model.specs.Machine.{state_after}
use Rattle.x86_64_model.specs.Hierarchy.{◌laid_in◌, machine_of, state_in, KeepsOthers, Owns, PoolFits, Valid, paths, walk, words}
use Rattle.x86_64_model.specs.Memory.{Memory, IsMapping, word}
use Rattle.x86_64_model.specs.Path.{is_below}
use Rattle.x86_64_model.specs.PathMap.{PathMap, entry}
use Rattle.x86_64_model.specs.Pool.{TakesBack}
use Rattle.x86_64_model.specs.Position.{page_path}
use Rattle.x86_64_model.specs.Spaces.{is_shared, Shares, AreSpaces, IsSharing, ArePaired, Avoids, LeavesRootEntry}
use Rattle.x86_64_model.specs.Window.{SelfEntry, outside_window, begins_with}

-- After the memory m became n, the second hierarchy is valid. Below the shared indices it is as the first one is now, elsewhere
-- as it was, and if the pool fitted it, the rest does. Both share again, so that the calls that follow may be on either.
pub record StaysSharing (shared : ℕ → Bool) (first second : Layout) (serves : ℕ → Bool) (m : Memory) (pool : List ℕ) (n : Memory) (rest : List ℕ) : Type 0 where
  pub valid : Valid (second laid_in n)
  pub below_shared : (q : List ℕ) → is_shared shared q ≡ true → entry (paths (second laid_in n)) q ≡ entry (paths (first laid_in n)) q
  pub elsewhere : (q : List ℕ) → is_shared shared q ≡ false → entry (paths (second laid_in n)) q ≡ entry (paths (second laid_in m)) q
  pub fits : PoolFits (second laid_in m) serves pool → PoolFits (second laid_in n) serves rest
  pub shares : Shares shared first n rest second
  pub first_shares : Shares shared second n rest first

-- The root's entries at the shared indices are the same in both memories.
abbrev pub KeepsRootEntries : (shared : ℕ → Bool) → Layout → (m n : Memory) → Type 0
KeepsRootEntries shared layout m n = (i : ℕ) → shared i ≡ true → entry (paths (layout laid_in n)) (i ∷ []) ≡ entry (paths (layout laid_in m)) (i ∷ [])

-- All entries below the shared indices are the same in both memories.
abbrev pub KeepsBelow : (shared : ℕ → Bool) → Layout → (m n : Memory) → Type 0
KeepsBelow shared layout m n = (q : List ℕ) → is_shared shared q ≡ true → entry (paths (layout laid_in n)) q ≡ entry (paths (layout laid_in m)) q

-- ---- two hierarchies

-- Two hierarchies that share have the same entries below the shared indices, if a pool fits the first.
abbrev pub SharedEntriesAreTheSame : Type 0
SharedEntriesAreTheSame = (shared : ℕ → Bool) (first second : Layout) → IsMapping first.places → 0 < first.levels
    → (serves : ℕ → Bool) (m : Memory) (pool : List ℕ)
    → PoolFits (first laid_in m) serves pool → Shares shared first m pool second → (q : List ℕ) → is_shared shared q ≡ true
    → entry (paths (second laid_in m)) q ≡ entry (paths (first laid_in m)) q

-- If two hierarchies share, a pool fits the first, and calls on it conserve its frames, change no others, and keep the root's
-- entries at the shared indices, both share again. The second is then valid, has below the shared indices what the first has
-- now, and elsewhere what it had.
abbrev pub SharedTablesStay : Type 0
SharedTablesStay = (shared : ℕ → Bool) (first second : Layout) → IsMapping first.places → 0 < first.levels
    → (serves : ℕ → Bool) (m n : Memory) (pool rest : List ℕ)
    → PoolFits (first laid_in m) serves pool → KeepsPool first serves m pool n rest → KeepsRootEntries shared first m n
    → Shares shared first m pool second → StaysSharing shared first second serves m pool n rest

-- If two hierarchies share, a pool fits the first, and calls on it conserve its frames, change no others, and change nothing
-- below the shared indices, both share again, and the second keeps its path map.
abbrev pub SharedHalvesStay : Type 0
SharedHalvesStay = (shared : ℕ → Bool) (first second : Layout) → IsMapping first.places → 0 < first.levels
    → (serves : ℕ → Bool) (m n : Memory) (pool rest : List ℕ)
    → PoolFits (first laid_in m) serves pool → KeepsPool first serves m pool n rest → KeepsBelow shared first m n
    → Shares shared first m pool second → StaysSharing shared first second serves m pool n rest × (paths (second laid_in n) ≡ paths (second laid_in m))

-- ---- what the processor sees

-- Two hierarchies that share, the first with a pool that fits, have the same page walks at positions (the numbers of addresses
-- counted without the gap) below the shared indices and outside their recursive windows.
abbrev pub SharedWalksAreTheSame : Type 0
SharedWalksAreTheSame = (shared : ℕ → Bool) (first second : Layout) → IsMapping first.places → 0 < first.levels
    → (serves : ℕ → Bool) (m : Memory) (pool : List ℕ)
    → PoolFits (first laid_in m) serves pool → Shares shared first m pool second
    → (p : ℕ) → is_shared shared (page_path first.levels p) ≡ true → begins_with first.window (page_path first.levels p) ≡ false
    → begins_with second.window (page_path second.levels p) ≡ false
    → walk (second laid_in m) p ≡ walk (first laid_in m) p

-- If two hierarchies share, a pool fits the first, and calls on it conserve its frames, change no others, and keep the root's
-- entries at the shared indices, the page walks of the second stay at positions (the numbers of addresses counted without the
-- gap) that aren't below shared indices, outside its recursive window.
abbrev pub WalksStay : Type 0
WalksStay = (shared : ℕ → Bool) (first second : Layout) → IsMapping first.places → 0 < first.levels
    → (serves : ℕ → Bool) (m n : Memory) (pool rest : List ℕ)
    → PoolFits (first laid_in m) serves pool → KeepsPool first serves m pool n rest → KeepsRootEntries shared first m n → Shares shared first m pool second
    → (p : ℕ) → is_shared shared (page_path second.levels p) ≡ false → begins_with second.window (page_path second.levels p) ≡ false
    → walk (second laid_in n) p ≡ walk (second laid_in m) p

-- ---- which calls do so

-- A list of calls led from the memory m and a pool to the memory n and the rest of the pool.
abbrev pub Led : (layout : Layout) → (take_back : List ℕ → ℕ → List ℕ) → (m : Memory) → (pool : List ℕ) → List Call → (n : Memory) → (rest : List ℕ) → Type 0
Led layout take_back m pool calls n rest = state_in layout n rest ≡ state_after (machine_of layout take_back) (state_in layout m pool) calls

-- Calls that avoid the shared indices change nothing below them.
abbrev pub CallsKeepBelow : Type 0
CallsKeepBelow = (shared : ℕ → Bool) (layout : Layout) → IsParentFlags layout.added_flags → (take_back : List ℕ → ℕ → List ℕ) → TakesBack take_back
    → (serves : ℕ → Bool) (m n : Memory) (pool rest : List ℕ) (calls : List Call) → AllCalls layout.levels calls
    → PoolFits (layout laid_in m) serves pool → Led layout take_back m pool calls n rest
    → AllByRecursion (Avoids layout.levels shared) calls → KeepsBelow shared layout m n

-- If each call of a list adds and sets no flags in the root's entries at the shared indices, and cleans up elsewhere, all calls
-- together leave these entries, with at least four levels.
abbrev pub CallsKeepRootEntries : Type 0
CallsKeepRootEntries = (shared : ℕ → Bool) (layout : Layout) → 3 < layout.levels → IsParentFlags layout.added_flags
    → (take_back : List ℕ → ℕ → List ℕ) → TakesBack take_back
    → (serves : ℕ → Bool) (m n : Memory) (pool rest : List ℕ) (calls : List Call) → AllCalls layout.levels calls
    → PoolFits (layout laid_in m) serves pool → Led layout take_back m pool calls n rest
    → AllByRecursion (LeavesRootEntry layout.levels shared (λ i. entry (paths (layout laid_in m)) (i ∷ []))) calls → KeepsRootEntries shared layout m n

-- A clean up keeps the root's entry at an index if something below it is used and isn't a present table entry, for example a page.
abbrev pub PinnedEntriesStay : Type 0
PinnedEntriesStay = (L : ℕ) (M : PathMap) (low high i : ℕ) (q : List ℕ) → is_below (i ∷ []) q ≡ true → used (entry M q) ≡ true
    → (length q < L → present (entry M q) ≡ true → huge (entry M q) ≡ true) → entry (clean_up L M low high).paths (i ∷ []) ≡ entry M (i ∷ [])

-- ---- any number of them

-- A hierarchy that the pool fits is an address space, if there is no other.
abbrev pub OneIsASpace : Type 0
OneIsASpace = (shared : ℕ → Bool) (one : Layout) (serves : ℕ → Bool) (m : Memory) (pool : List ℕ) → PoolFits (one laid_in m) serves pool
    → AreSpaces shared m serves pool (one ∷ [])

-- If calls on one of many address spaces conserve its frames, change no others, and keep its root's entries at the shared
-- indices, all are address spaces again, with the rest of the pool.
abbrev pub SpacesStay : Type 0
SpacesStay = (shared : ℕ → Bool) (spaces : List Layout) (one : Layout) → In spaces one → IsMapping one.places → 0 < one.levels
    → (serves : ℕ → Bool) (m n : Memory) (pool rest : List ℕ)
    → AreSpaces shared m serves pool spaces → KeepsPool one serves m pool n rest → KeepsRootEntries shared one m n
    → AreSpaces shared n serves rest spaces

-- ---- pairs

-- Address spaces that all share the same indices share them in pairs.
abbrev pub SpacesArePaired : Type 0
SpacesArePaired = (shared : ℕ → Bool) (m : Memory) (serves : ℕ → Bool) (pool : List ℕ) (spaces : List Layout)
    → AreSpaces shared m serves pool spaces → ArePaired (λ a b. shared) m serves pool spaces

-- If calls on one of many address spaces that share in pairs conserve its frames, change no others, and keep its root's entries
-- at the indices that it shares with any other, all are address spaces that share in pairs again, with the rest of the pool.
abbrev pub PairedSpacesStay : Type 0
PairedSpacesStay = (sharing : (root other : ℕ) → ℕ → Bool) → IsSharing sharing → (spaces : List Layout) (one : Layout) → In spaces one → IsMapping one.places → 0 < one.levels
    → (serves : ℕ → Bool) (m n : Memory) (pool rest : List ℕ)
    → ArePaired sharing m serves pool spaces → KeepsPool one serves m pool n rest
    → ((b : Layout) → In spaces b → one.root ≢ b.root → KeepsRootEntries (sharing one.root b.root) one m n)
    → ArePaired sharing n serves rest spaces

-- ---- one more, or one less

-- From the memory m to n a frame became the root of a new hierarchy. Its words are the entries of the first one's root at the
-- shared indices, and 0 elsewhere but for a self-entry. Other frames keep their words.
pub record IsNewRoot (shared : ℕ → Bool) (first : Layout) (m n : Memory) (new : Layout) : Type 0 where
  pub places : new.places ≡ first.places
  pub levels : new.levels ≡ first.levels
  pub there : IsSome (words (new laid_in n) new.root)
  pub copied : (i : ℕ) → shared i ≡ true → word (outside_window new.window new.root (words (new laid_in n))) new.root i ≡ entry (paths (first laid_in m)) (i ∷ [])
  pub empty : (i : ℕ) → shared i ≡ false → word (outside_window new.window new.root (words (new laid_in n))) new.root i ≡ 0
  pub self : SelfEntry (words (new laid_in n)) new.root new.window
  pub others : KeepsOthers (λ f. f ≡ new.root) (first laid_in m) (first laid_in n)

-- A frame of the pool becomes the root of one more address space, if its words are another root's entries at the shared
-- indices, and 0 elsewhere but for a self-entry.
abbrev pub NewSpaces : Type 0
NewSpaces = (shared : ℕ → Bool) (spaces : List Layout) (first new : Layout) → In spaces first → IsMapping first.places → 0 < first.levels
    → (serves : ℕ → Bool) (m n : Memory) (rest : List ℕ)
    → AreSpaces shared m serves (new.root ∷ rest) spaces → IsNewRoot shared first m n new → AreSpaces shared n serves rest (new ∷ spaces)

-- The root of an address space that is given up may go back to the pool, if it is served and isn't frame 0: the others are
-- address spaces with this pool.
abbrev pub SpacesAreGivenUp : Type 0
SpacesAreGivenUp = (shared : ℕ → Bool) (gone : Layout) (spaces : List Layout) → (In spaces gone → ⊥) → IsMapping gone.places
    → (take_back : List ℕ → ℕ → List ℕ) → TakesBack take_back
    → (serves : ℕ → Bool) → serves gone.root ≡ true → gone.root ≢ 0 → (m : Memory) (pool : List ℕ) → AreSpaces shared m serves pool (gone ∷ spaces)
    → AreSpaces shared m serves (take_back pool gone.root) spaces

-- If an address space that is given up had no tables but its root and the shared ones, no frame is lost when its root goes back
-- to the pool: what it owned any other one owns with the pool.
abbrev pub NoFrameIsLost : Type 0
NoFrameIsLost = (shared : ℕ → Bool) (gone other : Layout) (spaces : List Layout) → (In spaces gone → ⊥) → In spaces other
    → IsMapping gone.places → 0 < gone.levels → (take_back : List ℕ → ℕ → List ℕ) → TakesBack take_back
    → (serves : ℕ → Bool) (m : Memory) (pool : List ℕ) → AreSpaces shared m serves pool (gone ∷ spaces)
    → ((i : ℕ) → shared i ≡ false → entry (paths (gone laid_in m)) (i ∷ []) ≡ 0) → (f : ℕ) → Owns (gone laid_in m) pool f → Owns (other laid_in m) (take_back pool gone.root) f

-- ---- more shared indices

-- Indices at which all roots are unused need not count as shared, so that calls on one space may use them.
abbrev pub FewerAreShared : Type 0
FewerAreShared = (shared fewer : ℕ → Bool) (serves : ℕ → Bool) (m : Memory) (pool : List ℕ) (spaces : List Layout)
    → ((i : ℕ) → fewer i ≡ true → shared i ≡ true)
    → ((a : Layout) → In spaces a → (i : ℕ) → shared i ≡ true → fewer i ≡ false → entry (paths (a laid_in m)) (i ∷ []) ≡ 0)
    → AreSpaces shared m serves pool spaces → AreSpaces fewer m serves pool spaces

-- From the memory m to n all roots but the first one's got its entries at more indices, beside their self-entries. No other word
-- changed.
pub record AreSynced (more : ℕ → Bool) (first : Layout) (spaces : List Layout) (m n : Memory) : Type 0 where
  pub there : (b : Layout) → In spaces b → first.root ≢ b.root → IsSome (words (b laid_in n) b.root)
  pub synced : (b : Layout) → In spaces b → first.root ≢ b.root → (i : ℕ) → more i ≡ true → word (outside_window b.window b.root (words (b laid_in n))) b.root i ≡ entry (paths (first laid_in m)) (i ∷ [])
  pub kept : (b : Layout) → In spaces b → first.root ≢ b.root → (i : ℕ) → more i ≡ false → word (outside_window b.window b.root (words (b laid_in n))) b.root i ≡ entry (paths (b laid_in m)) (i ∷ [])
  pub self : (b : Layout) → In spaces b → first.root ≢ b.root → SelfEntry (words (b laid_in n)) b.root b.window
  pub others : KeepsOthers (λ f. (b : Layout) × (In spaces b) × (first.root ≢ b.root) × (f ≡ b.root)) (first laid_in m) (first laid_in n)

-- If all roots of address spaces get the entries of one of them at more indices, and no other word changes, they share these
-- indices too.
abbrev pub SyncedSpaces : Type 0
SyncedSpaces = (shared more : ℕ → Bool) (spaces : List Layout) (first : Layout) → In spaces first → IsMapping first.places
    → 0 < first.levels → (serves : ℕ → Bool) (m n : Memory) (pool : List ℕ)
    → AreSpaces shared m serves pool spaces → AreSynced more first spaces m n → AreSpaces (λ i. shared i || more i) n serves pool spaces
