-- Laws of several hierarchies in one memory: a call depends on the frames that its hierarchy and its pool
-- own, and on no others. So a lock for each hierarchy with a pool of its own is enough.
use Rattle.std.specs.Prelude.{◌≡◌, ◌⊎◌, ◌<◌, ℕ, Bool, true, List, Option, Some, None, IsSome}
use Rattle.std.specs.List.{AllByRecursion}
use Rattle.x86_64_model.specs.Call.{Call, Reply, IsCall}
use Rattle.x86_64_model.specs.Entry.{IsParentFlags}
use Rattle.x86_64_model.specs.Laws.Caches.{IsAfterCall}
use Rattle.x86_64_model.specs.Laws.Spaces.{KeepsRootEntries}
use Rattle.x86_64_model.specs.Layout.{Layout}
use Rattle.x86_64_model.specs.Lists.{In}
use Rattle.x86_64_model.specs.Machine.{step}
use Rattle.x86_64_model.specs.Hierarchy.{◌laid_in◌, machine_of, state_in, Owns, PoolFits, paths, walk, words}
use Rattle.x86_64_model.specs.Memory.{Memory, Words, IsMapping, word}
use Rattle.x86_64_model.specs.Pool.{TakesBack}
use Rattle.x86_64_model.specs.Spaces.{Shares, AreSpaces, Avoids}
use Rattle.x86_64_model.specs.Store.{KeepsPool}
use Rattle.x86_64_model.specs.Turns.{Turn, AllSee, after_turns, turns_of, KeepsApart}

-- ---- what a hierarchy depends on

-- A frame has the same table in the words U as in the words T: there is one if there was one, with the same
-- 512 words.
pub record SameTable (T U : Words) (frame : ℕ) : Type 0 where
  pub there : IsSome (T frame) → IsSome (U frame)
  pub words : (i : ℕ) → word U frame i ≡ word T frame i

-- The frames that the hierarchy and its pool own have the same tables in both memories.
abbrev pub SameOwned : Layout → (pool : List ℕ) → (m n : Memory) → Type 0
SameOwned l pool m n = (f : ℕ) → Owns (l laid_in m) pool f
    → SameTable (words (l laid_in m)) (words (l laid_in n)) f

-- In the memory n the pool fits the hierarchy, which has the same path map and the same page walks as in the
-- memory m, and with its pool still owns its frames. Each call has the same reply and leads to the same path
-- map and pool.
pub record IsTheSame (l : Layout) (serves : ℕ → Bool) (pool : List ℕ) (m n : Memory) : Type 0 where
  pub fits : PoolFits (l laid_in n) serves pool
  pub paths : paths (l laid_in n) ≡ paths (l laid_in m)
  pub walks : (p : ℕ) → walk (l laid_in n) p ≡ walk (l laid_in m) p
  pub owned : (f : ℕ) → Owns (l laid_in m) pool f → Owns (l laid_in n) pool f
  pub calls : (take_back : List ℕ → ℕ → List ℕ) (call : Call)
      → step (machine_of l take_back) (state_in l n pool) call
      ≡ step (machine_of l take_back) (state_in l m pool) call

-- If the frames that a hierarchy and its pool own have the same tables in two memories, the hierarchy is the
-- same in both, whatever other words are there.
abbrev pub HierarchiesAreLocal : Type 0
HierarchiesAreLocal = (l : Layout) → 0 < l.levels → (serves : ℕ → Bool) (m n : Memory) (pool : List ℕ)
    → PoolFits (l laid_in m) serves pool → SameOwned l pool m n → IsTheSame l serves pool m n

-- ---- calls

-- A call leads from the memory m and a pool to the memory n and the rest of the pool, with this reply: as
-- the machine says, with words as calls leave them, and no change outside the frames that the hierarchy and
-- its pool own.
pub record Leads (l : Layout) (take_back : List ℕ → ℕ → List ℕ) (serves : ℕ → Bool) (call : Call)
    (m : Memory) (pool : List ℕ) (reply : Reply) (n : Memory) (rest : List ℕ) : Type 0 where
  pub outcome : step (machine_of l take_back) (state_in l m pool) call
      ≡ record { state = state_in l n rest; reply = reply }
  pub after : IsAfterCall (machine_of l take_back) l.root (words (l laid_in m)) (words (l laid_in n))
      (state_in l m pool) call
  pub keeps : KeepsPool l serves m pool n rest

-- The reply, the rest of the pool and each word that the call leaves in a frame that the hierarchy or its
-- pool owns are determined by the words of these frames before.
abbrev pub CallsAreLocal : Type 0
CallsAreLocal = (l : Layout) → 0 < l.levels
    → (take_back : List ℕ → ℕ → List ℕ) (serves : ℕ → Bool) (call : Call) (pool : List ℕ)
    (m n : Memory) (reply : Reply) (rest : List ℕ) (m' n' : Memory) (reply' : Reply) (rest' : List ℕ)
    → PoolFits (l laid_in m) serves pool → SameOwned l pool m m'
    → Leads l take_back serves call m pool reply n rest
    → Leads l take_back serves call m' pool reply' n' rest'
    → (reply' ≡ reply) × (rest' ≡ rest) × SameOwned l rest n n'

-- ---- two calls, in either order

-- The frames that both hierarchies or their pools own, such as those of shared tables, have the same tables
-- in both memories.
abbrev pub LeavesShared : (a b : Layout) → (pool_a pool_b : List ℕ) → (m n : Memory) → Type 0
LeavesShared a b pool_a pool_b m n = (f : ℕ) → Owns (a laid_in m) pool_a f → Owns (b laid_in m) pool_b f
    → SameTable (words (a laid_in m)) (words (a laid_in n)) f

-- Two hierarchies in one memory, of which each has a pool that fits it.
pub record AreTwo (a b : Layout) (m : Memory) (serves_a serves_b : ℕ → Bool)
    (pool_a pool_b : List ℕ) : Type 0 where
  pub places : b.places ≡ a.places
  pub mapping : IsMapping a.places
  pub some_a : 0 < a.levels
  pub some_b : 0 < b.levels
  pub fits_a : PoolFits (a laid_in m) serves_a pool_a
  pub fits_b : PoolFits (b laid_in m) serves_b pool_b

-- Two orders of a call on the hierarchy a and a call on another one end alike: the replies and what is left
-- of the pools are the same, and every frame has the same table.
pub record SameEnds (a : Layout) (n n' : Memory) (reply_a reply_b reply_a' reply_b' : Reply)
    (rest_a rest_b rest_a' rest_b' : List ℕ) : Type 0 where
  pub replies_a : reply_a' ≡ reply_a
  pub replies_b : reply_b' ≡ reply_b
  pub pool_a : rest_a' ≡ rest_a
  pub pool_b : rest_b' ≡ rest_b
  pub tables : (f : ℕ) → SameTable (words (a laid_in n)) (words (a laid_in n')) f

-- A call on one of two hierarchies and a call on the other may be made in either order, if neither changes
-- a frame that both own.
abbrev pub CallsCommute : Type 0
CallsCommute = (a b : Layout) (m : Memory) (serves_a serves_b : ℕ → Bool) (pool_a pool_b : List ℕ)
    → AreTwo a b m serves_a serves_b pool_a pool_b
    → (take_a take_b : List ℕ → ℕ → List ℕ) (call_a call_b : Call)
    (reply_a reply_b reply_a' reply_b' : Reply) (rest_a rest_b rest_a' rest_b' : List ℕ)
    (m_a n m_b n' : Memory)
    → Leads a take_a serves_a call_a m pool_a reply_a m_a rest_a
    → Leads b take_b serves_b call_b m_a pool_b reply_b n rest_b
    → Leads b take_b serves_b call_b m pool_b reply_b' m_b rest_b'
    → Leads a take_a serves_a call_a m_b pool_a reply_a' n' rest_a'
    → LeavesShared a b pool_a pool_b m m_a → LeavesShared a b pool_a pool_b m m_b
    → SameEnds a n n' reply_a reply_b reply_a' reply_b' rest_a rest_b rest_a' rest_b'

-- ---- reads and writes in turn

-- If processors only read and write words of their own, or read words that are nobody's, it is to each as if
-- the others did nothing: it sees what it would see alone, and its words end as they would alone. Words that
-- are nobody's stay. Here `owner f i` is the processor whose own word i of frame f is, if it is anybody's.
abbrev pub TurnsAreAlone : Type 0
TurnsAreAlone = (owner : (frame i : ℕ) → Option ℕ) (T : Words) (turns : List Turn)
    → AllByRecursion (KeepsApart owner) turns → AllSee T turns
    → ((k : ℕ) → AllSee T (turns_of k turns)
    × ((f i : ℕ) → owner f i ≡ Some k → word (after_turns T turns) f i
    ≡ word (after_turns T (turns_of k turns)) f i))
    × ((f i : ℕ) → owner f i ≡ None → word (after_turns T turns) f i ≡ word T f i)
    × ((f : ℕ) → IsSome (T f) → IsSome (after_turns T turns f))

-- Calls may overlap in time if those on one hierarchy don't. What is proved of the calls of one processor
-- alone, which lead to the memory `alone`, holds in the memory n to which the turns of all processors lead,
-- if the words of the hierarchy and its pool are its own, or nobody's.
abbrev pub CallsInTurn : Type 0
CallsInTurn = (l : Layout) → 0 < l.levels
    → (owner : (frame i : ℕ) → Option ℕ) (m n : Memory) (turns : List Turn)
    → AllByRecursion (KeepsApart owner) turns
    → AllSee (words (l laid_in m)) turns → words (l laid_in n) ≡ after_turns (words (l laid_in m)) turns
    → (k : ℕ) (serves : ℕ → Bool) (pool rest : List ℕ) → PoolFits (l laid_in m) serves pool
    → ((f : ℕ) → Owns (l laid_in m) pool f → (i : ℕ) → (owner f i ≡ Some k) ⊎ (owner f i ≡ None))
    → (alone : Memory) → words (l laid_in alone) ≡ after_turns (words (l laid_in m)) (turns_of k turns)
    → KeepsPool l serves m pool alone rest
    → AllSee (words (l laid_in m)) (turns_of k turns) × IsTheSame l serves rest alone n

-- ---- address spaces

-- Two address spaces that share the tables below some indices of the highest level, each with a pool of its
-- own that fits it.
pub record AreTwoSpaces (shared : ℕ → Bool) (a b : Layout) (m : Memory) (serves_a serves_b : ℕ → Bool)
    (pool_a pool_b : List ℕ) : Type 0 where
  pub two : AreTwo a b m serves_a serves_b pool_a pool_b
  pub adds_a : IsParentFlags a.added_flags
  pub adds_b : IsParentFlags b.added_flags
  pub shares_a : Shares shared a m pool_a b
  pub shares_b : Shares shared b m pool_b a
  pub pools : (f : ℕ) → In pool_a f → In pool_b f → ⊥

-- A call on one of two address spaces with pools of their own and a call on the other may be made in either
-- order, if both avoid the indices that the two share.
abbrev pub CallsOnSpacesCommute : Type 0
CallsOnSpacesCommute = (shared : ℕ → Bool) (a b : Layout) (m : Memory) (serves_a serves_b : ℕ → Bool)
    (pool_a pool_b : List ℕ)
    → AreTwoSpaces shared a b m serves_a serves_b pool_a pool_b
    → (take_a take_b : List ℕ → ℕ → List ℕ) → TakesBack take_a → TakesBack take_b
    → (call_a call_b : Call) → IsCall a.levels call_a → IsCall b.levels call_b
    → Avoids a.levels shared call_a → Avoids b.levels shared call_b
    → (reply_a reply_b reply_a' reply_b' : Reply) (rest_a rest_b rest_a' rest_b' : List ℕ)
    (m_a n m_b n' : Memory)
    → Leads a take_a serves_a call_a m pool_a reply_a m_a rest_a
    → Leads b take_b serves_b call_b m_a pool_b reply_b n rest_b
    → Leads b take_b serves_b call_b m pool_b reply_b' m_b rest_b'
    → Leads a take_a serves_a call_a m_b pool_a reply_a' n' rest_a'
    → SameEnds a n n' reply_a reply_b reply_a' reply_b' rest_a rest_b rest_a' rest_b'

-- A call that avoids the shared indices, on one of two address spaces with pools of their own, leaves them
-- two such spaces, and changes nothing that the other one depends on.
abbrev pub SpacesStayApart : Type 0
SpacesStayApart = (shared : ℕ → Bool) (a b : Layout) (m : Memory) (serves_a serves_b : ℕ → Bool)
    (pool_a pool_b : List ℕ)
    → AreTwoSpaces shared a b m serves_a serves_b pool_a pool_b
    → (take_a : List ℕ → ℕ → List ℕ) → TakesBack take_a → (call_a : Call) → IsCall a.levels call_a
    → Avoids a.levels shared call_a
    → (reply_a : Reply) (rest_a : List ℕ) (n : Memory)
    → Leads a take_a serves_a call_a m pool_a reply_a n rest_a
    → SameOwned b pool_b m n × AreTwoSpaces shared a b n serves_a serves_b rest_a pool_b

-- Two address spaces with pools of their own, taken in either order, stay so if nothing changes that either
-- depends on. So calls may be made on any number of address spaces, of which any two are such.
abbrev pub OthersStayApart : Type 0
OthersStayApart = (shared : ℕ → Bool) (a b : Layout) (m n : Memory) (serves_a serves_b : ℕ → Bool)
    (pool_a pool_b : List ℕ)
    → AreTwoSpaces shared a b m serves_a serves_b pool_a pool_b → SameOwned a pool_a m n
    → SameOwned b pool_b m n
    → AreTwoSpaces shared a b n serves_a serves_b pool_a pool_b
    × AreTwoSpaces shared b a n serves_b serves_a pool_b pool_a

-- If the pools of two processors fit all address spaces, and no frame is in both, calls on one address space
-- with one pool, after which the root has the same entries at the shared indices, leave the other pool
-- fitting all spaces, still with no frame in both. Here `other` is the other processor's pool.
abbrev pub PoolsStayApart : Type 0
PoolsStayApart = (shared : ℕ → Bool) (spaces : List Layout) (one : Layout) → In spaces one
    → IsMapping one.places → 0 < one.levels
    → (serves serves' : ℕ → Bool) → ((f : ℕ) → serves f ≡ true → serves' f ≡ true)
    → (m n : Memory) (pool rest other : List ℕ)
    → AreSpaces shared m serves pool spaces → AreSpaces shared m serves' other spaces
    → ((f : ℕ) → In pool f → In other f → ⊥)
    → KeepsPool one serves m pool n rest → KeepsRootEntries shared one m n
    → AreSpaces shared n serves' other spaces × ((f : ℕ) → In rest f → In other f → ⊥)
