-- Laws of live tables: exchanges of entries between calls, and marks at any moment.
use Rattle.std.specs.Prelude.{◌≡◌, ◌⊎◌, ◌<◌, ◌≤◌, ℕ, Bool, true, false, List, [], ◌∷◌, length, map, bit_or, Option, Some, None}
use Rattle.std.specs.List.{AllByRecursion}
use Rattle.x86_64_model.specs.Entry.{IsParentFlags, has, used}
use Rattle.x86_64_model.specs.Laws.EntriesInPlace.{IsInPlace, MayReplace}
use Rattle.x86_64_model.specs.Layout.{Layout}
use Rattle.x86_64_model.specs.Lists.{In}
use Rattle.x86_64_model.specs.Live.{Happening, Marks, Placed, after_happenings, learned, after_all_placed, AllMayTakePlace, words_learned}
use Rattle.x86_64_model.specs.Hierarchy.{◌laid_in◌, Owns, PoolFits, paths, words}
use Rattle.x86_64_model.specs.Memory.{Memory, Words, IsMapping, word}
use Rattle.x86_64_model.specs.PathMap.{PathMap, entry, put, table_at}
use Rattle.x86_64_model.specs.Store.{KeepsPool}
use Rattle.x86_64_model.specs.Turns.{Touch, Reads, Writes, Exchanges, Turn, AllSee, after_turns, turns_of, KeepsApart}

-- ---- marks

-- A mark that a processor made in an entry is there now, or was in an entry that an exchange at its path has learned since. M is
-- the path map when the mark is made, and `since` are the happenings after it.
abbrev pub NoMarkIsLost : Type 0
NoMarkIsLost = (M : PathMap) (q : List ℕ) (mark : ℕ) (since : List Happening)
    → let hs = Marks q mark ∷ since in
    (has (entry (after_happenings M hs) q) mark ≡ true)
    ⊎ ((e : ℕ) × In (learned M hs) (q, e) × (has e mark ≡ true))

-- In the memory n the pool fits the hierarchy, which has the entries that the happenings leave, and the same tables. No word
-- changed outside the frames of the tables and of the pool.
pub record IsLiveAfter (l : Layout) (serves : ℕ → Bool) (pool : List ℕ) (m : Memory) (hs : List Happening)
    (n : Memory) : Type 0 where
  pub entries : paths (l laid_in n) ≡ after_happenings (paths (l laid_in m)) hs
  pub tables : (q : List ℕ) → table_at l.levels l.root (paths (l laid_in n)) q
      ≡ table_at l.levels l.root (paths (l laid_in m)) q
  pub keeps : KeepsPool l serves m pool n pool

-- Marks and exchanges of single words, in any order, leave a hierarchy for which the next call may be made, and what the exchanges
-- read in memory are the entries.
abbrev pub LiveTablesFit : Type 0
LiveTablesFit = (l : Layout) → IsMapping l.places → 0 < l.levels
    → (serves : ℕ → Bool) (m : Memory) (pool : List ℕ) → PoolFits (l laid_in m) serves pool
    → (placed : List Placed) → AllMayTakePlace l m placed
    → let hs = map (λ x. x.what) placed in IsLiveAfter l serves pool m hs (after_all_placed l m placed)
    × (words_learned l m placed ≡ learned (paths (l laid_in m)) hs)

-- Each used entry may be marked, or get any more flags but HUGE_PAGE: the new word may take its place.
abbrev pub MarksMayReplace : Type 0
MarksMayReplace = (l : Layout) (serves : ℕ → Bool) (m : Memory) (pool : List ℕ)
    → PoolFits (l laid_in m) serves pool
    → (q : List ℕ) (mark : ℕ) → IsParentFlags mark → used (entry (paths (l laid_in m)) q) ≡ true
    → length q ≤ l.levels
    → MayReplace l.levels q (entry (paths (l laid_in m)) q) (bit_or (entry (paths (l laid_in m)) q) mark)

-- ---- during calls

-- An entry may also be exchanged while a processor makes calls that don't touch its word, and the outcome is as if it were changed
-- after these calls. Here m is the memory before, `alone` the one to which the calls of processor k lead alone, and n the one to
-- which the turns of all processors lead.
abbrev pub ExchangesDuringCalls : Type 0
ExchangesDuringCalls = (l : Layout) → IsMapping l.places → 0 < l.levels
    → (owner : (frame i : ℕ) → Option ℕ) (m n : Memory) (turns : List Turn)
    → AllByRecursion (KeepsApart owner) turns → AllSee (words (l laid_in m)) turns
    → words (l laid_in n) ≡ after_turns (words (l laid_in m)) turns
    → (k : ℕ) (serves : ℕ → Bool) (pool rest : List ℕ) → PoolFits (l laid_in m) serves pool
    → (f i : ℕ) → ((h : ℕ) → Owns (l laid_in m) pool h → (j : ℕ) → ((h ≡ f) × (j ≡ i))
    ⊎ ((owner h j ≡ Some k) ⊎ (owner h j ≡ None)))
    → (alone : Memory) → words (l laid_in alone) ≡ after_turns (words (l laid_in m)) (turns_of k turns)
    → KeepsPool l serves m pool alone rest
    → (q : List ℕ) → IsInPlace l alone q f i
    → MayReplace l.levels q (entry (paths (l laid_in alone)) q) (word (words (l laid_in n)) f i)
    → PoolFits (l laid_in n) serves rest
    × (paths (l laid_in n) ≡ put (paths (l laid_in alone)) q (word (words (l laid_in n)) f i))

-- ---- the same of a word, whoever changes it

-- The turn isn't a plain write of this word, which would overwrite it without having seen it. It may read or exchange the word, or
-- touch another one.
abbrev pub DoesntWrite : (frame i : ℕ) → Turn → Type 0
DoesntWrite f i t = (k value : ℕ) → t ≡ record { processor = k; touch = Writes f i value } → ⊥

-- If no turn is a plain write of a word, flags that the word has are there at the end, or an exchange that took some of them away
-- saw all of them.
abbrev pub WhoTakesFlagsSeesThem : Type 0
WhoTakesFlagsSeesThem = (T : Words) (f i given : ℕ) (turns : List Turn) → has (word T f i) given ≡ true
    → AllSee T turns → AllByRecursion (DoesntWrite f i) turns
    → (has (word (after_turns T turns) f i) given ≡ true)
    ⊎ ((k seen value : ℕ) × In turns (record { processor = k; touch = Exchanges f i seen value })
    × (has seen given ≡ true) × (has value given ≡ false))

-- ---- reading and then writing isn't enough: worked examples

-- The turn of a processor that touches a word so.
abbrev pub by : (processor : ℕ) → Touch → Turn
by k touch = record { processor = k; touch = touch }

-- A worked example: processor 0 takes WRITABLE from a page by reading its entry and writing it again, and in between processor 1
-- writes to the page, and marks the entry as dirty. The mark is neither in the entry at the end nor in what processor 0 saw. If
-- processor 0 exchanges the entry instead, it sees the mark.
abbrev pub MarkIsLost : Type 0
MarkIsLost = (T : Words) (f i : ℕ) (table : List ℕ) → T f ≡ Some table → i < length table → i < 512
    → word T f i ≡ 0x5007
    → let read = by 0 (Reads f i 0x5007) in let mark = by 1 (Exchanges f i 0x5007 0x5067) in
    let turns = read ∷ mark ∷ by 0 (Writes f i 0x5005) ∷ [] in
    let exchanged = read ∷ mark ∷ by 0 (Exchanges f i 0x5067 0x5005) ∷ [] in
    AllSee T turns × (word (after_turns T turns) f i ≡ 0x5005) × (has 0x5007 0x40 ≡ false)
    × (has 0x5005 0x40 ≡ false)
    × AllSee T exchanged × (has 0x5067 0x40 ≡ true)

-- A worked example: a hypervisor marks the entry of a guest's page by reading and writing it, and in between the guest takes the
-- page away by an exchange, which sees no mark. The hypervisor's write puts the entry back.
abbrev pub EntryIsPutBack : Type 0
EntryIsPutBack = (T : Words) (f i : ℕ) (table : List ℕ) → T f ≡ Some table → i < length table → i < 512
    → word T f i ≡ 0x5007
    → let turns = by 0 (Reads f i 0x5007) ∷ by 1 (Exchanges f i 0x5007 0) ∷ by 0 (Writes f i 0x5067) ∷ [] in
    AllSee T turns × (word (after_turns T turns) f i ≡ 0x5067)
