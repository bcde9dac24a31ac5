-- The steps of a run of maps: the entries of pages in one table, and the run so far.
use Rattle.std.specs.Prelude.{zero, suc, ◌≡◌, ◌+◌, ◌*◌, ◌<◌, ℕ, true, false, List, [], get_or, length, set, Some, Result, Ok, Err}
use Rattle.std.specs.FinMap.{insert}
use Rattle.x86_64_model.specs.Allowed.{parents_present}
use Rattle.x86_64_model.specs.Arrivals.{Arrives}
use Rattle.x86_64_model.specs.Call.{Reply}
use Rattle.x86_64_model.specs.Entry.{used}
use Rattle.x86_64_model.specs.Layout.{Layout}
use Rattle.x86_64_model.specs.Machine.{replies_of, state_after}
use Rattle.x86_64_model.specs.Hierarchy.{◌laid_in◌, Hierarchy, machine_of, state_in, paths, walk}
use Rattle.x86_64_model.specs.Memory.{Memory, Places, words_of}
use Rattle.x86_64_model.specs.Position.{span}
use Rattle.x86_64_model.specs.Refusal.{Refusal}
use Rattle.x86_64_mappers.specs.Ranges.{MapRange, MapsEach, maps}
use Rattle.x86_64_mappers.specs.Supplies.{Supply}
use Rattle.x86_64_mappers.specs.private.MapSteps.{KeepsOwned, IsAt, IsDown}
use Rattle.x86_64_mappers.specs.private.PageCalls.{page_word}

-- The words of a table after the entries of n pages of a level were written from index i on, with these flags, for the frames from
-- one on.
abbrev pub with_leaves : (level i frame flags : ℕ) → List ℕ → (n : ℕ) → List ℕ
with_leaves level i a given t zero = t
with_leaves level i a given t (suc n) = set (with_leaves level i a given t n) (i + n) (page_word level (a + n * span level) given)

-- Of `count` entries of a table from index i on, the first n are unused, and the next one is used if there is one.
pub record AreUnused (table : List ℕ) (i count n : ℕ) : Type 0 where
  pub unused : (j : ℕ) → j < n → used (get_or table (i + j) 0) ≡ false
  pub stops : n < count → used (get_or table (i + n) 0) ≡ true

-- In the table in the frame f, the entries of n pages of a level were written from index i on, with these flags, for the frames
-- from one on. They are the unused ones before the first used one of `count` entries.
pub record AreLeavesSet (places : Places) (m : Memory) (f level i frame flags count n : ℕ) (after : Memory) : Type 0 where
  pub table : List ℕ
  pub is : words_of m places f ≡ Some table
  pub long : length table ≡ 512
  pub free : AreUnused table i count n
  pub put : after ≡ insert m (places.place f) (with_leaves level i frame flags table n)

-- In a table of the hierarchy, the entries of n pages of a level were written from index i on, with these flags, for the frames
-- from one on. They are the unused ones before the first used one of `count` entries.
abbrev pub SetsLeaves : {Lent : Type 0} → Hierarchy Lent → (table level i frame flags count n : ℕ) → (after : Hierarchy Lent) → Type 0
SetsLeaves h f level i a given count n after = AreLeavesSet h.layout.places h.memory f level i a given count n after.memory

-- A map went down the parents of pages of a level, created missing tables from the supply, and wrote the entries of n pages from
-- index i on in the table that it came to. These are the unused ones before the first used one of `count` entries.
pub record IsPartMapped (l : Layout) (m : Memory) (s : List ℕ) (more : ℕ) (parents : List ℕ) (level i frame flags count n : ℕ) (after : Memory) (rest : List ℕ) : Type 0 where
  pub table : ℕ
  pub middle : Memory
  pub down : IsAt l m s more parents parents [] middle rest table
  pub leaves : AreLeavesSet l.places middle table level i frame flags count n after

-- By the result of a map of pages of one table: the entries of n of them were written, those before the first used one of `count`
-- entries, or the way down their parents was refused.
abbrev pub IsPart : (l : Layout) (m : Memory) (s : List ℕ) (more : ℕ) (parents : List ℕ) (level i frame flags count : ℕ) → Result ℕ Refusal → (after : Memory) (rest : List ℕ) → Type 0
IsPart l m s more parents level i a given count (Ok n) after rest = IsPartMapped l m s more parents level i a given count n after rest
IsPart l m s more parents level i a given count (Err why) after rest = IsDown l m s more parents (Err why) after rest

-- The entries of pages of one table of the hierarchy were written, those before the first used one of `count` entries, or the way
-- down their parents was refused. The supply is `rest` then, and serves the same frames.
pub record MapsPart {Lent : Type 0} (h : Hierarchy Lent) (supply : Supply) (parent_flags : ℕ) (parents : List ℕ) (level i frame flags count : ℕ) (result : Result ℕ Refusal) (after : Hierarchy Lent) (rest : Supply) : Type 0 where
  pub part : IsPart h.layout h.memory supply.frames parent_flags parents level i frame flags count result after.memory rest.frames
  pub serves : rest.serves ≡ supply.serves

-- What the maps of the first `count` pages of a range, one after another, leave in a memory, with the rest of the supply. Each does
-- what a single map does, and replies and state are the machine's. Each page walk that arrived still arrives at the same address,
-- loses no right, and gains only rights that the parent flags grant.
pub record IsRangeRun (l : Layout) (m : Memory) (s : List ℕ) (r : MapRange) (count : ℕ) (answers : List Reply) (n : Memory) (rest : List ℕ) : Type 0 where
  pub replies : (take_back : List ℕ → ℕ → List ℕ) → replies_of (machine_of l take_back) (state_in l m s) (maps r count) ≡ answers
  pub state : (take_back : List ℕ → ℕ → List ℕ) → state_after (machine_of l take_back) (state_in l m s) (maps r count) ≡ state_in l n rest
  pub owned : KeepsOwned l m s n rest
  pub walks : (p : ℕ) → Arrives r.parent_flags (walk (l laid_in m) p) (walk (l laid_in n) p)
  pub each : MapsEach (l laid_in m) s r count answers (l laid_in n) rest
  pub parents : (q : List ℕ) → parents_present (paths (l laid_in m)) r.parent_flags q ≡ true → parents_present (paths (l laid_in n)) r.parent_flags q ≡ true
