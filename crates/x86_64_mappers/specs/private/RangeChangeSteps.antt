-- The steps of runs of calls that each change at most the entry of one page: the entries in one table.
use Rattle.std.specs.Prelude.{zero, suc, ◌≡◌, ◌⊎◌, ◌<◌, ◌≤◌, ◌+◌, ◌-◌, ◌*◌, ℕ, List, get_or, length, set, take, map, replicate, Option, Some, None, Result, Ok, Err}
use Rattle.std.specs.FinMap.{insert}
use Rattle.std.specs.List.{range_with_len}
use Rattle.x86_64_model.specs.Call.{Call, Reply, Answered}
use Rattle.x86_64_model.specs.Layout.{Layout}
use Rattle.x86_64_model.specs.Machine.{replies_of, state_after}
use Rattle.x86_64_model.specs.Hierarchy.{◌laid_in◌, Hierarchy, machine_of, state_in, KeepsOthers, SupplyFits, Valid, paths}
use Rattle.x86_64_model.specs.Memory.{Memory, words_of}
use Rattle.x86_64_model.specs.Path.{path_at}
use Rattle.x86_64_model.specs.PathMap.{table_at}
use Rattle.x86_64_model.specs.Pool.{IsTable}
use Rattle.x86_64_model.specs.Position.{span}
use Rattle.x86_64_model.specs.Refusal.{Refusal, Refused}
use Rattle.x86_64_mappers.specs.private.EntryCalls.{word_said, answer_said}
use Rattle.x86_64_mappers.specs.private.Stops.{IsFound}

-- The words of a table after one call on each of n entries, from index i on. The function `says` tells an entry's new word and the
-- frame in the answer, or the refusal, by its old word.
abbrev pub with_results : (says : ℕ → Result (ℕ × ℕ) Refusal) → (i : ℕ) → List ℕ → (n : ℕ) → List ℕ
with_results says i t zero = t
with_results says i t (suc n) = set (with_results says i t n) (i + n) (word_said (get_or t (i + n) 0) (says (get_or t (i + n) 0)))

-- The replies of one call on each of n entries of a table, from index i on, by the table's words before. The function `says` tells
-- an entry's new word and the frame in the answer, or the refusal, by its old word.
abbrev pub replies_said : (says : ℕ → Result (ℕ × ℕ) Refusal) → (i : ℕ) → List ℕ → (n : ℕ) → List Reply
replies_said says i t n = map (λ k. Answered (answer_said (says (get_or t (i + k) 0)))) (range_with_len 0 n)

-- How many calls were done, for one call: 1 if there is no refusal, 0 if there is one.
abbrev pub count_unless : Option Refusal → ℕ
count_unless None = 1
count_unless (Some why) = 0

-- The `count` entries from index i on of the table below a page's parents were changed by one call each, with these replies. The
-- function `says` tells an entry's new word and the frame in the answer, or the refusal, by its old word.
pub record AreChanged (l : Layout) (m : Memory) (parents : List ℕ) (says : ℕ → Result (ℕ × ℕ) Refusal) (i count : ℕ) (answers : List Reply) (n : Memory) : Type 0 where
  pub frame : ℕ
  pub found : IsFound l m parents (Ok frame)
  pub table : List ℕ
  pub is : words_of m l.places frame ≡ Some table
  pub long : length table ≡ 512
  pub put : n ≡ insert m (l.places.place frame) (with_results says i table count)
  pub replies : answers ≡ replies_said says i table count

-- The path of the table with the entry at a path: all indices but the last.
abbrev pub table_path : List ℕ → List ℕ
table_path q = take (length q - 1) q

-- The index of the entry at a path in its table, which is the path's last index.
abbrev pub last_index : List ℕ → ℕ
last_index q = get_or q (length q - 1) 0

-- For this one reason parents refuse each of the first `count` pages of a level, from a page on, in the memory.
abbrev pub AreStoppedIn : Layout → Memory → (level page count : ℕ) → Refusal → Type 0
AreStoppedIn l m level page count why = (k : ℕ) → k < count → IsFound l m (table_path (path_at l.levels level (page + k * span level))) (Err why)

-- For this one reason parents refuse each of the first `count` pages of a level, from a page on, in the hierarchy.
abbrev pub AreStopped : {Lent : Type 0} → Hierarchy Lent → (level page count : ℕ) → Refusal → Type 0
AreStopped h level page count why = AreStoppedIn h.layout h.memory level page count why

-- Parents refused the calls on the first `count` pages of a level, from a page on, all for one reason, and nothing changed.
pub record AreRefused (l : Layout) (m : Memory) (level page count : ℕ) (answers : List Reply) (n : Memory) : Type 0 where
  pub why : Refusal
  pub stopped : AreStoppedIn l m level page count why
  pub same : n ≡ m
  pub replies : answers ≡ replicate count (Answered (Refused why))

-- The entries of the first `count` pages of a level, from a page on, which are all in one table, were changed by one call each, or
-- parents refused all these calls. The function `says` tells an entry's new word and the frame in the answer, or the refusal, by
-- its old word.
abbrev pub IsPartChanged : Layout → Memory → (level page : ℕ) → (says : ℕ → Result (ℕ × ℕ) Refusal) → (count : ℕ) → (answers : List Reply) → Memory → Type 0
IsPartChanged l m level page says count answers n = let q = path_at l.levels level page in
    (last_index q + count ≤ 512) × AreChanged l m (table_path q) says (last_index q) count answers n ⊎ AreRefused l m level page count answers n

-- The entries of the first `count` pages of a level, from a page on, which are all in one table of the hierarchy, were changed by
-- one call each, or parents refused all these calls. The function `says` tells an entry's new word and the frame in the answer, or
-- the refusal, by its old word.
abbrev pub ChangesPart : {Lent : Type 0} → Hierarchy Lent → (level page : ℕ) → (says : ℕ → Result (ℕ × ℕ) Refusal) → (count : ℕ) → (answers : List Reply) → (after : Hierarchy Lent) → Type 0
ChangesPart h level page says count answers after = IsPartChanged h.layout h.memory level page says count answers after.memory

-- What calls that each change at most one page's entry leave in a memory if they are made one after another. Replies and state are
-- the machine's, the hierarchy is valid, and a supply that fitted still fits. Each table stays where it is, and only words in the
-- root and the tables change.
pub record IsChangeRun (l : Layout) (m : Memory) (calls : List Call) (answers : List Reply) (n : Memory) : Type 0 where
  pub replies : (pool : List ℕ) (take_back : List ℕ → ℕ → List ℕ) → replies_of (machine_of l take_back) (state_in l m pool) calls ≡ answers
  pub state : (pool : List ℕ) (take_back : List ℕ → ℕ → List ℕ) → state_after (machine_of l take_back) (state_in l m pool) calls ≡ state_in l n pool
  pub valid : Valid (l laid_in n)
  pub ready : (supply : List ℕ) → SupplyFits (l laid_in m) supply → SupplyFits (l laid_in n) supply
  pub tables : (q : List ℕ) → table_at l.levels l.root (paths (l laid_in n)) q ≡ table_at l.levels l.root (paths (l laid_in m)) q
  pub others : KeepsOthers (IsTable l.levels l.root (paths (l laid_in m))) (l laid_in m) (l laid_in n)
