-- The law of two machines with path maps that are alike.
use Rattle.std.specs.Prelude.{◌≡◌, ◌⊎◌, ℕ, Bool, false, List}
use Rattle.std.specs.List.{AllByRecursion}
use Rattle.x86_64_model.specs.Entry.{IsParentFlags}
use Rattle.x86_64_model.specs.Memory.{Words}
use Rattle.x86_64_model.specs.Window.{Window}
use Rattle.std.specs.Prelude.{Option}
use Rattle.x86_64_model.specs.Pool.{TakesBack}
use Rattle.x86_64_model.specs.Call.{Call, Reply}
use Rattle.x86_64_model.specs.Machine.{Machine, State, replies_of, state_after}
use Rattle.x86_64_model.specs.Alike.{without_writable, Alike, names_index}
use Rattle.x86_64_model.specs.Laws.Steps.{FitsState, AllCalls}

-- The flags that a machine adds to the entries of new tables are none or PRESENT, with or without WRITABLE.
pub record IsAdded (added : ℕ) : Type 0 where
  pub adds : IsParentFlags added
  pub few : (without_writable added ≡ 0) ⊎ (without_writable added ≡ 1)

-- No call of the list names a page or an address in the recursive window.
abbrev pub NoneNames : (L : ℕ) → Option Window → List Call → Type 0
NoneNames L window calls = AllByRecursion (λ call. names_index L window call ≡ false) calls

-- Two machines have the same replies, and end with equal pools and with path maps that are equal except for WRITABLE of table
-- entries.
pub record AlikeRuns (L : ℕ) (s t : State) (one other : List Reply) : Type 0 where
  pub paths : Alike L s.paths t.paths
  pub pools : s.pool ≡ t.pool
  pub replies : one ≡ other

-- Take two machines of the same levels and the same `take_back`, with path maps that are alike (equal except for WRITABLE of
-- table entries) and with equal pools. They give the same replies to calls that name no recursive index of either, and end with
-- path maps that are alike and with equal pools.
abbrev pub PairsReplyAlike : Type 0
PairsReplyAlike = (m n : Machine) → m.levels ≡ n.levels → m.take_back ≡ n.take_back → TakesBack m.take_back → IsAdded m.added_flags → IsAdded n.added_flags
    → (T U : Words) (root root' : ℕ) (serves serves' : ℕ → Bool)
    → (calls : List Call) → AllCalls m.levels calls → NoneNames m.levels m.window calls → NoneNames n.levels n.window calls
    → (s t : State) → FitsState m T root serves s → FitsState n U root' serves' t → Alike m.levels s.paths t.paths → s.pool ≡ t.pool
    → AlikeRuns m.levels (state_after m s calls) (state_after n t calls) (replies_of m s calls) (replies_of n t calls)
