-- The flush of the token of a range of pages: its items cover what may have been lost.
use Rattle.std.specs.Prelude.{◌≡◌, ◌⊎◌, ◌≤◌, ℕ, Bool, false, List}
use Rattle.x86_64_model.specs.Arrivals.{KeepsArrival}
use Rattle.x86_64_model.specs.Call.{Call}
use Rattle.x86_64_model.specs.Laws.Steps.{FitsState}
use Rattle.x86_64_model.specs.Machine.{IsMachine, Machine, State, state_after}
use Rattle.x86_64_model.specs.Memory.{Words}
use Rattle.x86_64_model.specs.PageWalk.{page_walk}
use Rattle.x86_64_model.specs.Position.{page_path, span}
use Rattle.x86_64_model.specs.Window.{begins_with, IsValidFor}
use Rattle.x86_64_mappers.specs.RangeChanges.{unmaps, updates}
use Rattle.x86_64_tables.specs.FlushRecorder.{flush_range, range_items}
use Rattle.x86_64.specs.Flushes.{NoFlushItemCovers}

-- The calls unmap this many pages of a level, one after another from a page on, or set their flags.
abbrev pub AreChanges : (level page count : ℕ) → List Call → Type 0
AreChanges level page count calls = (calls ≡ unmaps level page count) ⊎ ((given : ℕ) × (calls ≡ updates level page given count))

-- Take calls that unmap the pages of a range or set their flags, and a position outside the recursive index that no item of the
-- flush of the range's token covers, however many items for single pages there are at most. If the walk arrives in words that mean
-- the state before the calls, it arrives after them, at the same address, with no right lost.
abbrev pub RangeFlushesSuffice : Type 0
RangeFlushesSuffice = (m : Machine) → IsMachine m → (m.levels ≡ 4) ⊎ (m.levels ≡ 5) → (T U : Words) (root : ℕ) (serves : ℕ → Bool) (s : State) → FitsState m T root serves s
    → (level page count most : ℕ) → 1 ≤ level → level ≤ 3 → (calls : List Call) → AreChanges level page count calls → IsValidFor m.levels m.window U root (state_after m s calls).paths
    → (p : ℕ) → begins_with m.window (page_path m.levels p) ≡ false → NoFlushItemCovers m.levels (range_items m.levels (span level) most (flush_range page count)) p
    → KeepsArrival (page_walk m.levels T root p) (page_walk m.levels U root p)
