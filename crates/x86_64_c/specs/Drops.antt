-- What the drop of a range of pages does: the pages are taken away, and then the empty tables are freed.
use Rattle.std.specs.Prelude.{◌≡◌, ◌≤◌, ◌+◌, ℕ, List, length, Option, Some, None, unwrap_or}
use Rattle.x86_64_c.specs.Arguments.{hierarchy_in, position_of, wrong_ends}
use Rattle.x86_64_c.specs.PoolCalls.{Loan, RunsCall, bad_lent, pool_in}
use Rattle.x86_64_c.specs.Status.{ok}
use Rattle.x86_64_c.specs.WordRanges.{range_next, range_status}
use Rattle.x86_64_c.specs.declared.arguments.Hierarchy.{Hierarchy as Given}
use Rattle.x86_64_live.specs.DroppedRanges.{EndsAtPage}
use Rattle.x86_64_live.specs.PageRanges.{AllWhole, ExchangesPages, HasNoPage, page_entries, reached}
use Rattle.x86_64_live.specs.declared.ranges.RangeEnd.{RangeEnd}
use Rattle.x86_64_model.specs.Call.{CleanUp}
use Rattle.x86_64_model.specs.Entry.{used}
use Rattle.x86_64_model.specs.Hierarchy.{◌laid_in◌, Hierarchy, paths}
use Rattle.x86_64_model.specs.Memory.{Memory}
use Rattle.x86_64_model.specs.Store.{Store}

-- What is wrong with the arguments of a drop: the hierarchy, or else the number of free frames, or else the first or the last page.
abbrev pub wrong_drop : Given → Loan → (first last : ℕ) → Option ℕ
wrong_drop h lent first last = bad_lent h lent (wrong_ends h.levels first last)

-- The pages from the one at the position `first` to the one at `last` were dropped, up to where the range ends, which the status tells,
-- and the address at which it goes on.
pub record DropsPages (h : Hierarchy (Unit {0})) (pool : Store) (first last : ℕ) (after : Hierarchy (Unit {0})) (rest : Store) (status : ℕ) (next : Option ℕ) : Type 0 where
  pub end : RangeEnd (Unit {0})
  pub whole : AllWhole h.layout.levels used (paths h) first (reached last end)
  pub end_is : EndsAtPage h.layout.levels used (paths h) first last end
  pub status_is : status ≡ range_status end
  pub next_is : next ≡ range_next h.layout.levels end
  -- The entries of these pages became 0, and nothing else changed, up to a memory in between.
  pub between : Memory
  pub taken : ExchangesPages h.layout (λ _. 0) (page_entries h.layout.levels used (paths h) first (reached last end)) h.memory between
  -- From there on the call is that of a clean up of the whole range.
  pub cleaned : RunsCall (h.layout laid_in between) pool (CleanUp first (last + 0xfff)) after rest ok
  -- So none of the pages is there any more: no entry on the way to a position up to where the range ends is that of a page.
  pub gone : HasNoPage h.layout.levels used (paths after) first (reached last end)

-- A drop returned this status, and left this of what the caller lent, and `next`, which was `was`.
pub record ExecutesDrop (own : List ℕ) (h : Given) (lent : Loan) (first last was status : ℕ) (after : Loan) (next : ℕ) : Type 0 where
  -- If an argument is wrong, the status says what, and nothing changes.
  pub bad : (why : ℕ) → wrong_drop h lent first last ≡ Some why → (status ≡ why) × (after ≡ lent) × (next ≡ was)
  -- Otherwise the pages are dropped, and `next` is the address at which the range goes on, if it does.
  pub drops : wrong_drop h lent first last ≡ None → (more : Option ℕ) × DropsPages (hierarchy_in h lent.tables) (pool_in own lent.array lent.free)
      (position_of h.levels first) (position_of h.levels last) (hierarchy_in h after.tables) (pool_in own after.array after.free) status more × (next ≡ unwrap_or more was)
  -- The array is as long as before, and the free frames are in it if they were before.
  pub room : length after.array ≡ length lent.array
  pub in_array : lent.free ≤ length lent.array → after.free ≤ length after.array
