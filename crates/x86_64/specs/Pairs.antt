-- Two mappers that reply alike to one list of calls: what is asked of each and of both, and what is left of them.
use Rattle.std.specs.Prelude.{◌≡◌, ℕ, ⊤, false, List, [], Option, Some, None, Vec, Result, IfOk}
use Rattle.std.specs.List.{AllByRecursion}
use Rattle.x86_64_model.specs.Alike.{Alike}
use Rattle.x86_64_model.specs.Call.{Call}
use Rattle.x86_64_model.specs.Hierarchy.{Hierarchy, paths}
use Rattle.x86_64_model.specs.Pool.{serves_below}
pub use Rattle.x86_64_model.specs.Store.{put_first}
use Rattle.x86_64_model.specs.Store.{Store, StoreFits, Keeps}
use Rattle.x86_64_model.specs.Window.{Window}
use Rattle.x86_64_tables.specs.FramePool.{FreeFrames}
use Rattle.x86_64.specs.Calls.{names_by}
use Rattle.x86_64.specs.Replies.{Reply}
use Rattle.x86_64.specs.Runs.{Ran}

-- No call has a page or an address with the recursive index, if there is one.
abbrev pub NoCallNames : {C : Type 0} → (asks : C → Call) → (levels : ℕ) → Option Window → List C → Type 0
NoCallNames asks levels None calls = ⊤
NoCallNames asks levels (Some window) calls = AllByRecursion (λ call. names_by levels (asks call) window.index ≡ false) calls

-- The store that a `FramePool` is: it serves the frames with numbers from 1 up to its limit, which isn't included, and puts a
-- returned frame in front.
abbrev pub pool_store : FreeFrames → Store
pool_store pool = record { frames = pool.frames; serves = serves_below pool.limit; take_back = put_first }

-- One of the mappers may run the calls: its hierarchy is valid, its pool fits it, and no call names its recursive index.
pub record MayRun {C Lent : Type 0} (asks : C → Call) (levels : ℕ) (calls : List C) (h : Hierarchy Lent) (pool : FreeFrames) : Type 0 where
  pub fits : StoreFits h (pool_store pool)
  pub unnamed : NoCallNames asks levels h.layout.window calls

-- The two hierarchies are alike, and their pools have the same frames in the same order.
pub record AreAlike {Lent Other : Type 0} (levels : ℕ) (h : Hierarchy Lent) (pool : FreeFrames) (other : Hierarchy Other) (other_pool : FreeFrames) : Type 0 where
  pub paths : Alike levels (paths h) (paths other)
  pub pools : pool.frames ≡ other_pool.frames

-- What is left of one of the mappers after it ran the calls. If there was memory for the replies, the calls ran with these, and
-- in any case it kept what calls keep.
pub record AfterRun {C Lent A E : Type 0} (asks : C → Call) (calls : List C) (result : Result (Vec Reply A) E) (h : Hierarchy Lent) (pool : FreeFrames) (after : Hierarchy Lent) (rest : FreeFrames) : Type 0 where
  pub ran : IfOk result (λ replies. Ran asks h (pool_store pool) calls [] replies.items after rest.frames)
  pub keeps : Keeps h (pool_store pool) after (pool_store rest)
