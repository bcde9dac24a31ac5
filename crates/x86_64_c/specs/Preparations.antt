-- What making the tables above a page does, with frames of the caller's pool: it is done as a whole, or changes nothing.
use Rattle.std.specs.Prelude.{◌≡◌, ◌≢◌, ◌≤◌, ℕ, Bool, true, false, List, length, Option, Some, None}
use Rattle.x86_64_live.specs.Prepares.{Prepares, prepared}
use Rattle.x86_64_mappers.specs.PageAnswers.{allows_page}
use Rattle.x86_64_mappers.specs.Supplies.{Supply}
use Rattle.x86_64_model.specs.Hierarchy.{Hierarchy, path_of, paths}
use Rattle.x86_64_model.specs.Refusal.{Refusal}
use Rattle.x86_64_model.specs.Store.{KeepsPool, Store}
use Rattle.x86_64_c.specs.Arguments.{hierarchy_in, level_of_page_size, position_of, wrong_page}
use Rattle.x86_64_c.specs.Calls.{refusal_status}
use Rattle.x86_64_c.specs.PoolCalls.{Loan, bad_lent, pool_in}
use Rattle.x86_64_c.specs.Status as status
use Rattle.x86_64_c.specs.Status.{ok}
use Rattle.x86_64_c.specs.declared.arguments.Hierarchy.{Hierarchy as Given}
use Rattle.x86_64_c.specs.declared.arguments.Page.{Page}

-- What is wrong with the arguments of a preparation: the hierarchy, or else the number of free frames, or else the page.
abbrev pub wrong_preparation : Given → Loan → Page → Option ℕ
wrong_preparation h lent page = bad_lent h lent (wrong_page h.levels page)

-- The frames of a store as a supply, which takes none back.
abbrev pub supply_in : Store → Supply
supply_in store = record { frames = store.frames; serves = store.serves }

-- The reason why a hierarchy and a store of frames refuse to make the tables above the page of a level with these parent flags, None
-- if they don't.
abbrev pub preparation_refusal : Hierarchy (Unit {0}) → Store → (level page parent_flags : ℕ) → Option Refusal
preparation_refusal h pool level page more = (prepared (paths h) pool.frames more h.layout.added_flags (path_of h level page)).refusal

-- The status of a preparation, by whether it is allowed, and by the reason for its refusal, None if there is none.
abbrev pub preparation_status : (allowed : Bool) → Option Refusal → ℕ
preparation_status false refusal = status.not_allowed
preparation_status true None = status.ok
preparation_status true (Some why) = refusal_status why

-- The page of a level was prepared with a store of frames, or this was refused. It is allowed if the page may be mapped with the parent
-- flags and no flags of its own. The hierarchy is valid again, and the rest of the store fits it.
pub record PreparesPage (h : Hierarchy (Unit {0})) (pool : Store) (level page parent_flags : ℕ) (after : Hierarchy (Unit {0})) (rest : Store) (status : ℕ) : Type 0 where
  pub status_is : status ≡ preparation_status (allows_page h level page 0 parent_flags) (preparation_refusal h pool level page parent_flags)
  pub prepares : allows_page h level page 0 parent_flags ≡ true
      → Prepares h (supply_in pool) level page parent_flags (preparation_refusal h pool level page parent_flags) after (supply_in rest)
  pub keeps : KeepsPool h.layout pool.serves h.memory pool.frames after.memory rest.frames
  pub serves : rest.serves ≡ pool.serves

-- A page was prepared in what the caller lent, with this status, and left this of it.
pub record ExecutesPreparation (own : List ℕ) (h : Given) (lent : Loan) (page : Page) (parent_flags status : ℕ) (after : Loan) : Type 0 where
  -- If an argument is wrong, the status says what, and nothing changes.
  pub bad : (why : ℕ) → wrong_preparation h lent page ≡ Some why → (status ≡ why) × (after ≡ lent)
  -- Otherwise the page is prepared, or this is refused.
  pub prepares : wrong_preparation h lent page ≡ None → PreparesPage (hierarchy_in h lent.tables) (pool_in own lent.array lent.free)
      (level_of_page_size page.size) (position_of h.levels page.start) parent_flags (hierarchy_in h after.tables) (pool_in own after.array after.free) status
  -- Unless the status is OK, the tables, the array and the number of free frames are as before.
  pub refused : status ≢ ok → after ≡ lent
  -- The array is as long as before, and the free frames are in it if they were before.
  pub room : length after.array ≡ length lent.array
  pub in_array : lent.free ≤ length lent.array → after.free ≤ length after.array
