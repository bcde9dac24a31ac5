-- What calls that take frames from a pool or return frames to it do: maps and clean ups.
use Rattle.std.specs.Prelude.{◌≡◌, ◌≢◌, ◌≤◌, ℕ, ◌+◌, true, nat_le, List, length, Option, Some, None, option_map}
use Rattle.std.specs.Option.{option_or}
use Rattle.x86_64_model.specs.Call.{Call, CleanUp, MapToWithTableFlags}
use Rattle.x86_64_model.specs.Hierarchy.{Hierarchy}
use Rattle.x86_64_model.specs.Store.{Store, StoreFits, put_first, KeepsPool}
use Rattle.x86_64_tables.specs.LentPool.{is_in, stacked}
use Rattle.x86_64.specs.Replies.{Reply, changes_nothing}
use Rattle.x86_64.specs.Runs.{LeavesFree, Stepped, machine_with, state_with, step_by}
use Rattle.x86_64_c.specs.Calls.{reply_status}
use Rattle.x86_64_c.specs.Arguments.{unless, bad_hierarchy, wrong_ends, wrong_page, wrong_frame, hierarchy_in, level_of_page_size, position_of}
use Rattle.x86_64_c.specs.Status as status
use Rattle.x86_64_c.specs.Status.{ok}
use Rattle.x86_64_c.specs.declared.arguments.Hierarchy.{Hierarchy as Given}
use Rattle.x86_64_c.specs.declared.arguments.MapRequest.{MapRequest}

-- ---- what a caller asks for

-- A request of a caller: the call with a number of levels, and what is wrong with the arguments that say which call it is.
pub record Request : Type 0 where
  pub call : (L : ℕ) → Call
  pub wrong : (L : ℕ) → Option ℕ

-- What is wrong with a request to map a page, with L levels: the page, or else the frame.
abbrev pub bad_map : (L : ℕ) → MapRequest → Option ℕ
bad_map L request = option_or (wrong_page L request.page) (wrong_frame request.page.size request.frame)

-- The call, with L levels, that a request to map a page asks for.
abbrev pub map_asked : (L : ℕ) → MapRequest → Call
map_asked L request = MapToWithTableFlags (level_of_page_size request.page.size) (position_of L request.page.start) request.frame request.flags request.parent_flags

-- The clean up of the 4KiB pages from the first to the last, inclusive, with L levels.
abbrev pub clean_up_call : (L first last : ℕ) → Call
clean_up_call L first last = CleanUp (position_of L first) (position_of L last + 0xfff)

-- The request to map a page.
abbrev pub to_map : MapRequest → Request
to_map request = record { call = λ L. map_asked L request; wrong = λ L. bad_map L request }

-- The request to clean up the 4KiB pages from the first to the last, inclusive.
abbrev pub to_clean_up : (first last : ℕ) → Request
to_clean_up first last = record { call = λ L. clean_up_call L first last; wrong = λ L. wrong_ends L first last }

-- ---- what a caller lends

-- What a caller lends: the tables, and the array whose first entries are the pool's free frames, with their number.
pub record Loan : Type 0 where
  pub tables : List (List ℕ)
  pub array : List ℕ
  pub free : ℕ

-- What a caller lends: these tables, this array, and this number of free frames in it.
abbrev pub loan : (tables : List (List ℕ)) → (array : List ℕ) → (free : ℕ) → Loan
loan tables array free = record { tables = tables; array = array; free = free }

-- What is wrong with a number of free frames in an array with so many entries, or else with a call's other arguments.
abbrev pub bad_pool : (free capacity : ℕ) → (other : Option ℕ) → Option ℕ
bad_pool free capacity other = option_or (unless (nat_le free capacity) status.bad_array) other

-- What is wrong with a hierarchy in the tables that a caller lends, or else with the number of free frames, or else with a call's
-- other arguments.
abbrev pub bad_lent : Given → Loan → (other : Option ℕ) → Option ℕ
bad_lent h lent other = option_or (bad_hierarchy h (length lent.tables)) (bad_pool lent.free (length lent.array) other)

-- What is wrong with any of the arguments of a request.
abbrev pub wrong_pool_call : Given → Loan → Request → Option ℕ
wrong_pool_call h lent request = bad_lent h lent (request.wrong h.levels)

-- ---- what a call does

-- The pool in an array whose first entries are its free frames. It serves (may hold) its own frames, which are a list.
abbrev pub pool_in : (own entries : List ℕ) → (count : ℕ) → Store
pool_in own entries count = record { frames = stacked entries count; serves = is_in own; take_back = put_first }

-- A call was executed as the machine does it, with the status of the reply. The hierarchy is valid again, and the rest of the pool
-- fits it. The pool serves the same frames. If the reply says that nothing changed, no word did. Free frames keep their words, except those that came back.
pub record RunsCall (h : Hierarchy (Unit {0})) (pool : Store) (call : Call) (after : Hierarchy (Unit {0})) (rest : Store) (status : ℕ) : Type 0 where
  pub reply : Reply
  pub step : Stepped h pool call reply after rest.frames
  pub status_is : status ≡ reply_status reply
  pub keeps : KeepsPool h.layout pool.serves h.memory pool.frames after.memory rest.frames
  pub serves : rest.serves ≡ pool.serves
  pub unchanged : changes_nothing reply ≡ true → after.memory ≡ h.memory
  pub free : LeavesFree h pool call after rest.frames

-- A call on a hierarchy may be made, with a pool that has these frames as its own.
pub record HasPool (own : List ℕ) (h : Given) (lent : Loan) (wrong : Option ℕ) : Type 0 where
  -- The array has room for all of its own frames.
  pub room : length own ≤ length lent.array
  -- If no argument is wrong, the hierarchy is valid, and the pool fits it.
  pub fits : wrong ≡ None → StoreFits (hierarchy_in h lent.tables) (pool_in own lent.array lent.free)

-- A request may be made, with a pool that has these frames as its own.
abbrev pub MayExecute : (own : List ℕ) (h : Given) (lent : Loan) (request : Request) → Type 0
MayExecute own h lent request = HasPool own h lent (wrong_pool_call h lent request)

-- A request returned this status, and left this of what the caller lent.
pub record Executes (own : List ℕ) (h : Given) (lent : Loan) (request : Request) (status : ℕ) (after : Loan) : Type 0 where
  -- If an argument is wrong, the status says what, and nothing changes.
  pub bad : (why : ℕ) → wrong_pool_call h lent request ≡ Some why → (status ≡ why) × (after ≡ lent)
  -- Otherwise the call is executed.
  pub runs : wrong_pool_call h lent request ≡ None
      → RunsCall (hierarchy_in h lent.tables) (pool_in own lent.array lent.free) (request.call h.levels) (hierarchy_in h after.tables) (pool_in own after.array after.free) status
  -- The array is as long as before, and the free frames are in it if they were before.
  pub room : length after.array ≡ length lent.array
  pub in_array : lent.free ≤ length lent.array → after.free ≤ length after.array

-- ---- calls that change nothing if they are refused

-- The status of the machine's reply to a call, or `None` if a mapper never replies so.
abbrev pub machine_status : (h : Hierarchy (Unit {0})) → (pool : Store) → Call → Option ℕ
machine_status h pool call = option_map reply_status (step_by (machine_with h pool) (state_with h pool) call).reply

-- The status that a request has when it is executed: what is wrong with an argument, or the status of the machine's reply.
abbrev pub request_status : (own : List ℕ) (h : Given) (lent : Loan) (request : Request) → Option ℕ
request_status own h lent request =
    option_or (wrong_pool_call h lent request) (machine_status (hierarchy_in h lent.tables) (pool_in own lent.array lent.free) (request.call h.levels))

-- A request was executed, or it was refused and changed nothing.
pub record ExecutesOrNothing (own : List ℕ) (h : Given) (lent : Loan) (request : Request) (status : ℕ) (after : Loan) : Type 0 where
  -- The status is the one that it has when it is executed.
  pub status_is : Some status ≡ request_status own h lent request
  -- If this is OK, it was executed.
  pub done : status ≡ ok → Executes own h lent request status after
  -- Otherwise the tables, the array and the number of free frames are as before.
  pub refused : status ≢ ok → after ≡ lent
