-- What calls on ranges do: on pages of one size, from a first one on.
use Rattle.std.specs.Prelude.{◌≡◌, ◌≤◌, ◌⊎◌, ℕ, ◌+◌, ◌-◌, ◌*◌, ◌^◌, ◌==◌, nat_le, nat_lt, min, true, false, Bool, cond, List, length, drop, ◌++◌, slice_set, Option, Some, None}
use Rattle.std.specs.Option.{option_or}
use Rattle.x86_64_model.specs.Call.{Call, Reply}
use Rattle.x86_64_model.specs.Entry.{present, no_address}
use Rattle.x86_64_model.specs.Hierarchy.{Hierarchy, PoolFits}
use Rattle.x86_64_model.specs.Position.{lower_half, position_count}
use Rattle.x86_64_model.specs.Refusal.{Refusal}
use Rattle.x86_64_model.specs.Store.{Store, KeepsPool}
use Rattle.x86_64_mappers.specs.RangeChanges.{DoesChanges, frames_done, unmaps, updates}
use Rattle.x86_64_mappers.specs.Ranges.{MapRange, MayMapRange, MapsAll, StopsAt, range_of}
use Rattle.x86_64_c.specs.Calls.{refusal_status}
use Rattle.x86_64_c.specs.Arguments.{unless, bad_hierarchy, wrong_page, wrong_frame, hierarchy_in, level_of_page_size, position_of}
use Rattle.x86_64_c.specs.PoolCalls.{HasPool, Loan, bad_lent, pool_in}
use Rattle.x86_64_c.specs.Status as status
use Rattle.x86_64_c.specs.Status.{ok, more, not_allowed}
use Rattle.x86_64_c.specs.declared.arguments.Hierarchy.{Hierarchy as Given}
use Rattle.x86_64_c.specs.declared.arguments.MapRequest.{MapRequest}
use Rattle.x86_64_c.specs.declared.arguments.Page.{Page}
use Rattle.x86_64_c.specs.declared.ranges.FrameArray.{FrameArray}
use Rattle.x86_64_c.specs.declared.ranges.RangeMap.{RangeMap}
use Rattle.x86_64_tables.specs.PageTableFlags.{bits_of}

-- ---- what is wrong with a range

-- The end of the half of the address space in which a position lies, as a position.
abbrev pub half_end : (L position : ℕ) → ℕ
half_end L p = cond (nat_lt p (lower_half L)) (lower_half L) (position_count L)

-- What is wrong with a number of pages, from a page on: the page, or that they don't end in its half of the address space.
abbrev pub bad_pages : (L : ℕ) → Page → (count : ℕ) → Option ℕ
bad_pages L page count = option_or (wrong_page L page)
    (unless (nat_le (count * page.size) (half_end L (position_of L page.start) - position_of L page.start)) status.bad_page)

-- What is wrong with a number of frames of a size, from a frame on: the frame, or that they don't end at 2^52 or below.
abbrev pub bad_frames : (size frame count : ℕ) → Option ℕ
bad_frames size frame count = option_or (wrong_frame size frame) (unless (nat_le (count * size) (2 ^ 52 - frame)) status.bad_frame)

-- What is wrong with a hierarchy in an array of so many tables, or else with a number of pages, from a page on.
abbrev pub wrong_page_range : Given → (tables : ℕ) → Page → (count : ℕ) → Option ℕ
wrong_page_range h n page count = option_or (bad_hierarchy h n) (bad_pages h.levels page count)

-- What is wrong with the pages of a map of a range, or else with its frames.
abbrev pub bad_maps : (L : ℕ) → MapRequest → (count : ℕ) → Option ℕ
bad_maps L request count = option_or (bad_pages L request.page count) (bad_frames request.page.size request.frame count)

-- What is wrong with any of the arguments of a map of a range.
abbrev pub bad_map_range : Given → Loan → MapRequest → (count : ℕ) → Option ℕ
bad_map_range h lent request count = bad_lent h lent (bad_maps h.levels request count)

-- ---- maps

-- The range of pages, frames and flags that a request to map pages asks for, with L levels.
abbrev pub range_asked : (L : ℕ) → MapRequest → MapRange
range_asked L request = range_of (level_of_page_size request.page.size) (position_of L request.page.start) request.frame request.flags request.parent_flags

-- The range of pages, frames and flags of a map of pages that entries of a level map.
abbrev pub range_of_request : {S L : Type 0} → (level : ℕ) → RangeMap S L → MapRange
range_of_request level map = range_of level map.page map.frame (bits_of map.flags) (bits_of map.parent_flags)

-- The parent flags have PRESENT, and each of so many pages of a range may be mapped.
abbrev pub MayMapPages : Hierarchy (Unit {0}) → MapRange → (count : ℕ) → Type 0
MayMapPages h r count = (present r.parent_flags ≡ true) × MayMapRange h r count

-- Pages were mapped one after another, with this status: all of them, or so many, and the map of the next one was refused. The
-- rest of the pool fits.
pub record Maps (h : Hierarchy (Unit {0})) (pool : Store) (r : MapRange) (count : ℕ) (after : Hierarchy (Unit {0})) (rest : Store) (status done : ℕ) : Type 0 where
  pub maps : ((status ≡ ok) × (done ≡ count) × MapsAll h pool.frames r count after rest.frames)
      ⊎ ((why : Refusal) × (status ≡ refusal_status why) × StopsAt h pool.frames r count done why after rest.frames)
  pub keeps : KeepsPool h.layout pool.serves h.memory pool.frames after.memory rest.frames

-- A map of a range may be made, with a pool that has these frames as its own.
abbrev pub MayMapWith : (own : List ℕ) (h : Given) (lent : Loan) (request : MapRequest) (count : ℕ) → Type 0
MayMapWith own h lent request count = HasPool own h lent (bad_map_range h lent request count)

-- A map of a range returned this status, left this of what the caller lent, and wrote how many pages it mapped.
pub record MapsWith (own : List ℕ) (h : Given) (lent : Loan) (request : MapRequest) (count was status : ℕ) (after : Loan) (done : ℕ) : Type 0 where
  -- If an argument is wrong, the status says what, and nothing changes.
  pub bad : (why : ℕ) → bad_map_range h lent request count ≡ Some why → (status ≡ why) × (after ≡ lent) × (done ≡ was)
  -- Otherwise, nothing changes either if the maps aren't allowed.
  pub refused : bad_map_range h lent request count ≡ None → (MayMapPages (hierarchy_in h lent.tables) (range_asked h.levels request) count → ⊥)
      → (status ≡ not_allowed) × (after ≡ lent) × (done ≡ was)
  -- If they are, the pages are mapped.
  pub maps : bad_map_range h lent request count ≡ None → MayMapPages (hierarchy_in h lent.tables) (range_asked h.levels request) count
      → Maps (hierarchy_in h lent.tables) (pool_in own lent.array lent.free) (range_asked h.levels request) count (hierarchy_in h after.tables) (pool_in own after.array after.free) status done
  -- The array is as long as before, and the free frames are in it if they were before.
  pub room : length after.array ≡ length lent.array
  pub in_array : lent.free ≤ length lent.array → after.free ≤ length after.array

-- ---- unmaps and changes of flags

-- Calls that each change at most one entry were made one after another, with these replies. A pool that fitted still fits.
pub record ChangesRange (h : Hierarchy (Unit {0})) (calls : List Call) (replies : List Reply) (after : Hierarchy (Unit {0})) : Type 0 where
  pub does : DoesChanges h calls replies after
  pub keeps : (serves : ℕ → Bool) (pool : List ℕ) → PoolFits h serves pool → KeepsPool h.layout serves h.memory pool after.memory pool

-- The status of a call that looked at so many of a number of pages: it says whether these are all.
abbrev pub end_status : (done count : ℕ) → ℕ
end_status done count = cond (done == count) ok more

-- Of a number of pages of a level, from a page on, as many were unmapped one after another as an array has entries. Those whose unmap is
-- refused are passed over. The array begins with the frames of the others, and keeps what it holds behind them.
pub record UnmapsRange (h : Hierarchy (Unit {0})) (level page count : ℕ) (array : List ℕ) (after : Hierarchy (Unit {0})) (status : ℕ) (frames : List ℕ) (frame_count done : ℕ) : Type 0 where
  pub replies : List Reply
  pub most : done ≡ min count (length array)
  pub changes : ChangesRange h (unmaps level page done) replies after
  pub taken : frames ≡ frames_done replies ++ drop (length (frames_done replies)) array
  pub number : frame_count ≡ length (frames_done replies)
  pub status_is : status ≡ end_status done count

-- The flags of so many pages of a level, from a page on, were set one after another. Those whose change is refused are passed over, and
-- the number of the others was written.
pub record Updates (h : Hierarchy (Unit {0})) (level page flags count : ℕ) (after : Hierarchy (Unit {0})) (status changed : ℕ) : Type 0 where
  pub replies : List Reply
  pub changes : ChangesRange h (updates level page flags count) replies after
  pub number : changed ≡ length (frames_done replies)
  pub status_is : status ≡ ok

-- Changes of flags are refused as not allowed and change nothing, or they are allowed and made.
abbrev pub MayUpdate : (h : Hierarchy (Unit {0})) (level page flags count was : ℕ) (after : Hierarchy (Unit {0})) (status changed : ℕ) → Type 0
MayUpdate h level page given count was after s changed = (no_address given ≡ false → (s ≡ not_allowed) × (after ≡ h) × (changed ≡ was))
    × (no_address given ≡ true → Updates h level page given count after s changed)

-- ---- frames of unmapped pages

-- An array of frames after it takes one more, if there is room.
abbrev pub with_one : FrameArray → (frame : ℕ) → FrameArray
with_one array f = cond (nat_lt array.count (length array.frames.now))
    (record {
      frames = record { ref_ptr = array.frames.ref_ptr; ghost_name = array.frames.ghost_name; now = slice_set array.frames.now array.count f };
      count = array.count + 1;
    }) array
