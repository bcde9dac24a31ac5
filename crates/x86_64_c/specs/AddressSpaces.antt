-- Several address spaces in the caller's tables: hierarchies that share the tables below some indices of the highest level, with
-- one pool.
use Rattle.std.specs.Prelude.{◌≡◌, ◌≢◌, ◌≤◌, ◌<◌, ℕ, Bool, true, ◌==◌, ◌&&◌, ◌||◌, nat_le, nat_lt, List, ◌∷◌, length, map, Option, Some, None}
use Rattle.std.specs.List.{AllByRecursion}
use Rattle.std.specs.Option.{option_or}
use Rattle.x86_64_model.specs.Call.{Call, IsCall, Reply}
use Rattle.x86_64_model.specs.Laws.Spaces.{KeepsRootEntries}
use Rattle.x86_64_model.specs.Laws.Steps.{AllCalls}
use Rattle.x86_64_model.specs.Layout.{Layout}
use Rattle.x86_64_model.specs.Lists.{In, EachOnce}
use Rattle.x86_64_model.specs.Hierarchy.{◌laid_in◌, paths}
use Rattle.x86_64_model.specs.Memory.{Memory, Places}
use Rattle.x86_64_model.specs.Refusal.{Answer}
use Rattle.x86_64_model.specs.Spaces.{AreSpaces, Avoids}
use Rattle.x86_64_mappers.specs.Layouts.{direct_at}
use Rattle.x86_64_mappers.specs.Ranges.{map_at}
use Rattle.x86_64_spaces.specs.declared.space.Space.{Space}
use Rattle.x86_64_spaces.specs.SpaceCalls.{TakesFirst, IsMade, IsGivenUp}
use Rattle.x86_64_spaces.specs.SpaceLayouts.{indices_of, HasSharedAlone}
use Rattle.x86_64_tables.specs.FrameSegments.{are_in_order}
use Rattle.x86_64_tables.specs.LentMemory.{numbered}
use Rattle.x86_64_tables.specs.LentPool.{is_in, stacked}
use Rattle.x86_64_c.specs.Calls.{Changes}
use Rattle.x86_64_c.specs.Arguments.{unless, bad_hierarchy, hierarchy_in, places_given, wrong_segments}
use Rattle.x86_64_c.specs.PoolCalls.{Loan, loan, Request, MayExecute, Executes, ExecutesOrNothing, bad_lent, bad_pool, pool_in}
pub use Rattle.x86_64_c.specs.PoolCalls.{HasPool}
use Rattle.x86_64_c.specs.Ranges as range
use Rattle.x86_64_c.specs.Ranges.{MapsWith, MayMapWith, range_asked}
use Rattle.x86_64_c.specs.Status as status
use Rattle.x86_64_c.specs.declared.arguments.Hierarchy.{Hierarchy as Given}
use Rattle.x86_64_c.specs.declared.arguments.MapRequest.{MapRequest}

-- ---- which spaces

-- Whether an index of the highest level is shared, if those from the first one up to, but not including, the end are.
abbrev pub shared_in : (from to : ℕ) → (index : ℕ) → Bool
shared_in from to = indices_of (record { from = from; to = to })

-- The layout of a hierarchy in the caller's tables.
abbrev pub layout_given : Given → Layout
layout_given h = direct_at h.levels (places_given h) h.root

-- A hierarchy has levels, and its segments are in order.
abbrev pub IsInOrder : Given → Type 0
IsInOrder h = (0 < h.levels) × (are_in_order h.segments.now ≡ true)

-- The layouts of hierarchies with these roots, with these places of frames and this number of levels.
abbrev pub layouts_given : Places → (levels : ℕ) → (roots : List ℕ) → List Layout
layouts_given places levels roots = map (λ root. direct_at levels places root) roots

-- The space without a recursive index that has this root.
abbrev pub space_at : (root : ℕ) → Space
space_at root = record { root = root; recursive = None }

-- ---- what is wrong with arguments

-- What is wrong with shared indices, which are those from the first one up to, but not including, the end.
abbrev pub wrong_indices : (from to : ℕ) → Option ℕ
wrong_indices from to = unless (nat_le from to && nat_le to 512) status.bad_indices

-- What is wrong with the pool, the marks and the shared indices of a test of address spaces. It needs a mark for each table.
abbrev pub wrong_room : (from to : ℕ) → Loan → (marks : ℕ) → Option ℕ
wrong_room from to lent marks =
    option_or (unless (nat_le lent.free (length lent.array) && nat_le (length lent.tables) marks) status.bad_array) (wrong_indices from to)

-- What is wrong with the arguments of a test of address spaces: the number of levels, or else the others.
abbrev pub wrong_spaces_test : (levels from to : ℕ) → Loan → (marks : ℕ) → Option ℕ
wrong_spaces_test levels from to lent marks = option_or (unless ((levels == 4) || (levels == 5)) status.bad_levels) (wrong_room from to lent marks)

-- What is wrong with the arguments of a test of address spaces in the memory of a hierarchy, whose root isn't looked at.
abbrev pub wrong_spaces_in : Given → (from to : ℕ) → Loan → (marks : ℕ) → Option ℕ
wrong_spaces_in h from to lent marks = option_or (unless ((h.levels == 4) || (h.levels == 5)) status.bad_levels)
    (option_or (wrong_segments h.segments.now) (wrong_room from to lent marks))

-- What is wrong with any of the arguments of a call that makes a space: the template, what the caller lends, or the shared indices.
abbrev pub bad_new : Given → Loan → (from to : ℕ) → Option ℕ
bad_new h lent from to = bad_lent h lent (wrong_indices from to)

-- What is wrong with a root, a pool and shared indices of a call that gives up a space. No pool takes frame 0.
abbrev pub wrong_gone : (root free capacity from to : ℕ) → Option ℕ
wrong_gone root free capacity from to = option_or (unless (nat_lt 0 root) status.bad_root) (bad_pool free capacity (wrong_indices from to))

-- What is wrong with any of the arguments of a call that gives up a space: the hierarchy, its root, the pool, or the shared
-- indices.
abbrev pub bad_gone : Given → Loan → (from to : ℕ) → Option ℕ
bad_gone h lent from to = option_or (bad_hierarchy h (length lent.tables)) (wrong_gone h.root lent.free (length lent.array) from to)

-- ---- spaces that fit together

-- Hierarchies with these layouts are address spaces with one pool that fits each, and the array has room for all frames that the
-- pool may ever hold, which are its own.
pub record FitTogether (own : List ℕ) (shared : ℕ → Bool) (spaces : List Layout) (lent : Loan) : Type 0 where
  pub room : length own ≤ length lent.array
  pub are_spaces : AreSpaces shared (numbered lent.tables) (is_in own) (stacked lent.array lent.free) spaces

-- The roots are distinct, and their hierarchies are address spaces that fit together with a pool that may take back the roots, too.
pub record SpacesFit (shared : ℕ → Bool) (places : Places) (levels : ℕ) (roots : List ℕ) (lent : Loan) : Type 0 where
  pub each_once : EachOnce roots
  pub own : List ℕ
  pub own_roots : (root : ℕ) → In roots root → is_in own root ≡ true
  pub fit : FitTogether own shared (layouts_given places levels roots) lent

-- ---- spaces that are made and given up

-- The last free frame became the root of a new space, which fits together with all spaces with which the template did.
pub record Makes (own : List ℕ) (shared : ℕ → Bool) (template : Given) (lent after : Loan) (root : ℕ) : Type 0 where
  pub taken : TakesFirst (pool_in own lent.array lent.free) (Some root) (pool_in own after.array after.free)
  pub own_root : is_in own root ≡ true
  pub made : IsMade shared (hierarchy_in template lent.tables) (pool_in own lent.array lent.free) (space_at root) (numbered after.tables)
      (pool_in own after.array after.free)
  pub fit : (spaces : List Layout) → In spaces (layout_given template) → FitTogether own shared spaces lent
      → FitTogether own shared (direct_at template.levels (places_given template) root ∷ spaces) after

-- A call to make a space returned this status, and left this of what the caller lent, and this where it writes the root.
pub record MakesSpace (own : List ℕ) (template : Given) (lent : Loan) (from to result before : ℕ) (after : Loan) (root : ℕ) : Type 0 where
  -- If an argument is wrong, the status says what, and nothing changes.
  pub bad : (why : ℕ) → bad_new template lent from to ≡ Some why → (result ≡ why) × (after ≡ lent) × (root ≡ before)
  -- If the pool is empty, nothing changes.
  pub none : bad_new template lent from to ≡ None → lent.free ≡ 0 → (result ≡ status.frame_allocation_failed) × (after ≡ lent) × (root ≡ before)
  -- Otherwise a space is made.
  pub made : bad_new template lent from to ≡ None → 0 < lent.free → (result ≡ status.ok) × Makes own (shared_in from to) template lent after root
  -- The array is as long as before, and the free frames are in it if they were before.
  pub room : length after.array ≡ length lent.array
  pub in_array : lent.free ≤ length lent.array → after.free ≤ length after.array

-- A space was given up, and its root is free. All spaces with which it fitted together still do so.
pub record GivesUp (own : List ℕ) (shared : ℕ → Bool) (gone : Given) (lent after : Loan) : Type 0 where
  pub given_up : IsGivenUp shared (hierarchy_in gone lent.tables) (pool_in own lent.array lent.free) (numbered after.tables)
      (pool_in own after.array after.free)
  pub fit : (spaces : List Layout) → (In spaces (layout_given gone) → ⊥) → FitTogether own shared (layout_given gone ∷ spaces) lent
      → FitTogether own shared spaces after

-- A call to give up a space returned this status, and left this of what the caller lent.
pub record GivesUpSpace (own : List ℕ) (gone : Given) (lent : Loan) (from to result : ℕ) (after : Loan) : Type 0 where
  -- If an argument is wrong, the status says what, and nothing changes.
  pub bad : (why : ℕ) → bad_gone gone lent from to ≡ Some why → (result ≡ why) × (after ≡ lent)
  -- If an entry of the root that isn't shared is used, nothing changes.
  pub in_use : bad_gone gone lent from to ≡ None → (HasSharedAlone (shared_in from to) (layout_given gone) (numbered lent.tables) → ⊥)
      → (result ≡ status.space_in_use) × (after ≡ lent)
  -- Otherwise the space is given up.
  pub given_up : bad_gone gone lent from to ≡ None → HasSharedAlone (shared_in from to) (layout_given gone) (numbered lent.tables)
      → (result ≡ status.ok) × GivesUp own (shared_in from to) gone lent after
  -- The array is as long as before, and the free frames are in it if they were before.
  pub room : length after.array ≡ length lent.array
  pub in_array : lent.free ≤ length lent.array → after.free ≤ length after.array

-- ---- calls on one of them

-- If some address spaces fit together, any request may be made on each of them, also one to map a range, and each may be the
-- template of a new one.
abbrev pub EachMayBeUsed : Type 0
EachMayBeUsed = (own : List ℕ) (shared : ℕ → Bool) (spaces : List Layout) (lent : Loan) → FitTogether own shared spaces lent
    → (h : Given) → In spaces (layout_given h)
    → ((request : Request) → MayExecute own h lent request) × ((request : MapRequest) (count : ℕ) → MayMapWith own h lent request count)
    × ((wrong : Option ℕ) → HasPool own h lent wrong)

-- After a request on one of some address spaces that fit together, they fit together again, if the entries of its root at the
-- shared indices are as before.
abbrev pub RequestsKeepSpaces : Type 0
RequestsKeepSpaces = (own : List ℕ) (shared : ℕ → Bool) (spaces : List Layout) (lent after : Loan) → FitTogether own shared spaces lent
    → (h : Given) → In spaces (layout_given h) → (request : Request) (status : ℕ) → Executes own h lent request status after
    → KeepsRootEntries shared (layout_given h) (numbered lent.tables) (numbered after.tables) → FitTogether own shared spaces after

-- After a request on one of some address spaces that fit together, which was executed or changed nothing, they fit together again,
-- if the entries of its root at the shared indices are as before.
abbrev pub RequestsOrNothingKeepSpaces : Type 0
RequestsOrNothingKeepSpaces = (own : List ℕ) (shared : ℕ → Bool) (spaces : List Layout) (lent after : Loan) → FitTogether own shared spaces lent
    → (h : Given) → In spaces (layout_given h) → (request : Request) (status : ℕ) → ExecutesOrNothing own h lent request status after
    → KeepsRootEntries shared (layout_given h) (numbered lent.tables) (numbered after.tables) → FitTogether own shared spaces after

-- After a call that changes one entry of one of some address spaces that fit together, they fit together again, if the entries of
-- its root at the shared indices are as before.
abbrev pub ChangesKeepSpaces : Type 0
ChangesKeepSpaces = (own : List ℕ) (shared : ℕ → Bool) (spaces : List Layout) (tables now : List (List ℕ)) (array : List ℕ) (free : ℕ)
    → FitTogether own shared spaces (loan tables array free) → (h : Given) → IsInOrder h → In spaces (layout_given h) → (call : Call) (answer : Answer) (status : ℕ)
    → Changes (hierarchy_in h tables) call answer (hierarchy_in h now) status
    → KeepsRootEntries shared (layout_given h) (numbered tables) (numbered now) → FitTogether own shared spaces (loan now array free)

-- After a map of a range in one of some address spaces that fit together, they fit together again, if the entries of its root at
-- the shared indices are as before.
abbrev pub RangeMapsKeepSpaces : Type 0
RangeMapsKeepSpaces = (own : List ℕ) (shared : ℕ → Bool) (spaces : List Layout) (lent after : Loan) → FitTogether own shared spaces lent
    → (h : Given) → In spaces (layout_given h) → (request : MapRequest) (count was status done : ℕ) → MapsWith own h lent request count was status after done
    → KeepsRootEntries shared (layout_given h) (numbered lent.tables) (numbered after.tables) → FitTogether own shared spaces after

-- After unmaps or changes of flags of a range in one of some address spaces that fit together, they fit together again, if the
-- entries of its root at the shared indices are as before.
abbrev pub RangeChangesKeepSpaces : Type 0
RangeChangesKeepSpaces = (own : List ℕ) (shared : ℕ → Bool) (spaces : List Layout) (tables now : List (List ℕ)) (array : List ℕ) (free : ℕ)
    → FitTogether own shared spaces (loan tables array free) → (h : Given) → IsInOrder h → In spaces (layout_given h) → (calls : List Call) (replies : List Reply)
    → range.ChangesRange (hierarchy_in h tables) calls replies (hierarchy_in h now)
    → KeepsRootEntries shared (layout_given h) (numbered tables) (numbered now) → FitTogether own shared spaces (loan now array free)

-- The path maps of all spaces but the one with this root are the same before and after.
abbrev pub OthersStay : (spaces : List Layout) → (root : ℕ) → (before after : Memory) → Type 0
OthersStay spaces root m n = (other : Layout) → In spaces other → root ≢ other.root → paths (other laid_in n) ≡ paths (other laid_in m)

-- After a request on one of some address spaces that fit together, which touches nothing below a shared index, they fit together
-- again, and the others keep their path maps.
abbrev pub RequestsKeepOthers : Type 0
RequestsKeepOthers = (own : List ℕ) (shared : ℕ → Bool) (spaces : List Layout) (lent after : Loan) → FitTogether own shared spaces lent
    → (h : Given) → In spaces (layout_given h) → (request : Request) (status : ℕ) → Executes own h lent request status after
    → IsCall h.levels (request.call h.levels) → Avoids h.levels shared (request.call h.levels)
    → FitTogether own shared spaces after × OthersStay spaces h.root (numbered lent.tables) (numbered after.tables)

-- After a request on one of some address spaces that fit together, which touches nothing below a shared index and was executed or
-- changed nothing, they fit together again, and the others keep their path maps.
abbrev pub RequestsOrNothingKeepOthers : Type 0
RequestsOrNothingKeepOthers = (own : List ℕ) (shared : ℕ → Bool) (spaces : List Layout) (lent after : Loan) → FitTogether own shared spaces lent
    → (h : Given) → In spaces (layout_given h) → (request : Request) (status : ℕ) → ExecutesOrNothing own h lent request status after
    → IsCall h.levels (request.call h.levels) → Avoids h.levels shared (request.call h.levels)
    → FitTogether own shared spaces after × OthersStay spaces h.root (numbered lent.tables) (numbered after.tables)

-- After a map of a range in one of some address spaces that fit together, which touches nothing below a shared index, they fit
-- together again, and the others keep their path maps.
abbrev pub RangeMapsKeepOthers : Type 0
RangeMapsKeepOthers = (own : List ℕ) (shared : ℕ → Bool) (spaces : List Layout) (lent after : Loan) → FitTogether own shared spaces lent
    → (h : Given) → In spaces (layout_given h) → (request : MapRequest) (count was status done : ℕ) → MapsWith own h lent request count was status after done
    → ((k : ℕ) → k < count → Avoids h.levels shared (map_at (range_asked h.levels request) k))
    → FitTogether own shared spaces after × OthersStay spaces h.root (numbered lent.tables) (numbered after.tables)

-- After unmaps or changes of flags of a range in one of some address spaces that fit together, which touch nothing below a shared
-- index, they fit together again, and the others keep their path maps.
abbrev pub RangeChangesKeepOthers : Type 0
RangeChangesKeepOthers = (own : List ℕ) (shared : ℕ → Bool) (spaces : List Layout) (tables now : List (List ℕ)) (array : List ℕ) (free : ℕ)
    → FitTogether own shared spaces (loan tables array free) → (h : Given) → IsInOrder h → In spaces (layout_given h) → (calls : List Call) (replies : List Reply)
    → range.ChangesRange (hierarchy_in h tables) calls replies (hierarchy_in h now) → AllCalls h.levels calls → AllByRecursion (Avoids h.levels shared) calls
    → FitTogether own shared spaces (loan now array free) × OthersStay spaces h.root (numbered tables) (numbered now)
