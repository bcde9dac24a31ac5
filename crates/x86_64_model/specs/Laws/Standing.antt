-- Laws of pages that stand: an accepted map creates one, later maps keep it, the walk arrives in it with exactly the requested
-- rights, and none of its addresses is mapped again.
use Rattle.std.specs.Prelude.{◌≡◌, ◌≢◌, ◌⊎◌, ◌≤◌, ◌+◌, ◌%◌, ℕ, false, List, length, take, Option, Some}
use Rattle.std.specs.List.{AllByRecursion}
use Rattle.x86_64_model.specs.Arrivals.{Asks}
use Rattle.x86_64_model.specs.Conserved.{IsFrame}
use Rattle.x86_64_model.specs.Entry.{IsParentFlags, writable, user}
use Rattle.x86_64_model.specs.Validity.{Holds}
use Rattle.x86_64_model.specs.MapRule.{map_call, parent_part}
use Rattle.x86_64_model.specs.Memory.{Words}
use Rattle.x86_64_model.specs.PageWalk.{page_walk}
use Rattle.x86_64_model.specs.PathMap.{PathMap}
use Rattle.x86_64_model.specs.Position.{span, page_path}
use Rattle.x86_64_model.specs.Refusal.{Done, Refused, ParentEntryHugePage}
use Rattle.x86_64_model.specs.Standing.{IsMappedIn}
use Rattle.x86_64_model.specs.Window.{Window, begins_with, IsValidFor}

-- After an accepted `map_to` with PRESENT its page stands: its own entry is the requested one, and each parent names a table
-- and has the parent flags.
abbrev pub AcceptedMapsStand : Type 0
AcceptedMapsStand = (L level : ℕ) (T : Words) (root : ℕ) (M : PathMap) (supply : List ℕ) (added : ℕ) (q : List ℕ) (frame given : ℕ)
    → Holds L T root M → IsParentFlags added → AllByRecursion IsFrame supply → Asks L level q frame given
    → let after = map_call L M supply (parent_part given) added q frame given in
    after.answer ≡ Done frame → IsMappedIn L level after.paths q frame given

-- Each map keeps a page that stands, with one exception: a map of a smaller page that is refused by a huge parent, which gets the
-- parent flags.
abbrev pub MapsLeaveStanding : Type 0
MapsLeaveStanding = (L level : ℕ) (T : Words) (root : ℕ) (M : PathMap) (supply : List ℕ) (more added : ℕ) (q : List ℕ) (frame given : ℕ)
    → Holds L T root M → IsParentFlags more → length q ≤ L → (page : List ℕ) (f flags : ℕ) → IsMappedIn L level M page f flags
    → let after = map_call L M supply more added q frame given in
    (length q ≤ length page) ⊎ (after.answer ≢ Refused ParentEntryHugePage) → IsMappedIn L level after.paths page f flags

-- The walk at each position (the number of an address counted without the gap) of a page that stands, outside the recursive
-- window, arrives at the frame's start plus the offset, with exactly the rights of its flags.
abbrev pub StandingPagesArrive : Type 0
StandingPagesArrive = (L level : ℕ) (window : Option Window) (T : Words) (root : ℕ) (M : PathMap) (q : List ℕ) (frame given : ℕ)
    → IsValidFor L window T root M → begins_with window q ≡ false → IsMappedIn L level M q frame given
    → (p : ℕ) → take (length q) (page_path L p) ≡ q
    → page_walk L T root p ≡ Some (record { address = frame + p % span level; write = writable given; user = user given })

-- A map of a page that shares a position with a page that stands isn't accepted.
abbrev pub StandingPagesRefuse : Type 0
StandingPagesRefuse = (L level : ℕ) (T : Words) (root : ℕ) (M : PathMap) (supply : List ℕ) (more added : ℕ) (q : List ℕ) (frame given : ℕ)
    → Holds L T root M → 1 ≤ length q → length q ≤ L → (page : List ℕ) (f flags : ℕ) → IsMappedIn L level M page f flags
    → (p : ℕ) → take (length page) (page_path L p) ≡ page → take (length q) (page_path L p) ≡ q
    → (map_call L M supply more added q frame given).answer ≢ Done frame
