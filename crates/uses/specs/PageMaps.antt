-- Calls on pages that are made if they are allowed.
use Rattle.std.specs.Prelude.{◌≡◌, ℕ, Bool, true, List, ◌∷◌, [], Some, Result, IfOk, IsTrue}
use Rattle.x86_64_mappers.specs.Ranges.{MapRange, MayMapRange, range_of}
use Rattle.x86_64_model.specs.Call.{Call, MapTo, MapToWithTableFlags, Unmap, CleanUp}
use Rattle.x86_64_model.specs.Entry.{present}
use Rattle.x86_64_model.specs.Hierarchy.{Hierarchy, ArrivesIn, DoesMap, allows, map_outcome, paths}
use Rattle.x86_64_model.specs.MapRule.{parent_part}
use Rattle.x86_64_model.specs.Refusal.{Answer, Done}

-- If the hierarchy allows the map of a page, the map has this answer, and it leaves the hierarchy `after` and the rest of the
-- supply.
abbrev pub MapsIfAllowed : {Lent : Type 0} → (h : Hierarchy Lent) → (supply : List ℕ) → Call → Answer → (after : Hierarchy Lent) → (rest : List ℕ) → Type 0
MapsIfAllowed h supply call answer after rest = allows h call ≡ true → DoesMap h supply call answer after rest

-- If the hierarchy allows the map of a page, the map has this answer, and turns the path map and the supply into those after it,
-- by the rule of maps.
abbrev pub StepsIfAllowed : {Lent : Type 0} → (h : Hierarchy Lent) → (supply : List ℕ) → Call → Answer → (after : Hierarchy Lent) → (rest : List ℕ) → Type 0
StepsIfAllowed h supply call answer after rest = allows h call ≡ true
    → map_outcome h.layout.levels h.layout.added_flags (paths h) supply call ≡ Some (record { paths = paths after; supply = rest; answer = answer })

-- If the page was mapped (the result is `true`) with PRESENT, the page walk of each of its addresses arrives in the frame, with
-- exactly the rights of the flags.
abbrev pub MappedArrives : {Lent E : Type 0} → (result : Result Bool E) → Hierarchy Lent → (page frame flags : ℕ) → Type 0
MappedArrives result h page frame given = IfOk result (λ mapped. IsTrue mapped → present given ≡ true → ArrivesIn h 4096 page frame given)

-- The page was mapped to the frame, and the entries above it got PRESENT, WRITABLE and USER_ACCESSIBLE as far as the flags have
-- them.
abbrev pub MapsByFlags : {Lent : Type 0} → (h : Hierarchy Lent) → (supply : List ℕ) → (page frame flags : ℕ) → (after : Hierarchy Lent) → (rest : List ℕ) → Type 0
MapsByFlags h supply page frame given after rest = DoesMap h supply (MapToWithTableFlags 1 page frame given (parent_part given)) (Done frame) after rest

-- ---- a buffer

-- The pages from this one on, to be mapped to the frames from this one on. The entries above them get PRESENT, WRITABLE and
-- USER_ACCESSIBLE as far as the flags have them.
abbrev pub buffer_at : (page frame flags : ℕ) → MapRange
buffer_at page frame given = range_of 1 page frame given (parent_part given)

-- A buffer of this many pages may be mapped with flags that have PRESENT.
abbrev pub MayMapBuffer : {Lent : Type 0} → Hierarchy Lent → MapRange → (count : ℕ) → Type 0
MayMapBuffer h range count = (present range.parent_flags ≡ true) × MayMapRange h range count

-- ---- a list of calls

-- Three calls, with four levels: the first maps a page, the second unmaps it, and the third returns the frames of all empty
-- tables.
abbrev pub three_calls : (page frame flags : ℕ) → List Call
three_calls page frame given = MapTo 1 page frame given ∷ Unmap 1 page ∷ CleanUp 0 0xffff_ffff_ffff ∷ []
