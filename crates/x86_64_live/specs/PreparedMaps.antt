-- Maps of pages that were prepared, and preparations that are maps.
use Rattle.std.specs.Prelude.{◌≡◌, ◌<◌, ℕ, true, List, None, bit_or}
use Rattle.x86_64_live.specs.Prepares.{Prepares}
use Rattle.x86_64_mappers.specs.Supplies.{Supply}
use Rattle.x86_64_model.specs.Call.{Call, MapToWithTableFlags}
use Rattle.x86_64_model.specs.Entry.{used}
use Rattle.x86_64_model.specs.Hierarchy.{Hierarchy, SupplyFits, allows, machine_of, paths, path_of, state_of}
use Rattle.x86_64_model.specs.Machine.{step}
use Rattle.x86_64_model.specs.MapRule.{map_call}
use Rattle.x86_64_model.specs.PathMap.{entry}

-- After a page was prepared, a map of it with the same parent flags gives the answer, and leaves the paths and the supply, that it
-- would have given and left alone.
abbrev pub PreparedMapsAreMaps : Type 0
PreparedMapsAreMaps = (h after : Hierarchy (Unit {0})) (supply rest : Supply) (level page more : ℕ) → SupplyFits h supply.frames → Prepares h supply level page more None after rest
    → (frame given : ℕ) → map_call h.layout.levels (paths after) rest.frames more h.layout.added_flags (path_of h level page) frame given
    ≡ map_call h.layout.levels (paths h) supply.frames more h.layout.added_flags (path_of h level page) frame given

-- The call that maps the 4KiB page at a position to frame 0 without flags (a position is an address counted without the
-- non-canonical gap). The entry that it writes is 0.
abbrev pub empty_map : (page parent_flags : ℕ) → Call
empty_map page more = MapToWithTableFlags 1 page 0 0 more

-- If a page of 4KiB was prepared, the machine's step of this call, if it is allowed, leaves what the preparation left. It is refused if
-- the page's entry is used, and otherwise done.
abbrev pub SmallPreparationsAreSteps : Type 0
SmallPreparationsAreSteps = (h after : Hierarchy (Unit {0})) (supply rest : Supply) (page more : ℕ) → SupplyFits h supply.frames → 0 < h.layout.levels → Prepares h supply 1 page more None after rest
    → allows h (empty_map page more) ≡ true → (take_back : List ℕ → ℕ → List ℕ)
    → (step (machine_of h.layout take_back) (state_of h supply.frames) (empty_map page more)).state ≡ state_of after rest.frames

-- A used entry that has the parent flags stays, for example one of the root that address spaces share.
abbrev pub FlaggedEntriesStay : Type 0
FlaggedEntriesStay = (h after : Hierarchy (Unit {0})) (supply rest : Supply) (level page more : ℕ) → SupplyFits h supply.frames → Prepares h supply level page more None after rest
    → (p : List ℕ) → used (entry (paths h) p) ≡ true → bit_or (entry (paths h) p) more ≡ entry (paths h) p → entry (paths after) p ≡ entry (paths h) p
