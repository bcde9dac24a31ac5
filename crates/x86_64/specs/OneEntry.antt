-- What a kernel learns from the one entry that a change of flags writes.
use Rattle.std.specs.Prelude.{◌≡◌, ℕ, true, List, Option, Some, None}
use Rattle.x86_64_model.specs.Call.{Call, UpdateFlags, SetFlags}
use Rattle.x86_64_model.specs.Entry.{used}
use Rattle.x86_64_model.specs.Flushing.{LosesNothing}
use Rattle.x86_64_model.specs.Machine.{Machine, State, step}
use Rattle.x86_64_model.specs.Path.{front_at, path_at}
use Rattle.x86_64_model.specs.PathMap.{entry}
use Rattle.x86_64.specs.Processors.{NoneLoses}

-- The path of the entry that a change of flags writes, or `None` for any other call.
abbrev pub changed_by : (L : ℕ) → Call → Option (List ℕ)
changed_by L (UpdateFlags level page given) = Some (path_at L level page)
changed_by L (SetFlags at level page given) = Some (front_at L at (path_at L level page))
changed_by L call = None

-- If the entry that a change of flags writes loses nothing, no used entry does.
abbrev pub OneEntryDecides : Type 0
OneEntryDecides = (m : Machine) (s : State) (call : Call) (q : List ℕ) → changed_by m.levels call ≡ Some q
    → (used (entry s.paths q) ≡ true → LosesNothing (entry s.paths q) (entry (step m s call).state.paths q)) → NoneLoses m s call
