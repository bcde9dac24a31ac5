-- Laws of GLOBAL: which calls keep it below shared indices, where it is safe.
use Rattle.std.specs.Prelude.{◌≡◌, ℕ, Bool, true, false, List}
use Rattle.x86_64_model.specs.Call.{Call, IsCall, MapTo, MapToWithTableFlags, IdentityMap, Unmap, UpdateFlags, SetFlags, TranslatePage, Translate, TranslateAddress, CleanUp}
use Rattle.x86_64_model.specs.Machine.{Machine, IsMachine, State, step}
use Rattle.x86_64_model.specs.MapRule.{leaf_entry}
use Rattle.x86_64_model.specs.Mappings.{maps_page}
use Rattle.x86_64_model.specs.Memory.{Words}
use Rattle.x86_64_model.specs.Path.{level_of, path_at}
use Rattle.x86_64_model.specs.PathMap.{PathMap, entry}
use Rattle.x86_64_model.specs.Spaces.{is_shared}
use Rattle.x86_64_model.specs.Laws.Steps.{FitsState}
use Rattle.x86_64_model.specs.Entry.{global}

-- Entries that map pages, present or not, have GLOBAL only if their path begins with a shared index.
abbrev pub GlobalsBelow : (L : ℕ) → (shared : ℕ → Bool) → PathMap → Type 0
GlobalsBelow L shared paths = (q : List ℕ) → maps_page (level_of L q) (entry paths q) ≡ true
    → global (entry paths q) ≡ true → is_shared shared q ≡ true

-- The entry of a page that the call writes, the flags that it sets, and the parent flags of a map, which an entry of a larger page
-- above may get, have GLOBAL only if the path of the call's page begins with a shared index.
abbrev pub GlobalIsShared : (L : ℕ) → (shared : ℕ → Bool) → Call → Type 0
GlobalIsShared L shared (MapTo level page frame given) = is_shared shared (path_at L level page) ≡ false
    → global (leaf_entry L (path_at L level page) frame given) ≡ false
GlobalIsShared L shared (MapToWithTableFlags level page frame given parent_flags) = is_shared shared (path_at L level page) ≡ false
    → (global (leaf_entry L (path_at L level page) frame given) ≡ false) × (global parent_flags ≡ false)
GlobalIsShared L shared (IdentityMap level frame given) = is_shared shared (path_at L level frame) ≡ false
    → global (leaf_entry L (path_at L level frame) frame given) ≡ false
GlobalIsShared L shared (Unmap level page) = Unit {0}
GlobalIsShared L shared (UpdateFlags level page given) = is_shared shared (path_at L level page) ≡ false → global given ≡ false
GlobalIsShared L shared (SetFlags at level page given) = is_shared shared (path_at L level page) ≡ false → global given ≡ false
GlobalIsShared L shared (TranslatePage level page) = Unit {0}
GlobalIsShared L shared (Translate p) = Unit {0}
GlobalIsShared L shared (TranslateAddress p) = Unit {0}
GlobalIsShared L shared (CleanUp low high) = Unit {0}

-- If entries that map pages have GLOBAL only below shared indices, this stays so after a call that gives GLOBAL only there, if the
-- machine's added flags lack it.
abbrev pub CallsKeepGlobals : Type 0
CallsKeepGlobals = (m : Machine) → IsMachine m → global m.added_flags ≡ false
    → (T : Words) (root : ℕ) (serves : ℕ → Bool) (s : State) → FitsState m T root serves s
    → (shared : ℕ → Bool) (call : Call) → IsCall m.levels call → GlobalIsShared m.levels shared call
    → GlobalsBelow m.levels shared s.paths → GlobalsBelow m.levels shared (step m s call).state.paths
