-- Marks of a processor that switches between address spaces of a memory: they may happen at any moment between calls.
use Rattle.std.specs.Prelude.{◌≡◌, ◌≢◌, ◌⊎◌, ◌<◌, ℕ, Bool, true, List, [], ◌∷◌}
use Rattle.x86_64_model.specs.Laws.SwitchedSpaces.{between, AllShare, MaySwitchIn}
use Rattle.x86_64_model.specs.Layout.{Layout}
use Rattle.x86_64_model.specs.Lists.{In}
use Rattle.x86_64_model.specs.MaySwitch.{AllMaySwitch, after_switches}
use Rattle.x86_64_model.specs.Memory.{Memory, Places, Words, IsMapping, word, words_of}
use Rattle.x86_64_model.specs.Spaces.{ArePaired, IsSharing}
use Rattle.x86_64_model.specs.Switches.{Kernel, Switching, SwitchEvent, Marks, held_by}
use Rattle.x86_64_model.specs.Window.{begins_with}
use Rattle.x86_64_access.specs.Marks.{OnlyMarks}

-- The roots' self-entries, and their entries at the indices that a root shares with another one, are the same after as before: they
-- get no marks.
abbrev pub RootsStay : (sharing : (root other : ℕ) → ℕ → Bool) → (before after : Words) → List Layout → Type 0
RootsStay sharing T U layouts = (l : Layout) → In layouts l → (i : ℕ)
    → (begins_with l.window (i ∷ []) ≡ true)
    ⊎ ((b : Layout) × In layouts b × (l.root ≢ b.root) × (sharing l.root b.root i ≡ true))
    → word U l.root i ≡ word T l.root i

-- The list of the one event of marks that leads to these words.
abbrev pub mark_events : Kernel → (after : Words) → List SwitchEvent
mark_events k U = Marks (held_by k U) U ∷ []

-- Marks of a memory with address spaces may happen while no call is under way, if the roots' self-entries and shared entries get
-- none. They lead to the system with the words after them, in which these are address spaces again.
abbrev pub MarksMaySwitch : Type 0
MarksMaySwitch = (k : Kernel) (places : Places) → IsMapping places → 0 < k.levels
    → (sharing : (root other : ℕ) → ℕ → Bool) → IsSharing sharing → AllShare k sharing
    → (m n : Memory) (pool : List ℕ) (layouts : List Layout) → ArePaired sharing m k.serves pool layouts
    → let T = words_of m places in let U = words_of n places in
    MaySwitchIn k places T layouts → OnlyMarks T U → RootsStay sharing T U layouts
    → (s : Switching) → let now = between k T pool layouts s in
    AllMaySwitch k now (mark_events k U)
    × (after_switches k now (mark_events k U) ≡ between k U pool layouts s)
    × ArePaired sharing n k.serves pool layouts
    × MaySwitchIn k places U layouts
