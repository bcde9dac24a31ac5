-- What callers speak of: a hierarchy in a memory of theirs, a pool as a store of frames, and what calls do to both.
use Rattle.std.specs.Prelude.{◌≡◌, ◌++◌, ℕ, List, map, Some}
use Rattle.x86_64_mappers.specs.Layouts.{owned, owned_at}
use Rattle.x86_64_model.specs.Call.{Call}
use Rattle.x86_64_model.specs.Laws.Spaces.{Led}
use Rattle.x86_64_model.specs.Hierarchy.{Hierarchy}
use Rattle.x86_64_model.specs.Memory.{Memory, Places, identity_places, set_word, words_of}
use Rattle.x86_64_model.specs.Store.{Store}
use Rattle.x86_64.specs.Replies.{Reply}
use Rattle.x86_64.specs.Runs.{machine_with, replies_to, state_with}

-- The hierarchy of four levels with this root, in a memory where each frame lies at the place with its number.
abbrev pub hierarchy : (root : ℕ) → Memory → Hierarchy (Unit {0})
hierarchy root memory = owned identity_places root memory tt

-- The hierarchy with this root, any number of levels, and frames at these places.
abbrev pub hierarchy_at : (levels : ℕ) → Places → (root : ℕ) → Memory → Hierarchy (Unit {0})
hierarchy_at levels places root memory = owned_at levels places root memory tt

-- The first entry of the table in a frame is unused now. No other word changed.
abbrev pub RootIsCleared : (root : ℕ) → (m n : Memory) → Type 0
RootIsCleared root m n = words_of n identity_places ≡ set_word (words_of m identity_places) root 0 0

-- The calls lead from a hierarchy and a store to those after them.
abbrev pub LedBy : {C Lent : Type 0} → (asks : C → Call) → (h : Hierarchy Lent) → Store → List C → (after : Hierarchy Lent) → (rest : List ℕ) → Type 0
LedBy asks h store calls after rest = Led h.layout store.take_back h.memory store.frames (map asks calls) after.memory rest

-- These replies to calls were appended to those of before.
abbrev pub Replied : {Lent : Type 0} → (h : Hierarchy Lent) → Store → List Call → (before now : List Reply) → Type 0
Replied h store calls before now =
    map Some now ≡ map Some before ++ replies_to (λ call. call) (machine_with h store) (state_with h store) calls
