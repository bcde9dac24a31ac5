-- The effect of a list of calls on a mapper and a frame store, which are a machine and its state.
use Rattle.std.specs.Prelude.{◌≡◌, ℕ, true, List, [], ◌∷◌, ◌++◌, ◌+◌, length, map, drop, Option, Some}
use Rattle.std.specs.List.{AllByRecursion}
use Rattle.x86_64_model.specs.Call.{Call}
use Rattle.x86_64_model.specs.Memory.{Memory}
use Rattle.x86_64_model.specs.Machine.{Machine, State, step, state_after}
pub use Rattle.x86_64_model.specs.Hierarchy.{machine_of, state_in, PoolFits}
pub use Rattle.x86_64_model.specs.Store.{Keeps, KeepsPool}
use Rattle.x86_64_model.specs.Hierarchy.{Hierarchy}
use Rattle.x86_64_model.specs.Store.{Store}
use Rattle.x86_64_model.specs.Flushing.{freed_by}
use Rattle.x86_64.specs.FreeFrames.{KeepsFree, all_back}
use Rattle.x86_64.specs.Replies.{Reply, reply_of, changes_nothing}

-- The replies to a list of calls, one for each, from a state of the machine on. `asks` turns each call into one of the model.
abbrev pub replies_to : {C : Type 0} → (asks : C → Call) → Machine → State → List C → List (Option Reply)
replies_to asks machine state [] = []
replies_to asks machine state (call ∷ calls) = let after = step machine state (asks call) in reply_of (asks call) after.reply ∷ replies_to asks machine after.state calls

-- The elements that were appended to a list: those after as many as it had before.
abbrev pub appended : {R : Type 0} → (before after : List R) → List R
appended before after = drop (length before) after

-- If each of these replies shows that nothing changed, the memory is the same as before.
abbrev pub UnchangedIfRefused : List Reply → (m n : Memory) → Type 0
UnchangedIfRefused replies m n = AllByRecursion (λ reply. changes_nothing reply ≡ true) replies → n ≡ m

-- ---- of a hierarchy and a store

-- The machine for a hierarchy and its store: it has the hierarchy's layout, and puts a returned frame where the store does.
abbrev pub machine_with : {Lent : Type 0} → Hierarchy Lent → Store → Machine
machine_with h store = machine_of h.layout store.take_back

-- The machine's state for a hierarchy and its store: the hierarchy's path map, and the store's free frames.
abbrev pub state_with : {Lent : Type 0} → Hierarchy Lent → Store → State
state_with h store = state_in h.layout h.memory store.frames

-- The result of a call: the machine's next state, and the reply, or `None` if the machine never replies to such a call so.
pub record AfterStep (R : Type 0) : Type 0 where
  pub state : State
  pub reply : Option R

-- The machine's step for a call: the next state, and the mapper's reply for that of the machine.
abbrev pub step_by : Machine → State → Call → AfterStep Reply
step_by machine state call = let after = step machine state call in record { state = after.state; reply = reply_of call after.reply }

-- A call was executed: the memory and the free frames that are left are in the state after the machine's step, and the reply is
-- the machine's.
abbrev pub Stepped : {Lent : Type 0} → (h : Hierarchy Lent) → Store → Call → Reply → (after : Hierarchy Lent) → (rest : List ℕ) → Type 0
Stepped h store call reply after rest = step_by (machine_with h store) (state_with h store) call ≡ record { state = state_in h.layout after.memory rest; reply = Some reply }

-- What a call leaves in the frames that are free afterwards: the returned ones hold zeros, and the others keep their words.
abbrev pub LeavesFree : {Lent : Type 0} → (h : Hierarchy Lent) → Store → Call → (after : Hierarchy Lent) → (rest : List ℕ) → Type 0
LeavesFree h store call after rest =
    KeepsFree h.layout h.memory store.frames (freed_by h.layout.levels (state_with h store) call) after.memory rest

-- A list of calls was executed. The machine's replies, one per call, follow those of before, and the state is the machine's. If
-- every reply shows that nothing changed, no word did. Free frames keep their words, except that returned frames hold zeros.
pub record Ran {C Lent : Type 0} (asks : C → Call) (h : Hierarchy Lent) (store : Store) (calls : List C) (before now : List Reply) (after : Hierarchy Lent) (rest : List ℕ) : Type 0 where
  pub replies : map Some now ≡ map Some before ++ replies_to asks (machine_with h store) (state_with h store) calls
  pub one_each : length now ≡ length before + length calls
  pub refused : UnchangedIfRefused (appended before now) h.memory after.memory
  pub state : state_in h.layout after.memory rest ≡ state_after (machine_with h store) (state_with h store) (map asks calls)
  pub free : KeepsFree h.layout h.memory store.frames (all_back (machine_with h store) (state_with h store) (map asks calls)) after.memory rest
