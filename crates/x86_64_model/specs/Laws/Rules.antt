-- Laws that join the rules of calls, which mappers' contracts state, with the steps of the machine.
use Rattle.std.specs.Prelude.{◌≡◌, ℕ, List}
use Rattle.x86_64_model.specs.Call.{Call, CleanUp, Answered, Cleaned}
use Rattle.x86_64_model.specs.Hierarchy.{Hierarchy, MayMap, MayCall, Does, DoesMap, CleansUp, machine_of, state_of}
use Rattle.x86_64_model.specs.Machine.{step}
use Rattle.x86_64_model.specs.Refusal.{Answer}

-- A map that may be made is a step of the machine, wherever its pool puts returned frames: the step leads to what the map leaves, with
-- the map's answer.
abbrev pub MapsAreSteps : Type 0
MapsAreSteps = (h : Hierarchy (Unit {0})) (supply : List ℕ) (call : Call) (answer : Answer) (after : Hierarchy (Unit {0})) (rest : List ℕ)
    → MayMap h supply call → DoesMap h supply call answer after rest → (take_back : List ℕ → ℕ → List ℕ)
    → step (machine_of h.layout take_back) (state_of h supply) call ≡ record { state = state_of after rest; reply = Answered answer }

-- A change of one entry that may be made is a step of the machine, with any pool, wherever it puts returned frames: the step leads to
-- what the change leaves, with its answer.
abbrev pub ChangesAreSteps : Type 0
ChangesAreSteps = (h : Hierarchy (Unit {0})) (call : Call) (answer : Answer) (after : Hierarchy (Unit {0}))
    → MayCall h call → Does h call answer after → (pool : List ℕ) (take_back : List ℕ → ℕ → List ℕ)
    → step (machine_of h.layout take_back) (state_of h pool) call ≡ record { state = state_of after pool; reply = Answered answer }

-- A clean up is a step of the machine, with a pool that holds the same frames.
abbrev pub CleanUpsAreSteps : Type 0
CleanUpsAreSteps = (h : Hierarchy (Unit {0})) (take_back : List ℕ → ℕ → List ℕ) (held : List ℕ) (low high : ℕ) (after : Hierarchy (Unit {0})) (rest : List ℕ)
    → CleansUp h take_back held low high after rest
    → step (machine_of h.layout take_back) (state_of h held) (CleanUp low high) ≡ record { state = state_of after rest; reply = Cleaned }
