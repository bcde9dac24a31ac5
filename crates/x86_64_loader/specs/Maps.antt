-- Maps of a list of pages, one after another, and their effect on a hierarchy and on a supply (the free frames in the order they
-- are handed out).
use Rattle.std.specs.Prelude.{◌≡◌, ℕ, Bool, List, [], ◌∷◌, ◌++◌, map}
use Rattle.x86_64_model.specs.Arrivals.{KeepsArrival}
use Rattle.x86_64_model.specs.Call.{Reply, Answered}
use Rattle.x86_64_model.specs.Machine.{replies_of, state_after}
use Rattle.x86_64_model.specs.Hierarchy.{Hierarchy, PoolFits, SupplyFits, machine_of, state_of, walk}
use Rattle.x86_64_model.specs.PageMappings.{PageMapping, accepted, map_calls}
use Rattle.x86_64_model.specs.Refusal.{Refusal, Refused}
use Rattle.x86_64_mappers.specs.Supplies.{Supply}
use Rattle.x86_64.specs.FreeFrames.{KeepsFree}
use Rattle.x86_64_model.specs.Store.{KeepsPool}

-- The pages were mapped by `map_to` in order. Answers and state are the machine's, however its pool takes frames back. The
-- machine is the abstract mapper of the model.
pub record Made {Lent : Type 0} (h : Hierarchy Lent) (supply : List ℕ) (pages : List PageMapping) (answers : List Reply) (after : Hierarchy Lent) (rest : List ℕ) : Type 0 where
  pub replies : (take_back : List ℕ → ℕ → List ℕ) → replies_of (machine_of h.layout take_back) (state_of h supply) (map_calls pages) ≡ answers
  pub state : (take_back : List ℕ → ℕ → List ℕ) → state_after (machine_of h.layout take_back) (state_of h supply) (map_calls pages) ≡ state_of after rest

-- The pages were mapped by `map_to` in order, and every map was accepted.
abbrev pub Accepts : {Lent : Type 0} → Hierarchy Lent → (supply : List ℕ) → List PageMapping → (after : Hierarchy Lent) → (rest : List ℕ) → Type 0
Accepts h supply pages after rest = Made h supply pages (map accepted pages) after rest

-- The pages and then the next one were to be mapped by `map_to` in order. Every map was accepted but the last, which was refused
-- for this reason.
abbrev pub Refuses : {Lent : Type 0} → Hierarchy Lent → (supply : List ℕ) → List PageMapping → (next : PageMapping) → Refusal → (after : Hierarchy Lent) → (rest : List ℕ) → Type 0
Refuses h supply pages next why after rest = Made h supply (pages ++ next ∷ []) (map accepted pages ++ Answered (Refused why) ∷ []) after rest

-- What maps keep: all that lists of calls keep of a pool that fits, whatever frames it serves, and the words of free frames. The
-- supply serves the same frames. Each page walk that arrived still does, at its address and with no right lost.
pub record KeptWithSupply {Lent : Type 0} (h : Hierarchy Lent) (supply : Supply) (after : Hierarchy Lent) (rest : Supply) : Type 0 where
  pub fits : SupplyFits after rest.frames
  pub keeps : (serves : ℕ → Bool) → PoolFits h serves supply.frames → KeepsPool h.layout serves h.memory supply.frames after.memory rest.frames
  pub serves : rest.serves ≡ supply.serves
  pub free : KeepsFree h.layout h.memory supply.frames [] after.memory rest.frames
  pub walks : (p : ℕ) → KeepsArrival (walk h p) (walk after p)
  pub layout : after.layout ≡ h.layout
  pub lent : after.lent ≡ h.lent
