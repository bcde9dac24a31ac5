-- Laws of accesses: how they agree with page walks.
use Rattle.std.specs.Prelude.{◌≡◌, ℕ, true, false, Some}
use Rattle.x86_64_model.specs.Arrivals.{Reaches}
use Rattle.x86_64_model.specs.Lists.{In}
use Rattle.x86_64_model.specs.Memory.{Words}
use Rattle.x86_64_model.specs.PageWalk.{Walked, page_walk}
use Rattle.x86_64_model.specs.Access.{Access, Arrives, Controls, access, access_allowed, reserved, steps_from}
use Rattle.x86_64_model.specs.Steps.{Step, rights_in}

-- An access that arrives does so at the address at which the page walk of its position arrives.
abbrev pub ArriveWhereWalksDo : Type 0
ArriveWhereWalksDo = (L : ℕ) (c : Controls) (T : Words) (root p : ℕ) (a : Access) (to : ℕ)
    → access L c T root p a ≡ Arrives to → Reaches (page_walk L T root p) to

-- If the page walk arrives, no word on its way has a reserved bit, and the rights that all these words grant suffice, then the
-- access arrives, and at the same address.
abbrev pub WalksAllowedArrive : Type 0
WalksAllowedArrive = (L : ℕ) (c : Controls) (T : Words) (root p : ℕ) (a : Access) (w : Walked) → page_walk L T root p ≡ Some w
    → ((s : Step) → In (steps_from c T p L root) s → reserved c s.level s.word ≡ false)
    → access_allowed c a (rights_in (steps_from c T p L root)) ≡ true
    → access L c T root p a ≡ Arrives w.address
