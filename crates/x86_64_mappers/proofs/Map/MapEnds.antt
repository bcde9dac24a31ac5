-- The condition and the result of a mapper's map, from what the rule says about the memory.
use Rattle.std.proofs.Common.{◌≡◌, ℕ, zero, suc, false, List, [], ◌∷◌, take, Option, Some, None, refl, subst}
use Rattle.x86_64_model.specs.Window.{Window, begins_with}
use Rattle.x86_64_model.proofs.Lemmas.Machines.Owners.{does_map}
use Rattle.x86_64_model.specs.private.MapperCalls.{MapsPage, MapsPath}
use Rattle.x86_64_model.specs.Hierarchy.{Hierarchy}
use Rattle.x86_64_model.specs.Refusal.{Answer}
use Rattle.x86_64_mappers.proofs.Entry.EntryEnds.{with_memory}

-- the front of a path outside the window is outside it
pub outside_front : (window : Option Window) (k : ℕ) (q : List ℕ) → begins_with window q ≡ false → begins_with window (take k q) ≡ false
outside_front None k q outside = refl
outside_front (Some w) zero q outside = refl
outside_front (Some w) (suc k) [] outside = refl
outside_front (Some w) (suc k) (i ∷ q) outside = outside

module _ {Lent : Type 0} (h : Hierarchy Lent) (supply : List ℕ) (q : List ℕ) (frame given more : ℕ) where
  pub ends_map : (after : Hierarchy Lent) → after.layout ≡ h.layout → after.lent ≡ h.lent → (answer : Answer) (rest : List ℕ)
      → MapsPage h.layout h.memory supply q frame given more answer after.memory rest → MapsPath h supply q frame given more answer after rest
  ends_map after layout lent answer rest mapped = subst (λ h'. MapsPath h supply q frame given more answer h' rest) (with_memory h after layout lent)
      (does_map h supply q frame given more answer after.memory rest mapped)
