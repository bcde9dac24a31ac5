-- Steps of a map one after the other.
use Rattle.std.specs.Prelude.{ℕ, List}
use Rattle.std.proofs.Common.{refl, ◌∙◌}
use Rattle.x86_64_model.specs.Layout.{Layout}
use Rattle.x86_64_model.specs.Hierarchy.{◌laid_in◌, SupplyFits}
use Rattle.x86_64_model.specs.Memory.{Memory}
use Rattle.x86_64_mappers.specs.private.MapSteps.{KeepsOwned}

pub owned_nothing : (l : Layout) (m : Memory) (s : List ℕ) → SupplyFits (l laid_in m) s → KeepsOwned l m s m s
owned_nothing l m s ready = record { ready = ready; own = λ f h. h; within = λ f h. h; others = λ k h. refl }

pub owned_then : (l : Layout) (a : Memory) (x : List ℕ) (b : Memory) (y : List ℕ) (c : Memory) (z : List ℕ) → KeepsOwned l a x b y → KeepsOwned l b y c z → KeepsOwned l a x c z
owned_then l a x b y c z g h = record {
  ready = h.ready;
  own = λ f o. g.own f (h.own f o);
  within = λ f i. g.within f (h.within f i);
  others = λ k n. h.others k (λ f o. n f (g.own f o.0, o.1)) ∙ g.others k (λ f o. n f (o.0, λ i. o.1 (h.within f i)));
}
