-- Hierarchies that a processor uses, which caches what it finds in them.
use Rattle.std.specs.Prelude.{List, []}
use Rattle.x86_64_model.specs.Caches.{Cached}
use Rattle.x86_64_model.specs.Hierarchy.{Hierarchy, words}
use Rattle.x86_64_model.specs.Store.{Store, StoreFits}
use Rattle.x86_64.specs.Processors.{IsReachable, AccessesGo, CachesOften}

-- The hierarchy is valid, and the frames of the store fit it. What the processor has cached came about, from empty caches, by calls,
-- flushes and what a processor may cache at any moment, and no flush is due.
pub record InUse {Lent : Type 0} (h : Hierarchy Lent) (store : Store) (cached : List Cached) : Type 0 where
  pub fits : StoreFits h store
  pub arises : IsReachable h.layout store.take_back store.serves h.memory store.frames cached []

-- The processor drops and makes items, one time after another, while the hierarchy is this one.
abbrev pub CachesIn : {Lent : Type 0} → Hierarchy Lent → (before after : List Cached) → Type 0
CachesIn h before after = CachesOften h.layout.levels h.layout.root (words h) before after

-- Each access goes to the page where the page walk in the hierarchy goes, with no right more.
abbrev pub AccessesGoIn : {Lent : Type 0} → Hierarchy Lent → List Cached → Type 0
AccessesGoIn h cached = AccessesGo h.layout h.memory cached
