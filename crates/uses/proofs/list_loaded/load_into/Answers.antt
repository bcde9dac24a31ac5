use Rattle.std.proofs.Common.{rules, ◌≡◌, ℕ, List, sym, subst}
use Rattle.std.specs.List.{All}
use Rattle.x86_64_loader.specs.Segments.{IsAllowed, IsLoaded, Suffices, small_pages}
use Rattle.x86_64_loader.specs.declared.segment.Segment.{Segment}
use Rattle.x86_64_model.specs.Layout.{Layout}
use Rattle.x86_64_model.specs.Memory.{Memory}
use Rattle.x86_64_model.specs.Hierarchy.{Hierarchy}
use Rattle.uses.proofs.list_loaded.load_into.Goals as goal

abbrev over : Layout → Memory → Hierarchy (Unit {0})
over layout memory = record { layout = layout; memory = memory; lent = tt }

-- what is loaded in a hierarchy is loaded in the memory that was lent
owner_loaded : {Lent : Type 0} (h : Hierarchy Lent) (segments : List Segment) → All (IsLoaded small_pages h) segments
    → (layout : Layout) (memory : Memory) → h.layout ≡ layout → h.memory ≡ memory → All (IsLoaded small_pages (over layout memory)) segments
owner_loaded h segments loaded layout memory layout_is memory_is =
    subst (λ l. All (IsLoaded small_pages (over l memory)) segments) layout_is
    (subst (λ m. All (IsLoaded small_pages (over h.layout m)) segments) memory_is
    (λ k d within. let s = loaded k d within in record { aligned = s.aligned; there = s.there; stand = s.stand; arrives = s.arrives }))

-- what the owner knows about segments holds for the mapper's hierarchy
module _ {Lent : Type 0} (h : Hierarchy Lent) (segments : List Segment) (layout : Layout) (memory : Memory) (layout_is : h.layout ≡ layout) (memory_is : h.memory ≡ memory) where
  mapper_allowed : All (IsAllowed (over layout memory)) segments → All (IsAllowed h) segments
  mapper_allowed allowed =
      let here : All (IsAllowed (over h.layout h.memory)) segments =
      subst (λ l. All (IsAllowed (over l h.memory)) segments) (sym layout_is) (subst (λ m. All (IsAllowed (over layout m)) segments) (sym memory_is) allowed) in
      λ k d within. let s = here k d within in record {
        is_present = s.is_present;
        each_page = λ n below. let page = s.each_page n below in record { page_there = page.page_there; frame_there = page.frame_there; allowed = page.allowed };
      }

  mapper_suffices : (supply : List ℕ) → Suffices small_pages (over layout memory) supply segments → Suffices small_pages h supply segments
  mapper_suffices supply suffices =
      let here : Suffices small_pages (over h.layout h.memory) supply segments =
      subst (λ l. Suffices small_pages (over l h.memory) supply segments) (sym layout_is) (subst (λ m. Suffices small_pages (over layout m) supply segments) (sym memory_is) suffices) in
      record { unmapped = here.unmapped; disjoint = here.disjoint; frames = here.frames }

pub returns-clause-succeeds : goal.returns-clause-succeeds
returns-clause-succeeds g c = λ allowed suffices.
    let layout = c.new-mapper.ensures.layout in
    let memory = c.new-mapper.ensures.memory in
    c.load_by.ensures.succeeds (mapper_allowed _ _ _ _ layout memory allowed) (mapper_suffices _ _ _ _ layout memory _ suffices)

pub returns-clause-loaded : goal.returns-clause-loaded
returns-clause-loaded g c = λ all. owner_loaded _ _ (c.load_by.ensures.loaded all) _ _ (search rules) (search rules)
