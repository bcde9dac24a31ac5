use Rattle.std.proofs.Common.{sym, subst, ap, length, ◌∙◌, ℕ, List}
use Rattle.std.specs.FinMap as map
use Rattle.x86_64_tables.specs.private.SortedPlaces.{HasRun}
use Rattle.x86_64_tables.proofs.PlacesInOrder.{keys-tables}
use Rattle.x86_64_tables.proofs.phys_memory.PhysMemory.is_dense.Goals as goal

pub returns : goal.returns
returns c holds =
    let inside = c.self.inside in
    let is = keys-tables inside.places inside.tables.items c.self.invariant.1 c.self.invariant.0 in
    subst (λ (places : List ℕ). HasRun places 0 (length places)) (sym is ∙ ap map.keys c.self.view_is) (c.is_dense.ensures holds)
