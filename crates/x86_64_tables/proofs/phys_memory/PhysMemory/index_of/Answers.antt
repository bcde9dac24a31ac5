use Rattle.std.proofs.Common.{◌∙◌, ap, sym}
use Rattle.std.specs.FinMap as map
use Rattle.std.specs.List.{position}
use Rattle.std.specs.Ordering.{nat_cmp, eq_by_cmp}
use Rattle.x86_64_tables.proofs.PlacesInOrder.{keys-tables}
use Rattle.x86_64_tables.proofs.phys_memory.PhysMemory.index_of.Goals as goal

pub returns : goal.returns
returns c =
    let inside = c.self.inside in
    let test = eq_by_cmp nat_cmp c.args.place in
    (rw c.number.ensures at c.index_of.ensures)
    ∙ ap (position test) (sym (keys-tables inside.places inside.tables.items c.self.invariant.1 c.self.invariant.0))
    ∙ ap (λ m. position test (map.keys m)) c.self.view_is
