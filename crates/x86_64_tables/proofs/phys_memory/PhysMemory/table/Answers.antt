use Rattle.std.proofs.Common.{◌∙◌}
use Rattle.x86_64_tables.proofs.Places.{copied_is_element}
use Rattle.x86_64_tables.proofs.PlacesInOrder.{dense_table}
use Rattle.x86_64_tables.proofs.phys_memory.PhysMemory.table.Goals as goal

pub returns-then-is_dense : goal.returns-then-is_dense
returns-then-is_dense c =
    let inside = c.self.inside in
    let tables = inside.tables.items in
    let lookup = rw (c.deref.ensures.value, c.number.ensures) at c.get.ensures.lookup in
    copied_is_element c.get.result tables c.args.place lookup.0 lookup.1
    ∙ dense_table inside.places tables c.args.self.now c.self.invariant.0 c.self.view_is c.self.invariant.1 (c.is_dense.ensures c.if-is_dense.true) c.args.place
