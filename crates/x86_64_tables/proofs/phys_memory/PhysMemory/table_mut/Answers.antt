use Rattle.std.proofs.Common.{◌∙◌, slice_set}
use Rattle.x86_64_tables.specs.PhysMemory.{tables_at}
use Rattle.x86_64_tables.proofs.Places.{changed, lends_alike, lent_is_element}
use Rattle.x86_64_tables.proofs.PlacesInOrder.{stands, dense_table}
use Rattle.x86_64_tables.proofs.phys_memory.PhysMemory.table_mut.Goals as goal

pub returns-then-is_dense : goal.returns-then-is_dense
returns-then-is_dense c =
    let inside = c.self.inside in
    let places = inside.places in
    let tables = inside.tables.items in
    let memory = c.args.self.now in
    let place = c.args.place in
    let same = c.self.invariant.0 in
    let dense = c.is_dense.ensures c.if-is_dense.true in
    let variant = rw (inside.tables.ok.0, c.number.ensures) at c.get_mut.ensures.variant in
    let value = rw c.number.ensures at c.get_mut.ensures.value in
    rw c.number.ensures (
      lends_alike c.get_mut.result {F = λ w. tables_at places (slice_set tables place w)} c.self.view_is (λ s w.
          changed places tables memory same c.self.view_is place place w (stands places tables memory same c.self.view_is c.self.invariant.1 dense place (variant.0 s))),
      record {
        writes_back = tt;
        value = lent_is_element c.get_mut.result tables place variant.0 variant.1 value
            ∙ dense_table places tables memory same c.self.view_is c.self.invariant.1 dense place;
      },
    )
