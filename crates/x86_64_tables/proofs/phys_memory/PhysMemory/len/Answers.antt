use Rattle.std.proofs.Common.{◌∙◌, ap, sym, length}
use Rattle.std.specs.FinMap as map
use Rattle.x86_64_tables.specs.PhysMemory.{tables_at, length_keys}
use Rattle.x86_64_tables.proofs.PlacesInOrder.{keys-tables}
use Rattle.x86_64_tables.proofs.phys_memory.PhysMemory.len.Goals as goal

pub returns : goal.returns
returns c =
    let inside = c.self.inside in
    let places = inside.places in
    let tables = inside.tables.items in
    let n = c.self.invariant.0 in
    c.len.ensures ∙ (inside.tables.ok.0 ∙ n ∙ sym (ap length (keys-tables places tables c.self.invariant.1 n))
    ∙ length_keys (tables_at places tables) ∙ ap map.len c.self.view_is)
