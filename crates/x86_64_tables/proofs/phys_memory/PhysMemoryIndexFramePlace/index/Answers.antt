use Rattle.x86_64_tables.proofs.Places.{within, read}
use Rattle.x86_64_tables.proofs.PlacesInOrder.{stands_there}
use Rattle.x86_64_tables.proofs.phys_memory.PhysMemoryIndexFramePlace.index.Goals as goal

pub index-requires : goal.index-requires
index-requires c =
    let inside = c.self.inside in
    let places = inside.places in
    let tables = inside.tables.items in
    let place = c.args.place in
    let found = stands_there places tables c.args.self.now c.self.invariant.0 c.self.view_is c.self.invariant.1 (c.is_dense.ensures c.if-is_dense.true) place c.requires in
    rw (c.number.ensures, inside.tables.ok.0) (within places tables c.args.self.now c.self.invariant.0 c.self.view_is place place found)

pub returns-then-is_dense : goal.returns-then-is_dense
returns-then-is_dense c =
    let inside = c.self.inside in
    let places = inside.places in
    let tables = inside.tables.items in
    let place = c.args.place in
    let found = stands_there places tables c.args.self.now c.self.invariant.0 c.self.view_is c.self.invariant.1 (c.is_dense.ensures c.if-is_dense.true) place c.requires in
    read places tables c.args.self.now c.self.invariant.0 c.self.view_is place place c.index.result.now found (rw c.number.ensures at c.index.ensures)
