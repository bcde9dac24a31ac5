use Rattle.std.proofs.Common.{refl}
use Rattle.x86_64_tables.proofs.Places.{within, read, changed}
use Rattle.x86_64_tables.proofs.PlacesInOrder.{stands_there}
use Rattle.x86_64_tables.proofs.phys_memory.PhysMemoryIndexMutFramePlace.index_mut.Goals as goal

pub index_mut-requires : goal.index_mut-requires
index_mut-requires c =
    let inside = c.self.inside in
    let places = inside.places in
    let tables = inside.tables.items in
    let place = c.args.place in
    let found = stands_there places tables c.args.self.now c.self.invariant.0 c.self.view_is c.self.invariant.1 (c.is_dense.ensures c.if-is_dense.true) place c.requires in
    rw (c.number.ensures, inside.tables.ok.0) (within places tables c.args.self.now c.self.invariant.0 c.self.view_is place place found)

pub returns-then-is_dense : goal.returns-then-is_dense
returns-then-is_dense c =
    let places = c.self.inside.places in
    let tables = c.self.inside.tables.items in
    let memory = c.args.self.now in
    let same = c.self.invariant.0 in
    let place = c.args.place in
    let found = stands_there places tables memory same c.self.view_is c.self.invariant.1 (c.is_dense.ensures c.if-is_dense.true) place c.requires in (
      (refl, λ w. rw c.number.ensures (changed places tables memory same c.self.view_is place place w found)),
      record {
        writes_back = tt;
        value = read places tables memory same c.self.view_is place place c.index_mut.result.now found (rw c.number.ensures at c.index_mut.ensures.value);
      },
    )
