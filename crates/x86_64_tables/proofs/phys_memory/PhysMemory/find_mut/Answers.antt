use Rattle.std.proofs.Common.{refl, sym}
use Rattle.x86_64_tables.proofs.Places.{found_there, within, read, changed}
use Rattle.x86_64_tables.proofs.phys_memory.PhysMemory.find_mut.Goals as goal

pub index_there-index-requires : goal.index_there-index-requires
index_there-index-requires c =
    let inside = c.self.inside in
    rw c.number.ensures (found_there inside.places inside.tables.items c.args.self.now c.self.invariant.0 c.self.view_is c.args.place c.requires _ refl)

pub index_mut-requires : goal.index_mut-requires
index_mut-requires c =
    let inside = c.self.inside in
    let found = sym (rw c.number.ensures at c.index_there-index.ensures) in
    rw inside.tables.ok.0 (within inside.places inside.tables.items c.args.self.now c.self.invariant.0 c.self.view_is c.args.place c.index_there-index.result found)

pub returns : goal.returns
returns c =
    let places = c.self.inside.places in
    let tables = c.self.inside.tables.items in
    let memory = c.args.self.now in
    let same = c.self.invariant.0 in
    let index = c.index_there-index.result in
    let found = sym (rw c.number.ensures at c.index_there-index.ensures) in (
      (refl, λ w. changed places tables memory same c.self.view_is c.args.place index w found),
      record {
        writes_back = tt;
        value = read places tables memory same c.self.view_is c.args.place index c.index_mut.result.now found c.index_mut.ensures.value;
      },
    )
