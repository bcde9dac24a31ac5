use Rattle.std.proofs.Common.{refl, sym}
use Rattle.x86_64_tables.proofs.Places.{found_there, within, read}
use Rattle.x86_64_tables.proofs.phys_memory.PhysMemory.find.Goals as goal

pub index_there-index-requires : goal.index_there-index-requires
index_there-index-requires c =
    let inside = c.self.inside in
    rw c.number.ensures (found_there inside.places inside.tables.items c.args.self.now c.self.invariant.0 c.self.view_is c.args.place c.requires _ refl)

pub index-requires : goal.index-requires
index-requires c =
    let inside = c.self.inside in
    let found = sym (rw c.number.ensures at c.index_there-index.ensures) in
    rw inside.tables.ok.0 (within inside.places inside.tables.items c.args.self.now c.self.invariant.0 c.self.view_is c.args.place c.index_there-index.result found)

pub returns : goal.returns
returns c =
    let inside = c.self.inside in
    let found = sym (rw c.number.ensures at c.index_there-index.ensures) in
    read inside.places inside.tables.items c.args.self.now c.self.invariant.0 c.self.view_is c.args.place c.index_there-index.result c.index.result.now found c.index.ensures
