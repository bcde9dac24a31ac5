use Rattle.std.proofs.Common.{◌∙◌, ap, sym}
use Rattle.std.specs.Option.{option_copied}
use Rattle.x86_64_tables.proofs.Places.{there, gone, copied_is_element}
use Rattle.x86_64_tables.proofs.phys_memory.PhysMemory.search.Goals as goal

pub returns-in_err-index : goal.returns-in_err-index
returns-in_err-index c =
    let inside = c.self.inside in
    let none = sym (rw c.number.ensures at c.index_of.ensures) ∙ c.in_err-index.was in
    ap option_copied c.from_residual.ensures
    ∙ gone inside.places inside.tables.items c.args.self.now c.self.invariant.0 c.self.view_is c.args.place none

pub returns : goal.returns
returns c =
    let inside = c.self.inside in
    let index = c.in_ok-index.index in
    let found = sym (rw c.number.ensures at c.index_of.ensures) ∙ c.in_ok-index.was in
    let lookup = rw c.deref.ensures.value at c.get.ensures.lookup in
    copied_is_element c.get.result inside.tables.items index lookup.0 lookup.1
    ∙ there inside.places inside.tables.items c.args.self.now c.self.invariant.0 c.self.view_is c.args.place index found
