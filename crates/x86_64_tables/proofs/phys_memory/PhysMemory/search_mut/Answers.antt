use Rattle.std.proofs.Common.{◌∙◌, inr, ap, sym, slice_set}
use Rattle.x86_64_tables.specs.PhysMemory.{tables_at}
use Rattle.x86_64_tables.proofs.Places.{there, gone, changed, lends_alike, lent_is_element}
use Rattle.x86_64_tables.proofs.phys_memory.PhysMemory.search_mut.Goals as goal

pub returns-in_err-index : goal.returns-in_err-index
returns-in_err-index c =
    let inside = c.self.inside in
    let none = sym (rw c.number.ensures at c.index_of.ensures) ∙ c.in_err-index.was in
    rw c.from_residual.ensures (
      ap inr c.self.view_is,
      record {
        writes_back = tt;
        value = gone inside.places inside.tables.items c.args.self.now c.self.invariant.0 c.self.view_is c.args.place none;
      },
    )

pub returns : goal.returns
returns c =
    let inside = c.self.inside in
    let places = inside.places in
    let tables = inside.tables.items in
    let memory = c.args.self.now in
    let index = c.in_ok-index.index in
    let found = sym (rw c.number.ensures at c.index_of.ensures) ∙ c.in_ok-index.was in
    let variant = rw inside.tables.ok.0 at c.get_mut.ensures.variant in (
      lends_alike c.get_mut.result {F = λ w. tables_at places (slice_set tables index w)} c.self.view_is (λ s w.
          changed places tables memory c.self.invariant.0 c.self.view_is c.args.place index w found),
      record {
        writes_back = tt;
        value = lent_is_element c.get_mut.result tables index variant.0 variant.1 c.get_mut.ensures.value
            ∙ there places tables memory c.self.invariant.0 c.self.view_is c.args.place index found;
      },
    )
