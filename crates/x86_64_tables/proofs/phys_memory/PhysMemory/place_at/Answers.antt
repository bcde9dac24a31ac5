use Rattle.std.proofs.Common.{◌∙◌, ap, sym, Some}
use Rattle.std.specs.FinMap as map
use Rattle.std.specs.List.{slice_get}
use Rattle.x86_64_tables.proofs.PlacesInOrder.{keys-tables}
use Rattle.x86_64_tables.proofs.phys_memory.PhysMemory.place_at.Goals as goal

pub returns-in_err-number : goal.returns-in_err-number
returns-in_err-number c =
    let inside = c.self.inside in
    c.from_residual.ensures ∙ sym c.in_err-number.was ∙ c.number_at.ensures
    ∙ ap (λ ps. slice_get ps c.args.n) (sym (keys-tables inside.places inside.tables.items c.self.invariant.1 c.self.invariant.0))
    ∙ ap (λ m. slice_get (map.keys m) c.args.n) c.self.view_is

pub returns : goal.returns
returns c =
    let inside = c.self.inside in
    ap Some c.new.ensures ∙ sym c.in_ok-number.was ∙ c.number_at.ensures
    ∙ ap (λ ps. slice_get ps c.args.n) (sym (keys-tables inside.places inside.tables.items c.self.invariant.1 c.self.invariant.0))
    ∙ ap (λ m. slice_get (map.keys m) c.args.n) c.self.view_is
