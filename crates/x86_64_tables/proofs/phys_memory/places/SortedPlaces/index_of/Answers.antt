use Rattle.std.proofs.Common.{◌∙◌, ap, subst}
use Rattle.std.specs.List.{position}
use Rattle.std.specs.List.Sorted.{IsStrictlyIncreasing}
use Rattle.std.specs.Ordering.{nat_cmp, eq_by_cmp}
use Rattle.x86_64_tables.proofs.PlacesInOrder.{position_in_run, position_searched, position_there}
use Rattle.x86_64_tables.proofs.phys_memory.places.SortedPlaces.index_of.Goals as goal

pub returns-then-distance-self : goal.returns-then-distance-self
returns-then-distance-self c =
    let inside = c.self.inside in
    position_in_run inside.numbers.items inside.first inside.run c.args.number c.self.invariant.0 c.self.invariant.1 c.ranges.number.fits c.if-distance-self.true
    ∙ ap (position (eq_by_cmp nat_cmp c.args.number)) c.self.view_is

pub returns-then-stands_at : goal.returns-then-stands_at
returns-then-stands_at c =
    let stands = c.stands_at.ensures.0 c.if-stands_at.true in
    let increasing = subst IsStrictlyIncreasing c.self.view_is c.self.invariant.0 in
    position_there c.args.self.now c.args.number increasing _ stands.0 stands.1

pub returns-else-stands_at : goal.returns-else-stands_at
returns-else-stands_at c =
    let numbers = c.self.inside.numbers.items in
    c.ok.ensures.value
    ∙ position_searched numbers c.args.number c.binary_search.result c.self.invariant.0 (rw c.deref.ensures.value at c.binary_search.ensures.position)
    ∙ ap (position (eq_by_cmp nat_cmp c.args.number)) c.self.view_is
