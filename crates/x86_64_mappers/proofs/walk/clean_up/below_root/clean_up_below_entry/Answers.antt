use Rattle.std.proofs.Common.{[], refl, sym, ◌∙◌, subst, arith}
use Rattle.x86_64_model.specs.Path.{span_start}
use Rattle.x86_64_mappers.proofs.CleanUp.BelowRootEnds.{at_root, none_below}
use Rattle.x86_64_mappers.proofs.CleanUp.EntriesInRange.{next_visited, refused_out, recursive_out}
use Rattle.x86_64_mappers.proofs.CleanUp.Visited.{visited_reached}
use Rattle.x86_64_mappers.specs.private.CleaningUp.{last_position, IsVisited}
use Rattle.x86_64_mappers.specs.private.Results.{walk_refusal}
use Rattle.x86_64_mappers.proofs.walk.clean_up.below_root.clean_up_below_entry.Goals as goal

pub returns-then-is_recursive-clause-cleaned : goal.returns-then-is_recursive-clause-cleaned
returns-then-is_recursive-clause-cleaned g c =
    let h = g.M.Tables.hierarchy c.args.mapper.now in
    let low = span_start h.layout.levels c.args.range.now.first.now in
    let high = last_position h.layout.levels c.args.range.now.last.now in
    let valid = c.requires.may.valid in
    record {
      below = none_below h.layout g.D.FrameDeallocator.take_back h.memory valid (g.D.FrameDeallocator.held c.args.frame_deallocator.now) low high c.args.index
          (recursive_out h.layout h.memory valid low high [] c.args.index (at_root h.layout h.memory low high).outside (sym c.is_recursive.ensures ∙ c.if-is_recursive.true));
      serves = refl;
    }

pub next_table-requires-clause-reached : goal.next_table-requires-clause-reached
next_table-requires-clause-reached g c =
    let h = g.M.Tables.hierarchy c.args.mapper.now in
    let low = span_start h.layout.levels c.args.range.now.first.now in
    let high = last_position h.layout.levels c.args.range.now.last.now in
    visited_reached h.layout h.memory low high [] c.root-root.result (subst (IsVisited h.layout h.memory low high []) (sym c.root-root.ensures) (at_root h.layout h.memory low high)) c.requires.may.valid

pub clean_up_table-requires-clause-visited : goal.clean_up_table-requires-clause-visited
clean_up_table-requires-clause-visited g c =
    let h = g.M.Tables.hierarchy c.args.mapper.now in
    let low = span_start h.layout.levels c.args.range.now.first.now in
    let high = last_position h.layout.levels c.args.range.now.last.now in
    let v = subst (IsVisited h.layout h.memory low high []) (sym c.root-root.ensures) (at_root h.layout h.memory low high) in
    (next_visited h.layout h.memory c.requires.may.valid low high [] c.root-root.result v c.args.index c.next_table.ensures.index (sym c.is_recursive.ensures ∙ c.if-is_recursive.false)
    (omega (arith, g.met.M.Tables.at_least_four c.args.mapper.now)) c.requires.meets c.in-Ok.table c.in-Ok.ensures.below).visited

pub returns-in_default-clause-cleaned : goal.returns-in_default-clause-cleaned
returns-in_default-clause-cleaned g c =
    let h = g.M.Tables.hierarchy c.args.mapper.now in
    let low = span_start h.layout.levels c.args.range.now.first.now in
    let high = last_position h.layout.levels c.args.range.now.last.now in
    let valid = c.requires.may.valid in
    let v = subst (IsVisited h.layout h.memory low high []) (sym c.root-root.ensures) (at_root h.layout h.memory low high) in
    record {
      below = none_below h.layout g.D.FrameDeallocator.take_back h.memory valid (g.D.FrameDeallocator.held c.args.frame_deallocator.now) low high c.args.index
          (refused_out h.layout h.memory valid low high [] c.root-root.result v c.args.index c.next_table.ensures.index (sym c.is_recursive.ensures ∙ c.if-is_recursive.false)
          (walk_refusal c.in_default.field-0) c.in_default.ensures.below);
      serves = refl;
    }
