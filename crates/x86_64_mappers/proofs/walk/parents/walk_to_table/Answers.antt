use Rattle.std.proofs.Common.{◌<◌, [], ap, ◌∙◌, subst, sym}
use Rattle.std.proofs.lemmas.List.{get_or_read}
use Rattle.x86_64_model.specs.Hierarchy.{◌laid_in◌, words}
use Rattle.x86_64_model.specs.Memory.{word}
use Rattle.x86_64_mappers.proofs.Way.Finds.{each_way_start, each_way_next, each_way_stop, find_end, IsOnEachWay}
use Rattle.x86_64_mappers.proofs.Way.ReachedSteps.{IsHere, here_first, here_next}
use Rattle.x86_64_mappers.specs.private.Results.{walk_refusal}
use Rattle.x86_64_mappers.specs.private.Stops.{table_below}
use Rattle.x86_64_mappers.proofs.walk.parents.walk_to_table.Goals as goal

pub loop-k-init : goal.loop-k-init
loop-k-init g c =
    let l = (g.M.Tables.hierarchy c.args.mapper.now).layout in
    let m = (g.M.Tables.hierarchy c.args.mapper.now).memory in record {
      here = subst (IsHere l m c.args.parents.now 0) (sym c.root-table.ensures) (here_first l m c.args.parents.now c.requires.valid);
      each_way = subst (IsOnEachWay l m []) (sym c.root-table.ensures) (each_way_start l m c.requires.valid);
    }

pub returns-in-Err-clause-ends : goal.returns-in-Err-clause-ends
returns-in-Err-clause-ends g c =
    let l = (g.M.Tables.hierarchy c.args.mapper.now).layout in
    let m = (g.M.Tables.hierarchy c.args.mapper.now).memory in
    let item = get_or_read c.args.parents.now c.loop-k.k c.index-parents-k.result c.loop-k-test.true c.index-parents-k.is 0 in
    each_way_stop l m c.requires.valid c.args.parents.now c.requires.short c.loop-k.k c.loop-k-test.true c.loop-k.table c.loop-k.invariant.each_way
    (walk_refusal c.in-Err.why)
    (c.in-Err.ensures.below ∙ ap (λ i. table_below (word (words (l laid_in m)) c.loop-k.table i)) item)

pub loop-k-preserved : goal.loop-k-preserved
loop-k-preserved g c =
    let l = (g.M.Tables.hierarchy c.args.mapper.now).layout in
    let m = (g.M.Tables.hierarchy c.args.mapper.now).memory in
    let item = get_or_read c.args.parents.now c.loop-k.k c.index-parents-k.result c.loop-k-test.true c.index-parents-k.is 0 in
    let below = c.in-Ok.ensures.below ∙ ap (λ i. table_below (word (words (l laid_in m)) c.loop-k.table i)) item in record {
      here = here_next l m c.requires.valid c.args.parents.now c.requires.short c.loop-k.k c.loop-k-test.true c.loop-k.table c.loop-k.invariant.here
          (subst (λ i. i < 512) item c.next_table.ensures.index) c.in-Ok.next below;
      each_way = each_way_next l m c.requires.valid c.args.parents.now c.requires.short c.loop-k.k c.loop-k-test.true c.loop-k.table c.loop-k.invariant.each_way c.in-Ok.next below;
    }

pub returns-clause-found : goal.returns-clause-found
returns-clause-found g c =
    let h = g.M.Tables.hierarchy c.args.mapper.now in
    find_end h.layout h.memory c.args.parents.now c.loop-k.k c.loop-k.table c.loop-k-test.false c.loop-k.invariant.here.way
