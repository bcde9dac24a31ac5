use Rattle.std.proofs.Common.{◌≡◌, ◌<◌, Ok, refl, sym, subst, false, ◌∙◌, arith, get_or, length}
use Rattle.std.proofs.lemmas.Result.{err_from_is_err_and}
use Rattle.x86_64_model.specs.Layout.{Layout}
use Rattle.x86_64_model.specs.Hierarchy.{◌laid_in◌, SupplyFits}
use Rattle.x86_64_model.specs.Window.{begins_with}
use Rattle.x86_64_mappers.specs.private.OpenWay.{IsOpenWay}
use Rattle.x86_64_mappers.proofs.Map.Down.{made, turn, stop}
use Rattle.x86_64_mappers.specs.private.Results.{create_refusal}
use Rattle.x86_64_mappers.proofs.Map.OpenWays.{open_end, open_next}
use Rattle.x86_64_mappers.proofs.walk.map.create_tables.Goals as goal

pub returns-in_err-table-clause-made : goal.returns-in_err-table-clause-made
returns-in_err-table-clause-made g c =
    let s = c.args.mapper.now in
    let l = (g.M.Tables.hierarchy s).layout in
    let q = c.args.parents.now in
    let more = c.args.parent_flags.0 in
    let n = (g.M.Tables.hierarchy c.loop-k.mapper).memory in
    let k = c.loop-k.k in
    let inv = c.loop-k.invariant in
    let e = err_from_is_err_and c.from_residual.result c.from_residual.ensures.1 in
    rw (e.1, e.2) (record {
      down = stop l (g.met.M.Tables.is_mapping s).distinct (g.M.Tables.added_flags s).adds (g.M.Tables.hierarchy s).memory (g.A.FrameAllocator.supply c.args.frame_allocator.now) more q c.requires.outside c.requires.flags c.requires.short
          k c.loop-k-test.true n _ c.loop-k.table inv.down (get_or q k 0) refl c.create_next_table.ensures.index (g.M.Tables.hierarchy c.create_next_table.new.mapper).memory _
          (create_refusal c.in_err-table.field-0.0) (rw inv.layout at c.in_err-table.ensures.made.is);
      serves = c.in_err-table.ensures.made.serves ∙ inv.serves;
    })

pub loop-k-preserved : goal.loop-k-preserved
loop-k-preserved g c =
    let s = c.args.mapper.now in
    let l = (g.M.Tables.hierarchy s).layout in
    let m = (g.M.Tables.hierarchy s).memory in
    let supply = g.A.FrameAllocator.supply c.args.frame_allocator.now in
    let apart = (g.met.M.Tables.is_mapping s).distinct in
    let adds = (g.M.Tables.added_flags s).adds in
    let q = c.args.parents.now in
    let more = c.args.parent_flags.0 in
    let n = (g.M.Tables.hierarchy c.loop-k.mapper).memory in
    let o = (g.M.Tables.hierarchy c.create_next_table.new.mapper).memory in
    let k = c.loop-k.k in
    let within = c.loop-k-test.true in
    let inv = c.loop-k.invariant in
    let next = c.in_ok-table.table in
    let small = c.create_next_table.ensures.index in
    let is_made = rw inv.layout at c.in_ok-table.ensures.made.is in
    let step = made l apart adds m supply more q c.requires.outside c.requires.flags c.requires.short k within n _ c.loop-k.table inv.down (get_or q k 0) refl small o _ (Ok next) is_made in record {
      down = turn l apart adds m supply more q c.requires.outside c.requires.flags c.requires.short k within n _ c.loop-k.table inv.down (get_or q k 0) refl small o _ next is_made;
      way = open_next l n inv.down.owned.ready.valid more q k within c.loop-k.table inv.way o step.opens small next step.leads;
      done = omega (arith, within);
      layout = c.create_next_table.ensures.layout ∙ inv.layout;
      lent = c.create_next_table.ensures.lent ∙ inv.lent;
      serves = c.create_next_table.ensures.made.serves ∙ inv.serves;
    }

pub returns-clause-reached : goal.returns-clause-reached
returns-clause-reached g c =
    let inv = c.loop-k.invariant in
    rw inv.layout (open_end (g.M.Tables.hierarchy c.args.mapper.now).layout (g.M.Tables.hierarchy c.loop-k.mapper).memory inv.down.owned.ready.valid c.args.parent_flags.0 c.args.parents.now c.requires.outside
    c.loop-k.k inv.done c.loop-k-test.false c.loop-k.table inv.way)

pub create_next_table-requires-clause-ready : goal.create_next_table-requires-clause-ready
create_next_table-requires-clause-ready g c =
    subst (λ (l : Layout). SupplyFits (l laid_in (g.M.Tables.hierarchy c.loop-k.mapper).memory) (g.A.FrameAllocator.supply c.loop-k.frame_allocator)) (sym c.loop-k.invariant.layout) c.loop-k.invariant.down.owned.ready

pub create_next_table-requires-clause-short : goal.create_next_table-requires-clause-short
create_next_table-requires-clause-short g c = subst (λ (l : Layout). length c.args.parents.now < l.levels) (sym c.loop-k.invariant.layout) c.requires.short

pub create_next_table-requires-clause-outside : goal.create_next_table-requires-clause-outside
create_next_table-requires-clause-outside g c = subst (λ (l : Layout). begins_with l.window c.args.parents.now ≡ false) (sym c.loop-k.invariant.layout) c.requires.outside

pub create_next_table-requires-clause-way : goal.create_next_table-requires-clause-way
create_next_table-requires-clause-way g c =
    subst (λ (l : Layout). IsOpenWay l (g.M.Tables.hierarchy c.loop-k.mapper).memory c.args.parent_flags.0 c.args.parents.now c.loop-k.k c.loop-k.table) (sym c.loop-k.invariant.layout) c.loop-k.invariant.way

pub returns-in_err-table-clause-layout : goal.returns-in_err-table-clause-layout
returns-in_err-table-clause-layout g c = c.create_next_table.ensures.layout ∙ c.loop-k.invariant.layout

pub returns-in_err-table-clause-lent : goal.returns-in_err-table-clause-lent
returns-in_err-table-clause-lent g c = c.create_next_table.ensures.lent ∙ c.loop-k.invariant.lent
