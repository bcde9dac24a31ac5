use Rattle.std.proofs.Common.{ap, ◌∙◌}
use Rattle.std.specs.FinMap.{insert}
use Rattle.std.specs.Option.{is_some}
use Rattle.x86_64_mappers.proofs.walk.map_range.set_leaves.Goals as goal

pub returns-clause-set : goal.returns-clause-set
returns-clause-set g c =
    let s = c.args.mapper.now in
    let l = (g.M.Tables.hierarchy s).layout in
    let m = (g.M.Tables.hierarchy s).memory in
    let lent = c.table_mut-entries in record {
      table = lent.result.now;
      is = lent.ensures.value;
      long = c.unused_entries-free.ensures.size c.requires.some;
      free = c.unused_entries-free.ensures.free;
      put = g.met.M.TableAccess.puts s c.args.table _ (ap is_some lent.ensures.value) ∙ ap (insert m (l.places.place c.args.table)) c.write_entries.ensures;
    }
