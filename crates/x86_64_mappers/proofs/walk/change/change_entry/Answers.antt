use Rattle.std.proofs.Common.{◌<◌, slice_set, rules, ap, ◌∙◌, subst}
use Rattle.std.specs.Fn.{FnOnceReturnsAtMut}
use Rattle.x86_64_model.specs.Hierarchy.{◌laid_in◌, words}
use Rattle.x86_64_model.specs.Memory.{word}
use Rattle.x86_64_mappers.specs.AccessLending.{table_in}
use Rattle.x86_64_mappers.specs.private.Writes.{IsSet}
use Rattle.x86_64_mappers.proofs.Way.Paths.{has_last_index, last_item}
use Rattle.x86_64_mappers.proofs.walk.change.change_entry.Goals as goal

pub returns-clause-changed : goal.returns-clause-changed
returns-clause-changed g c =
    let s = c.args.mapper.now in
    let l = (g.M.Tables.hierarchy s).layout in
    let m = (g.M.Tables.hierarchy s).memory in
    let q = c.args.path.now in
    let table = c.in_ok-table.table in
    let is = last_item q c.index-path-last.result (has_last_index q c.requires.some) c.index-path-last.is in
    let after = c.change.new.arg2 in
    let n = (g.M.Tables.hierarchy (g.M.TableAccess.with_table s table (slice_set (table_in l m table) c.index-path-last.result after))).memory in
    record {
      frame = table;
      word = after;
      found = c.in_ok-table.ensures.found;
      inside = subst (λ i. i < 512) is c.entry_mut.ensures.index;
      called = subst (λ e. FnOnceReturnsAtMut g.F.FnOnce c.args.change e c.change.result after) (c.entry_mut.ensures.value ∙ ap (word (words (l laid_in m)) table) is) (search rules);
      set = subst (λ i. IsSet l.places m table i after n) is (c.entry_mut.ensures.set after);
    }
