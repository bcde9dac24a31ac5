use Rattle.std.proofs.Common.{◌≡◌, [], refl, sym, ap, ◌∙◌, slice_index, slice_set}
use Rattle.std.specs.FinMap.{insert}
use Rattle.std.specs.Option.{unwrap_or, is_some}
use Rattle.x86_64_model.specs.Hierarchy.{◌laid_in◌, words}
use Rattle.x86_64_mappers.specs.AccessLending.{table_in}
use Rattle.x86_64_mappers.proofs.Memory.Words.{entry_is_word}
use Rattle.x86_64_mappers.proofs.walk.entry_mut.Goals as goal

pub returns : goal.returns
returns g c =
    let s = c.args.mapper.now in
    let l = (g.M.Tables.hierarchy s).layout in
    let m = (g.M.Tables.hierarchy s).memory in
    let table = c.table_mut.result.now in
    let is : table ≡ table_in l m c.args.frame = ap (λ o. unwrap_or o []) (sym c.table_mut.ensures.value) in
    let index = c.from.ensures.0 in (
      (refl, λ w. λ i. g.M.TableAccess.with_table s c.args.frame (slice_set (is i) (index i) w)),
      record {
        lends = tt;
        value = c.index_mut.ensures.value ∙ ap (slice_index table) index ∙ entry_is_word (words (l laid_in m)) c.args.frame c.args.index table c.table_mut.ensures.value (rw index at c.from.ensures.1);
        set = λ w. record {
          table = table;
          is = c.table_mut.ensures.value;
          long = c.index_mut.ensures.size;
          after = g.met.M.TableAccess.puts s c.args.frame _ (ap is_some c.table_mut.ensures.value) ∙ ap (λ t. insert m (l.places.place c.args.frame) (slice_set t c.args.index w)) (sym is);
        };
        index = rw index at c.from.ensures.1;
      },
    )
