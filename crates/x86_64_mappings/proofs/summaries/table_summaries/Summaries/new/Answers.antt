use Rattle.std.proofs.Common.{◌+◌, length, sym, subst, arith}
use Rattle.x86_64_model.specs.Memory.{words_of}
use Rattle.x86_64_mappings.specs.Wanted.{Asked}
use Rattle.x86_64_mappings.specs.private.Known.{IsLevel, AreLevels}
use Rattle.x86_64_mappings.proofs.Levels.{levels_more}
use Rattle.x86_64_mappings.proofs.summaries.table_summaries.Summaries.new.Goals as goal

pub loop-level_frames-preserved : goal.loop-level_frames-preserved
loop-level_frames-preserved g c =
    let asked : Asked = record {
      words = words_of (g.T.TableMemory.tables c.args.memory.now) (g.P.PageTableFrameMapping.places c.args.mapping.now);
      wanted = c.args.wanted;
    } in
    let levels = c.loop-level_frames.levels.items in
    let last = subst (λ known. IsLevel asked (length known + 1) c.in_ok-level.level) c.deref.ensures.value c.in_ok-level.ensures in
    record {
      known = subst (AreLevels asked) (sym c.in_ok-push.ensures.items) (levels_more asked levels c.in_ok-level.level c.loop-level_frames.invariant.known last);
      many = omega (arith, c.in_ok-push.ensures.len, c.loop-level_frames.invariant.many);
    }
