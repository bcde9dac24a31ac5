use Rattle.std.proofs.Common.{refl}
use Rattle.x86_64_c.proofs.WordRangesTold.{end_alone, exchanges, tells}
use Rattle.x86_64_c.specs.Arguments.{at}
use Rattle.x86_64_model.specs.Entry.{present, used}
use Rattle.x86_64_model.specs.Live.{by_masks}
use Rattle.x86_64_c.proofs.word_ranges.WordRangeOperation.execute.Goals as goal

pub returns-in-Tell-clause-does : goal.returns-in-Tell-clause-does
returns-in-Tell-clause-does g c =
    let h = at g.P.PageTableFrameMapping.places g.L.LevelCount.LEVELS c.args.located (g.T.TableMemory.tables c.args.memory.now) in
    let range = c.in_ok-range.ensures in let seen = c.list_range-seen.result in let told = c.of.ensures in
    rw c.in-Tell.is (end_alone seen.end, tells h used _ _ _ _ range.first range.last _ _ seen c.of.result c.list_range-seen.ensures told.count told.status told.next, refl)

pub returns-in-Take-clause-does : goal.returns-in-Take-clause-does
returns-in-Take-clause-does g c =
    let h = at g.P.PageTableFrameMapping.places g.L.LevelCount.LEVELS c.args.located (g.T.TableMemory.tables c.args.memory.now) in
    let range = c.in_ok-range.ensures in let seen = c.take_range-seen.result in let told = c.of-in-Take.ensures in rw c.in-Take.is (
      end_alone seen.end,
      tells h used _ _ _ _ range.first range.last _ _ seen c.of-in-Take.result c.take_range-seen.ensures.sees told.count told.status told.next,
      exchanges h used _ _ _ _ range.first range.last (λ _. 0) seen.end _ c.take_range-seen.ensures.changes,
    )

pub returns-else-not-are_flag_masks-clause-does : goal.returns-else-not-are_flag_masks-clause-does
returns-else-not-are_flag_masks-clause-does g c =
    let h = at g.P.PageTableFrameMapping.places g.L.LevelCount.LEVELS c.args.located (g.T.TableMemory.tables c.args.memory.now) in
    let range = c.in_ok-range.ensures in let seen = c.change_range-seen.result in let told = c.of-in-Change.ensures in rw c.in-Change.is (
      end_alone seen.end,
      tells h present _ _ _ _ range.first range.last _ _ seen c.of-in-Change.result c.change_range-seen.ensures.sees told.count told.status told.next,
      exchanges h present _ _ _ _ range.first range.last (by_masks c.in-Change.keep c.in-Change.set) seen.end _ c.change_range-seen.ensures.changes,
    )
