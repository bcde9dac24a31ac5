use Rattle.std.proofs.Common.{◌≡◌, take, filter_map}
use Rattle.std.specs.List.{fold}
use Rattle.x86_64_dump.specs.Dump.{words_of_dump}
use Rattle.x86_64_dump.specs.Opened.{holds, opened}
use Rattle.x86_64_dump.specs.private.FrameNumbers.{HasAll}
use Rattle.x86_64_dump.specs.Tables.{table_named, met}
use Rattle.x86_64_dump.proofs.tables.levels.add_named.Given as goal

-- the tables that the words so far name have been added, and the dump has them
abbrev pub invariant-loop-word : goal.invariant-loop-word
invariant-loop-word g l = record {
  named : g.S.ByteSource.IsKnown →
      l.below ≡ fold met l.fn.below (filter_map (table_named (words_of_dump (opened g.S.ByteSource.bytes l.dump))) (take l.word-index l.words));
  held : HasAll (holds g.S.ByteSource.size l.dump) l.fn.below → HasAll (holds g.S.ByteSource.size l.dump) l.below;
}
