use Rattle.std.proofs.Common.{◌≡◌, ◌+◌, ◌-◌, ◌++◌}
use Rattle.x86_64_dump.specs.Dump.{words_of_dump}
use Rattle.x86_64_dump.specs.Opened.{holds, opened}
use Rattle.x86_64_dump.specs.Loaded.{frames_of}
use Rattle.x86_64_dump.specs.private.TablesRead.{AreOf}
use Rattle.x86_64_dump.specs.private.FrameNumbers.{AreAllHeld, HasAll}
use Rattle.x86_64_dump.specs.Tables.{tables_of_levels, if_there}
use Rattle.x86_64_dump.proofs.tables.levels.read_levels.Given as goal

-- the levels so far, followed by those from this one down, are all levels, and the dump has all frames found so far
abbrev pub invariant-loop : goal.invariant-loop
invariant-loop g l = let W = words_of_dump (opened g.S.ByteSource.bytes l.dump) in record {
  read : g.S.ByteSource.IsKnown → AreOf W l.read;
  frames : g.S.ByteSource.IsKnown →
      frames_of l.frames.items ++ tables_of_levels (l.levels + 1 - l.counter) W l.level.items ≡ tables_of_levels l.levels W (if_there W l.fn.root);
  level : HasAll (holds g.S.ByteSource.size l.dump) l.level.items;
  above : AreAllHeld (holds g.S.ByteSource.size l.dump) l.frames.items;
}
