use Rattle.std.proofs.Common.{◌≡◌, [], take}
use Rattle.std.specs.List.{flat_map, fold}
use Rattle.x86_64_dump.specs.Dump.{words_of_dump}
use Rattle.x86_64_dump.specs.Opened.{holds, opened}
use Rattle.x86_64_dump.specs.private.FrameNumbers.{HasAll}
use Rattle.x86_64_dump.specs.Tables.{tables_named, met}
use Rattle.x86_64_dump.specs.private.TablesRead.{AreOf}
use Rattle.x86_64_dump.proofs.tables.levels.read_below.Given as goal

-- the tables in the frames so far have been read, and those that they name have been added; the dump has these
abbrev pub invariant-loop-frame : goal.invariant-loop-frame
invariant-loop-frame g l = let W = words_of_dump (opened g.S.ByteSource.bytes l.dump) in record {
  read : g.S.ByteSource.IsKnown → AreOf W l.read;
  below : g.S.ByteSource.IsKnown → l.below ≡ fold met [] (flat_map (tables_named W) (take l.frame-index l.frames));
  held : HasAll (holds g.S.ByteSource.size l.dump) l.below;
}
