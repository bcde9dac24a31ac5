use Rattle.std.proofs.Common.{◌≡◌, ◌≤◌, length, map, take, Some, vec_len}
use Rattle.std.specs.Vec.{vec_capacity}
use Rattle.x86_64_dump.specs.Dump.{words_of_dump}
use Rattle.x86_64_dump.specs.Opened.{opened}
use Rattle.x86_64_dump.specs.Loaded.{up_to}
use Rattle.x86_64_dump.specs.private.FrameNumbers.{words_numbered}
use Rattle.x86_64_dump.specs.private.FileParts.{IsOf}
use Rattle.x86_64_dump.proofs.tables.loading.tables_of.Given as goal

-- the tables of the numbers so far are read, and were told
abbrev pub invariant-loop-i : goal.invariant-loop-i
invariant-loop-i g l = record {
  len : vec_len l.tables ≡ l.i;
  room : length l.numbers ≤ vec_capacity l.tables;
  told : g.G.Progress.Told l.fn.progress l.progress (up_to l.i);
  part : g.S.ByteSource.IsKnown → IsOf (g.S.ByteSource.bytes l.dump.source) l.part;
  tables : g.S.ByteSource.IsKnown → map Some l.tables.items ≡ map (words_numbered (words_of_dump (opened g.S.ByteSource.bytes l.dump))) (take l.i l.numbers);
}
