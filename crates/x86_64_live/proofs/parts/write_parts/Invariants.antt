use Rattle.std.proofs.Common.{◌≡◌, ◌<◌, take, map, length}
use Rattle.std.specs.List.{range_with_len}
use Rattle.x86_64_live.specs.Parts.{part_of}
use Rattle.x86_64_live.proofs.parts.write_parts.Given as goal

-- the words so far are those of the first parts
abbrev pub invariant-loop-index : goal.invariant-loop-index
invariant-loop-index l = record {
  size : 0 < l.index → length l.table ≡ 512;
  words : take l.index l.table ≡ map (part_of l.level l.word) (range_with_len 0 l.index);
}
