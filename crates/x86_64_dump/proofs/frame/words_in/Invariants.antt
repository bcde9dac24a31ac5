use Rattle.std.proofs.Common.{◌≡◌, ◌*◌, take, map, length}
use Rattle.std.specs.List.{range_with_len}
use Rattle.x86_64_dump.specs.Dump.{without_bits}
use Rattle.x86_64_dump.specs.Numbers.{u64_at}
use Rattle.x86_64_dump.proofs.frame.words_in.Given as goal

-- the words so far are the frame's first words
abbrev pub invariant-loop-i : goal.invariant-loop-i
invariant-loop-i l = record {
  size : length l.words ≡ 512;
  words : take l.i l.words ≡ map (λ i. without_bits l.cleared (u64_at l.bytes (8 * i))) (range_with_len 0 l.i);
}
