use Rattle.std.proofs.Common.{◌≡◌, ◌≤◌, vec_len}
use Rattle.std.specs.List.{range_with_len}
use Rattle.std.specs.Vec.{vec_capacity}
use Rattle.x86_64_tables.proofs.phys_memory.PhysMemory.new.Given as goal

abbrev pub invariant-loop-number : goal.invariant-loop-number
invariant-loop-number l = record {
  numbers : l.numbers.items ≡ range_with_len 0 l.number;
  len : vec_len l.numbers ≡ l.number;
  room : l.n ≤ vec_capacity l.numbers;
}
