use Rattle.std.proofs.Common.{◌≡◌, ℕ, ◌+◌, ◌^◌, ◌<◌, ◌≤◌, slice_index}
use Rattle.x86_64_tables.proofs.phys_memory.places.run_of.Given as goal

abbrev pub invariant-loop-i : goal.invariant-loop-i
invariant-loop-i l = record {
  start : 1 ≤ l.i;
  follow : (k : ℕ) → k < l.i → slice_index l.numbers k ≡ slice_index l.numbers 0 + k;
  fits : slice_index l.numbers 0 + l.i ≤ 2 ^ 64;
}
