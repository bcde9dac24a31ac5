use Rattle.std.proofs.Common.{◌≡◌, ◌≤◌, replicate, vec_len}
use Rattle.std.specs.Vec.{vec_capacity}
use Rattle.x86_64_tables.specs.PageTable.{zero_words}
use Rattle.x86_64_tables.proofs.phys_memory.zero_memory.Given as goal

abbrev pub invariant-loop : goal.invariant-loop
invariant-loop l = record {
  tables : l.tables.items ≡ replicate l.counter zero_words;
  len : vec_len l.tables ≡ l.counter;
  room : l.n ≤ vec_capacity l.tables;
}
