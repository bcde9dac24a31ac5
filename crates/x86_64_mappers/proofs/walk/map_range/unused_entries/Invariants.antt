use Rattle.std.proofs.Common.{◌≡◌, ◌<◌, ◌+◌, ℕ, false, get_or, length}
use Rattle.x86_64_model.specs.Entry.{used}
use Rattle.x86_64_mappers.proofs.walk.map_range.unused_entries.Given as goal

-- the entries so far are unused
abbrev pub invariant-loop-k : goal.invariant-loop-k
invariant-loop-k l = record {
  unused : (j : ℕ) → j < l.k → used (get_or l.table (l.first + j) 0) ≡ false;
  size : 0 < l.k → length l.table ≡ 512;
}
