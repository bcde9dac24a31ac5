use Rattle.std.proofs.Common.{◌≡◌, ◌+◌, ◌*◌, ◌%◌, ◌^◌, fold, take}
use Rattle.x86_64_model.specs.Path.{AllBelow}
use Rattle.x86_64_mappers.proofs.recursive_page_table.windows.window_position.Given as goal

-- the index five times, and then the indices before the iteration's
abbrev pub invariant-loop-index : goal.invariant-loop-index
invariant-loop-index g l = record {
  number : l.number ≡ fold (λ n i. n * 512 + i) (l.fn.index * 0x1008040201) (take l.index-index l.path) % 2 ^ 64;
  below : AllBelow (take l.index-index l.path);
}
