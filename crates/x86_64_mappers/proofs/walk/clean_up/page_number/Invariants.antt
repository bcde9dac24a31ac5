use Rattle.std.proofs.Common.{◌≡◌, ◌+◌, ◌*◌, fold, take}
use Rattle.x86_64_model.specs.Path.{AllBelow}
use Rattle.x86_64_mappers.proofs.walk.clean_up.page_number.Given as goal

abbrev pub invariant-loop-index : goal.invariant-loop-index
invariant-loop-index l = record {
  number : l.number ≡ fold (λ n i. n * 512 + i) 0 (take l.index-index l.path);
  below : AllBelow (take l.index-index l.path);
}
