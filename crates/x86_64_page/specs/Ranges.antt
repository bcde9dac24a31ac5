-- The laws of lists of blocks: they equal the ranges of the definition.
use Rattle.std.specs.Prelude.{◌≡◌, ℕ, ◌<◌}
use Rattle.x86_64_model.specs.Range.{exclusive_range, inclusive_range}
use Rattle.x86_64_page.specs.Blocks.{blocks, blocks_inclusive}

-- The list of `blocks` equals the model's range that excludes its end, for all ends, multiples of the size or not, even if the
-- range is empty.
abbrev pub BlocksAreTheRange : Type 0
BlocksAreTheRange = (size start end : ℕ) → blocks size start end ≡ exclusive_range size start end

-- The list of `blocks_inclusive` equals the model's range that includes its end, for every size but 0 and all ends, multiples of
-- the size or not, even if the range is empty.
abbrev pub InclusiveBlocksAreTheRange : Type 0
InclusiveBlocksAreTheRange = (size start end : ℕ) → 0 < size → blocks_inclusive size start end ≡ inclusive_range size start end
