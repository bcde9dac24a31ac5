-- The blocks of a range, by the places of its ends.
use Rattle.std.specs.Prelude.{ℕ, List}
use Rattle.x86_64_page.specs.Blocks.{blocks, blocks_inclusive}
use Rattle.x86_64_page.specs.declared.range.BlockRange.{BlockRange}
use Rattle.x86_64_page.specs.declared.range.inclusive.BlockRangeInclusive.{BlockRangeInclusive}

-- The starts of the blocks (pages or frames) in a range, from its start up to but excluding its end. The size of a block is in
-- bytes, and `place` says where a block starts: the position of a page, or the address of a frame.
abbrev pub blocks_in : {B : Type 0} → (size : ℕ) → (place : B → ℕ) → BlockRange B → List ℕ
blocks_in size place range = blocks size (place range.start) (place range.end)

-- The starts of the blocks (pages or frames) in a range, from its start up to and including its end. The size of a block is in
-- bytes, and `place` says where a block starts: the position of a page, or the address of a frame.
abbrev pub inclusive_blocks_in : {B : Type 0} → (size : ℕ) → (place : B → ℕ) → BlockRangeInclusive B → List ℕ
inclusive_blocks_in size place range = blocks_inclusive size (place range.start) (place range.end)
