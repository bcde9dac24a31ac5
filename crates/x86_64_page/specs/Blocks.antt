-- Pages and frames as blocks of memory. The place of a block is where it starts: the position of a page (the number of its
-- address counted without the gap), or the address of a frame.
use Rattle.std.specs.Prelude.{zero, suc, ◌≡◌, ◌⊎◌, ℕ, ◌+◌, ◌-◌, ◌*◌, ◌/◌, ◌^◌, ◌≤◌, nat_lt, nat_le, cond, min, List, [], ◌∷◌, length}
use Rattle.std.proofs.Common.{inl, inr, arith}
use Rattle.x86_64_addr.specs.Levels.{IsLevelCount}
use Rattle.x86_64_addr.specs.Position.{position_count, span}

-- The size in bytes of a block (a page or a frame) is 4KiB, 2MiB or 1GiB.
abbrev pub IsBlockSize : (size : ℕ) → Type 0
IsBlockSize size = (size ≡ 2 ^ 12) ⊎ (size ≡ 2 ^ 21) ⊎ (size ≡ 2 ^ 30)

-- The size of the pages that entries of level one, two or three map is 4KiB, 2MiB or 1GiB.
pub size_of_level : (size level : ℕ) → 1 ≤ level → level ≤ 3 → size ≡ span level → IsBlockSize size
size_of_level z zero low high e = absurd (omega arith)
size_of_level z (suc zero) low high e = inl e
size_of_level z (suc (suc zero)) low high e = inr (inl e)
size_of_level z (suc (suc (suc zero))) low high e = inr (inr e)
size_of_level z (suc (suc (suc (suc l)))) low high e = absurd (omega arith)

-- The limit is one below which blocks start: 2^48 or 2^57, the number of positions with four or five levels of page tables, or
-- 2^52, the limit of physical addresses.
abbrev pub IsLimit : (limit : ℕ) → Type 0
IsLimit limit = (limit ≡ 2 ^ 48) ⊎ (limit ≡ 2 ^ 52) ⊎ (limit ≡ 2 ^ 57)

-- The number of positions with four or five levels of page tables is a limit below which blocks start.
pub limit_of_levels : (levels limit : ℕ) → IsLevelCount levels → limit ≡ position_count levels → IsLimit limit
limit_of_levels levels limit (inl four) e = inl (rw four at e)
limit_of_levels levels limit (inr five) e = inr (inr (rw five at e))

-- The starts of `count` consecutive blocks (pages or frames) of a size in bytes, the first of which starts at `start`.
abbrev pub blocks_from : (size start count : ℕ) → List ℕ
blocks_from size start zero = []
blocks_from size start (suc n) = start ∷ blocks_from size (start + size) n

-- The starts of the consecutive blocks (pages or frames) of a size in bytes, from `start` on, that end at or below `end`. If
-- `end` is a number of blocks above `start`, these are the blocks up to but excluding the one at `end`.
abbrev pub blocks : (size start end : ℕ) → List ℕ
blocks size start end = blocks_from size start ((end - start) / size)

-- The starts of the consecutive blocks (pages or frames) of a size in bytes, from `start` on, that start at or below `end`.
abbrev pub blocks_inclusive : (size start end : ℕ) → List ℕ
blocks_inclusive size start end = blocks size start (end + size)

-- ---- the ends of a range

-- The ends of a range of blocks: where its start block and its end block start, as positions of pages or addresses of frames.
pub record Ends : Type 0 where
  pub start : ℕ
  pub end : ℕ

-- The ends of a range with the given start block and end block. `place` says where a block starts: the position of a page, or the
-- address of a frame.
abbrev pub block_ends : {B : Type 0} → (place : B → ℕ) → (start end : B) → Ends
block_ends place start end = record { start = place start; end = place end }

-- The ends of a range that excludes its end, after n blocks of a size, or all if there are fewer, are taken from its front: the
-- start is raised.
abbrev pub front_taken : (size n : ℕ) → Ends → Ends
front_taken size n r = record { start = r.start + min n (length (blocks size r.start r.end)) * size; end = r.end }

-- The ends of a range that excludes its end, after n blocks of a size, or all if there are fewer, are taken from its back: the
-- end is lowered.
abbrev pub back_taken : (size n : ℕ) → Ends → Ends
back_taken size n r = record { start = r.start; end = r.end - min n (length (blocks size r.start r.end)) * size }

-- The ends of a range that includes its end, after n blocks of a size, or all if there are fewer, are taken from its front: the
-- start is raised. If the start would not be below the limit, the old end becomes the start, and the end is lowered by one block.
abbrev pub front_taken_inclusive : (size limit n : ℕ) → Ends → Ends
front_taken_inclusive size limit n r = let start = r.start + min n (length (blocks_inclusive size r.start r.end)) * size in
    cond (nat_lt start limit) (record { start = start; end = r.end }) (record { start = r.end; end = r.end - size })

-- The ends of a range that includes its end, after n blocks of a size, or all if there are fewer, are taken from its back: the
-- end is lowered. If the end would be below 0, the old start becomes the end, and the start is raised by one block.
abbrev pub back_taken_inclusive : (size n : ℕ) → Ends → Ends
back_taken_inclusive size n r = let bytes = min n (length (blocks_inclusive size r.start r.end)) * size in
    cond (nat_le bytes r.end) (record { start = r.start; end = r.end - bytes }) (record { start = r.start + size; end = r.start })
