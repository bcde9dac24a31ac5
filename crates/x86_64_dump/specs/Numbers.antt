-- Numbers: numbers of two, four and eight bytes at an offset of a file, least byte first. Bytes past the end of a file are 0.
use Rattle.std.specs.Prelude.{ℕ, List, drop, slice_index}
use Rattle.std.specs.Int.{w16, w32, w64, from_le_bytes}

-- The byte at an offset of a file, or 0 past the end of the file.
abbrev pub byte_at : (file : List ℕ) → (offset : ℕ) → ℕ
byte_at file offset = slice_index file offset

-- The number of two bytes at an offset of a file, the least byte first.
unfoldable pub u16_at : (file : List ℕ) → (offset : ℕ) → ℕ
u16_at file offset = from_le_bytes w16 (drop offset file)

-- The number of four bytes at an offset of a file, the least byte first.
unfoldable pub u32_at : (file : List ℕ) → (offset : ℕ) → ℕ
u32_at file offset = from_le_bytes w32 (drop offset file)

-- The number of eight bytes at an offset of a file, the least byte first.
unfoldable pub u64_at : (file : List ℕ) → (offset : ℕ) → ℕ
u64_at file offset = from_le_bytes w64 (drop offset file)
