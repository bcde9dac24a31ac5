-- Start addresses of pages and frames of a size.
use Rattle.std.specs.Prelude.{◌-◌, ◌/◌, ◌%◌, ◌^◌, ◌==◌, ◌&&◌, ◌||◌, nat_lt, nat_le, ℕ, Bool, cond, Option, Some, None}
use Rattle.x86_64_addr.specs.Position.{lower_half, position_count}

-- The position (the number of an address counted without the gap) of the address with this raw value.
abbrev pub position_at : (levels address : ℕ) → ℕ
position_at levels address = address % position_count levels

-- Whether the bits of a raw value above its highest bit are copies of it.
abbrev pub is_canonical_number : (levels value : ℕ) → Bool
is_canonical_number levels value = nat_lt value (lower_half levels) || (nat_le (2 ^ 64 - lower_half levels) value && nat_lt value (2 ^ 64))

-- The position of the address with this raw value, if it is canonical.
abbrev pub address_in : (levels value : ℕ) → Option ℕ
address_in levels value = cond (is_canonical_number levels value) (Some (position_at levels value)) None

-- Whether a raw value is that of the start of a page of this size in bytes, with this number of levels.
abbrev pub is_page_start : (levels size start : ℕ) → Bool
is_page_start levels size start = is_canonical_number levels start && (start % size == 0)

-- The position of the page of this size in bytes that starts at a raw value, if one does.
abbrev pub page_in : (levels size start : ℕ) → Option ℕ
page_in levels size start = cond (is_page_start levels size start) (Some (position_at levels start)) None

-- Whether an address is the start of a frame of this size in bytes, below 2^52.
abbrev pub is_frame_start : (size start : ℕ) → Bool
is_frame_start size start = nat_lt start (2 ^ 52) && (start % size == 0)

-- The frame of this size in bytes that starts at an address, if one does.
abbrev pub frame_in : (size start : ℕ) → Option ℕ
frame_in size start = cond (is_frame_start size start) (Some start) None

-- Whether an address is the start of a 4KiB frame in a memory with this number of places (a place is the index of a table in
-- memory).
abbrev pub is_table_start : (places start : ℕ) → Bool
is_table_start places start = is_frame_start 4096 start && nat_lt (start / 4096) places

-- The 4KiB frame that starts at an address, if one does in a memory with this number of places.
abbrev pub table_in : (places start : ℕ) → Option ℕ
table_in places start = cond (is_table_start places start) (Some start) None

-- A number as an index of a table, if it is below 512.
abbrev pub index_in : (number : ℕ) → Option ℕ
index_in number = cond (nat_lt number 512) (Some number) None
