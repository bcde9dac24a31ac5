-- Frames that are found at an offset: the whole memory is mapped into the virtual address space from an address on, with L levels
-- of tables.
use Rattle.std.specs.Prelude.{◌+◌, ◌-◌, ◌*◌, ◌/◌, ◌^◌, ◌&&◌, ◌||◌, ℕ, Bool, IsSome, nat_lt, nat_le}
use Rattle.std.specs.FinMap.{get}
use Rattle.x86_64_model.specs.Entry.{is_frame}
use Rattle.x86_64_model.specs.Memory.{Memory, Places}
use Rattle.x86_64_model.specs.Position.{raw, lower_half, IsCanonical}

-- Whether the sum of a memory's offset and of a frame's address is canonical with L levels of tables, and therefore below 2^64. The
-- offset is the virtual address at which the memory is mapped, given by its position (an address counted without the non-canonical
-- gap).
unfoldable pub is_reached : (L offset frame : ℕ) → Bool
is_reached L offset frame =
    let sum = raw L offset + frame in
    nat_lt sum (lower_half L) || (nat_le (2 ^ 64 - lower_half L) sum && nat_lt sum (2 ^ 64))

-- The places of frames in a memory that is mapped at an offset, with L levels of tables. A frame is covered if the sum of the
-- offset and of its address is canonical, and it lies at the place of its number (a place is the index of a table in memory).
abbrev pub offset_places : (L offset : ℕ) → Places
offset_places L offset = record { covers = λ f. is_frame f && is_reached L offset f; place = λ f. f / 4096 }

-- The offset at which a memory is mapped fits the memory with L levels of tables: for each place that has a table, the sum of the
-- offset and of the address of the frame with this number is canonical.
abbrev pub OffsetFits : (L : ℕ) → Memory → (offset : ℕ) → Type 0
OffsetFits L memory offset = (place : ℕ) → IsSome (get memory place) → IsCanonical L (raw L offset + place * 4096)
