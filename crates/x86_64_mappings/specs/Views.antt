-- Mappings as code represents them.
use Rattle.std.specs.Prelude.{◌≡◌, ℕ, ◌==◌, if◌then◌else◌, refl}
use Rattle.x86_64_model.specs.Mappings.{Mapping, Rights}
use Rattle.x86_64_tables.specs.PageTableFlags.{bits_of}
use Rattle.x86_64_tables.specs.Translations.{frame_start, frame_size}
use Rattle.x86_64_tables.specs.declared.translation.MappedFrame.{MappedFrame}
use Rattle.x86_64_tables.specs.declared.translation.MappedFrame.TheVariants.{Size4KiB, Size2MiB, Size1GiB}
use Rattle.x86_64_tables.specs.declared.page_table.flags.PageTableFlags.{PageTableFlags}

-- The mapping that starts at position `start` (the number of an address counted without the non-canonical gap) and maps the whole
-- of a frame, with these flags and rights.
abbrev pub mapping_to : (start : ℕ) → MappedFrame → PageTableFlags → Rights → Mapping
mapping_to start frame flags rights = record {
  start = start;
  size = frame_size frame;
  frame = frame_start frame;
  flags = bits_of flags;
  rights = rights;
}

-- The frame with this size in bytes and this start address. It has 4KiB or 2MiB if that is its size, and 1GiB otherwise.
abbrev pub frame_at : (size start : ℕ) → MappedFrame
frame_at size start =
    if size == 0x1000 then Size4KiB start else (if size == 0x20_0000 then Size2MiB start else Size1GiB start)

-- a frame is determined by its size and its start
pub frame_at_frame : (frame : MappedFrame) → frame_at (frame_size frame) (frame_start frame) ≡ frame
frame_at_frame (Size4KiB start) = refl
frame_at_frame (Size2MiB start) = refl
frame_at_frame (Size1GiB start) = refl
