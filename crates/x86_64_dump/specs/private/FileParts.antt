-- FileParts: parts of a file that were read at once.
use Rattle.std.specs.Prelude.{◌≡◌, ◌+◌, ◌&&◌, ℕ, Bool, List, length, nat_le}
use Rattle.x86_64_dump.specs.Source.{bytes_at}

-- Bytes of a file that were read at once, and the offset in the file of the first of them.
pub record Part : Type 0 where
  pub start : ℕ
  pub bytes : List ℕ

-- The bytes of a part are those that the file has from the part's start on.
abbrev pub IsOf : (file : List ℕ) → Part → Type 0
IsOf file part = part.bytes ≡ bytes_at file part.start (length part.bytes)

-- Whether a part has the 4096 bytes from an offset of the file on.
abbrev pub has_frame_at : Part → (offset : ℕ) → Bool
has_frame_at part offset = nat_le part.start offset && nat_le (offset + 4096) (part.start + length part.bytes)
