-- Source: the bytes that a read of a source returns.
use Rattle.std.specs.Prelude.{ℕ, List, take, drop}

-- The bytes of a part of a file: `count` bytes from an offset on, or fewer if the file ends before.
abbrev pub bytes_at : (file : List ℕ) → (offset count : ℕ) → List ℕ
bytes_at file offset count = take count (drop offset file)
