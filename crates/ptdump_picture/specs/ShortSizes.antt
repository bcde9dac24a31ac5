-- Short sizes: numbers of bytes as texts of few characters.
use Rattle.std.specs.Prelude.{ℕ, ◌==◌, ◌*◌, ◌/◌, ◌%◌, ◌++◌, ◌||◌, nat_le, if◌then◌else◌, List, codes, decimal}
use Rattle.text.specs.Sizes.{SizeUnit, unit_of}

-- A number of bytes in a unit, rounded down to tenths, or to whole units if that is exact or there are 1000 units or more.
abbrev pub size_in_unit : SizeUnit → (bytes : ℕ) → List ℕ
size_in_unit unit bytes =
    if bytes % unit.bytes == 0 || nat_le 1000 (bytes / unit.bytes) then decimal (bytes / unit.bytes) ++ unit.name
    else decimal (bytes / unit.bytes) ++ codes "." ++ decimal (bytes % unit.bytes * 10 / unit.bytes) ++ unit.name

-- A number of bytes as a short text, in the largest unit that isn't larger.
abbrev pub short_size : (bytes : ℕ) → List ℕ
short_size bytes = size_in_unit (unit_of bytes) bytes
