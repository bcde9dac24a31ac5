-- LineCounting: lines that are only counted.
use Rattle.std.specs.Prelude.{◌≡◌, ◌+◌, ◌-◌, ◌^◌, min, List, length}
use Rattle.ptdump_engine.specs.Said.{Said}
use Rattle.ptdump_engine.specs.declared.line_count.LineCount.{LineCount}

-- Lines were added to a count, which goes up to 2^64 - 1 and stays there.
abbrev pub AreAdded : (old new : LineCount) → List Said → Type 0
AreAdded old new lines = min new.lines (2 ^ 64 - 1) ≡ min (old.lines + length lines) (2 ^ 64 - 1)
