-- Counting: lines that are counted.
use Rattle.std.specs.Prelude.{◌≡◌, ℕ, ◌+◌, ◌-◌, ◌^◌, min, List, length}
use Rattle.std.specs.List.{flat_map}
use Rattle.ptdump_engine.specs.Said.{Said, line_of}
use Rattle.ptdump_engine.specs.declared.counted_lines.CountedLines.{CountedLines}

-- Lines were passed on to an output in a form, in order, and added to a count, which goes up to 2^64 - 1 and stays there.
pub record AreCounted {O : Type 0} (puts : O → O → List ℕ → Type 0) (old new : CountedLines O) (lines : List Said) : Type 0 where
  pub output : new.output.ghost_name ≡ old.output.ghost_name
  pub form : new.form ≡ old.form
  pub put : puts old.output.now new.output.now (flat_map (line_of old.form) lines)
  pub count : min new.count (2 ^ 64 - 1) ≡ min (old.count + length lines) (2 ^ 64 - 1)
