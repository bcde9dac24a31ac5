use Rattle.std.proofs.Common.{◌≡◌, ◌+◌, ◌-◌, ◌≤◌, ◌++◌, ℕ, List, length, Ok}
use Rattle.x86_64_dump.specs.Formats.Lime.{lime_segments, ranges_from}
use Rattle.x86_64_dump.specs.Steps.{and_then}
use Rattle.x86_64_dump.specs.declared.segment.Segment.{Segment}
use Rattle.x86_64_dump.proofs.formats.lime.read_lime.Given as goal

-- these segments and those of the ranges from an offset on are all segments of the file
pub record RangesLeft (file : List ℕ) (before : List Segment) (at : ℕ) : Type 0 where
  pub most : ℕ
  pub enough : length file ≤ at + most
  pub same : and_then (ranges_from most file at) (λ ranges. Ok (before ++ ranges)) ≡ lime_segments file

-- the segments so far are those of the ranges up to an offset
abbrev pub invariant-loop-at : goal.invariant-loop-at
invariant-loop-at g l = record {
  told : g.S.ByteSource.IsKnown → RangesLeft (g.S.ByteSource.bytes l.source) l.segments.items l.at;
}

abbrev pub decreases-loop-at : goal.decreases-loop-at
decreases-loop-at g l = l.length - l.at
