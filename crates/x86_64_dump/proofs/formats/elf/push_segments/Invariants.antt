use Rattle.std.proofs.Common.{◌≡◌, ◌++◌}
use Rattle.x86_64_dump.specs.Dump.{segments_at}
use Rattle.x86_64_dump.proofs.formats.elf.push_segments.Given as goal

-- the segments so far are those of the first program headers
abbrev pub invariant-loop-i : goal.invariant-loop-i
invariant-loop-i l = l.segments.items ≡ l.fn.segments.items ++ segments_at l.entries 0 l.i
