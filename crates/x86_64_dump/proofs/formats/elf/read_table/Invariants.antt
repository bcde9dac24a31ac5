use Rattle.std.proofs.Common.{◌≡◌, ◌+◌, ◌-◌, ◌*◌, ◌≤◌, length}
use Rattle.x86_64_dump.specs.Dump.{segments_at}
use Rattle.x86_64_dump.proofs.formats.elf.read_table.Given as goal

-- the segments so far are those of the first program headers
abbrev pub invariant-loop-done : goal.invariant-loop-done
invariant-loop-done g l = record {
  within : l.done ≤ l.count;
  told : g.S.ByteSource.IsKnown → l.offset + 56 * l.count ≤ length (g.S.ByteSource.bytes l.source) → l.segments.items ≡ segments_at (g.S.ByteSource.bytes l.source) l.offset l.done;
}

abbrev pub decreases-loop-done : goal.decreases-loop-done
decreases-loop-done g l = l.count - l.done
