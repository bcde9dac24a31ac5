use Rattle.std.proofs.Common.{◌≤◌, ◌+◌, ◌*◌}
use Rattle.x86_64_dump.proofs.tables.loading.frames_together.Given as goal

-- the frames so far lie together
abbrev pub invariant-loop-count : goal.invariant-loop-count
invariant-loop-count g l = l.offset + 4096 * l.count ≤ g.S.ByteSource.size l.dump.source
