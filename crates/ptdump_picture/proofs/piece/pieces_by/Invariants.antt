use Rattle.std.proofs.Common.{◌≤◌, vec_len}
use Rattle.ptdump_picture.proofs.piece.pieces_by.Given as goal

-- there are at most as many pieces as allowed
abbrev pub invariant-loop-region : goal.invariant-loop-region
invariant-loop-region g l = vec_len l.pieces ≤ 40
