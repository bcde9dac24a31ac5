use Rattle.std.proofs.Common.{◌≡◌, map, take}
use Rattle.ptdump_check.proofs.reached.frames_in_order.Given as goal

-- the frames of the tables so far
abbrev pub invariant-loop-table : goal.invariant-loop-table
invariant-loop-table l = l.frames.items ≡ map (λ t. t.frame) (take l.table-index l.tables)
