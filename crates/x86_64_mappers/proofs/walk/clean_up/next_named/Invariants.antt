use Rattle.std.proofs.Common.{◌≡◌, ◌<◌, ◌≤◌, ℕ, false}
use Rattle.x86_64_model.specs.Hierarchy.{words}
use Rattle.x86_64_model.specs.Memory.{word}
use Rattle.x86_64_mappers.specs.private.Stops.{leads_to_table}
use Rattle.x86_64_mappers.proofs.walk.clean_up.next_named.Given as goal

-- no entry before the index names a table
abbrev pub invariant-loop-index : goal.invariant-loop-index
invariant-loop-index g l = (i : ℕ) → l.from ≤ i → i < l.index → leads_to_table (word (words (g.M.Tables.hierarchy l.mapper)) l.fn.frame i) ≡ false
