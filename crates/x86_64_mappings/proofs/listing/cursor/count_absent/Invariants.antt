use Rattle.std.proofs.Common.{◌≡◌, ◌<◌, ℕ, false, get_or}
use Rattle.x86_64_model.specs.Entry.{present}
use Rattle.x86_64_mappings.proofs.listing.cursor.count_absent.Given as goal

-- all entries before lack PRESENT
abbrev pub invariant-loop-count : goal.invariant-loop-count
invariant-loop-count l = (k : ℕ) → k < l.count → present (get_or l.entries k 0) ≡ false
