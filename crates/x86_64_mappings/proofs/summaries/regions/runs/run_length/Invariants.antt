use Rattle.std.proofs.Common.{◌≡◌, ◌<◌, ℕ, true, get_or}
use Rattle.x86_64_mappings.specs.private.Runs.{has_page_bits}
use Rattle.x86_64_mappings.proofs.summaries.regions.runs.run_length.Given as goal

-- all entries before have the page bits of the first
abbrev pub invariant-loop-count : goal.invariant-loop-count
invariant-loop-count l = (k : ℕ) → k < l.count → has_page_bits (get_or l.entries 0 0) (get_or l.entries k 0) ≡ true
