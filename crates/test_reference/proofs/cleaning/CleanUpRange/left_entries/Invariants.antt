use Rattle.std.proofs.Common.{◌≡◌, ◌++◌, drop, filter}
use Rattle.test_reference.specs.PathEntries.{pairs}
use Rattle.test_reference.specs.Cleaning.{stays}
use Rattle.test_reference.proofs.cleaning.CleanUpRange.left_entries.Given as goal

abbrev pub invariant-loop-item : goal.invariant-loop-item
invariant-loop-item l = pairs l.left.items ++ pairs (filter (stays l.self.levels l.paths l.self.low l.self.high) (drop l.item-index l.item-items)) ≡ pairs (filter (stays l.self.levels l.paths l.self.low l.self.high) l.item-items)
