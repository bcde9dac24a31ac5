use Rattle.std.proofs.Common.{◌≡◌, ◌++◌, length, map, take, drop, ◌≤◌}
use Rattle.x86_64_c.specs.Listing as listing
use Rattle.x86_64_c.proofs.listing.fill.Given as goal

-- the array begins with the mappings that came so far, and keeps what it holds behind them
abbrev pub invariant-loop-n : goal.invariant-loop-n
invariant-loop-n g l =
    (l.n ≤ length l.initial.coming) × (l.coming ≡ drop l.n l.initial.coming)
    × (l.mappings ≡ map (listing.mapping_written g.L.LevelCount.LEVELS) (take l.n l.initial.coming) ++ drop l.n l.initial.mappings)
