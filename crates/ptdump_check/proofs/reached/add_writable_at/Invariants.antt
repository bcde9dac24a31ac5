use Rattle.std.proofs.Common.{◌≡◌, ◌++◌, ℕ, Option, map, take}
use Rattle.std.specs.List.{filter_map}
use Rattle.ptdump_check.specs.WritableTables.{writable_at}
use Rattle.ptdump_check.proofs.reached.add_writable_at.Given as goal

-- the findings of the frames so far
abbrev pub invariant-loop-i : goal.invariant-loop-i
invariant-loop-i l = (at : ℕ → Option ℕ) → l.addresses ≡ map at l.frames
    → l.findings.items ≡ l.fn.findings.items ++ filter_map (λ f. writable_at f (at f)) (take l.i l.frames)
