use Rattle.std.proofs.Common.{◌≡◌, ℕ, Option, map, take}
use Rattle.std.specs.List.{filter_map}
use Rattle.ptdump_check.specs.ReachedTables.{reached_at}
use Rattle.ptdump_check.proofs.reached.findings_at.Given as goal

-- the findings of the frames so far
abbrev pub invariant-loop-i : goal.invariant-loop-i
invariant-loop-i l = (w m : ℕ → Option ℕ) → l.writable ≡ map w l.frames → l.mapped ≡ map m l.frames
    → l.findings.items ≡ filter_map (λ f. reached_at f (w f) (m f)) (take l.i l.frames)
