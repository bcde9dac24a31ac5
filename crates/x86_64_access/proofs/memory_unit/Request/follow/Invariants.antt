use Rattle.std.proofs.Common.{◌≡◌, ◌-◌, drop}
use Rattle.x86_64_access.specs.Accesses.{access_of, controls_of}
use Rattle.x86_64_access.specs.Paths.{access_along}
use Rattle.x86_64_access.specs.private.Walking.{along_on, rights_by}
use Rattle.x86_64_access.proofs.memory_unit.Request.follow.Given as goal

-- by the entries from here on, the outcome is that of all of them
abbrev pub invariant-loop-above : goal.invariant-loop-above
invariant-loop-above l =
    let controls = controls_of l.self.controls in
    let asked = access_of l.self.access in
    along_on controls l.position asked (l.levels - l.above) l.frame (rights_by l.rights.0) (drop l.above l.entries) ≡ access_along l.levels controls l.fn.root l.position asked l.entries
