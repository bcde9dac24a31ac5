use Rattle.std.proofs.Common.{◌≡◌, ◌-◌}
use Rattle.x86_64_model.specs.Memory.{words_of}
use Rattle.x86_64_model.specs.Access.{access}
use Rattle.x86_64_access.specs.Accesses.{access_of, controls_of}
use Rattle.x86_64_access.specs.private.Walking.{access_on, rights_by}
use Rattle.x86_64_access.proofs.memory_unit.Request.walk.Given as goal

-- from here on, the outcome is that from the root on
abbrev pub invariant-loop-above : goal.invariant-loop-above
invariant-loop-above g l =
    let words = words_of (g.T.TableMemory.tables l.memory) (g.P.PageTableFrameMapping.places l.mapping) in
    let controls = controls_of l.self.controls in
    let asked = access_of l.self.access in
    access_on controls words l.position asked (l.levels - l.above) l.frame (rights_by l.rights.0) ≡ access l.levels controls words l.fn.root l.position asked
