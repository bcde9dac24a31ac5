use Rattle.std.proofs.Common.{rules, ◌≡◌, ◌∙◌, true, sym}
use Rattle.x86_64_model.specs.Access.{Arrives, access}
use Rattle.x86_64_access.specs.Accesses.{access_of, controls_of}
use Rattle.x86_64_model.specs.Memory.{words_of}
use Rattle.x86_64_access.proofs.Walked.{on_root}
use Rattle.x86_64_access.proofs.memory_unit.access_and_mark.Goals as goal

pub mark_from-requires-clause-arrives : goal.mark_from-requires-clause-arrives
mark_from-requires-clause-arrives g c =
    let words = words_of (g.T.TableMemory.tables c.args.memory.now) (g.P.PageTableFrameMapping.places c.args.mapping.now) in
    let controls = controls_of c.args.controls.now in
    let asked = access_of c.args.access in
    let arrives : access c.LEVELS-2.result controls words c.args.root c.position-2.result asked ≡ Arrives c.in_ok-address.address = search rules in (
      record { write = true; user = true; execute = true },
      c.in_ok-address.address,
      sym (on_root controls words c.position-2.result asked c.LEVELS-2.result c.args.root) ∙ arrives,
    )
