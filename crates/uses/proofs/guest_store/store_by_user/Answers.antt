use Rattle.std.proofs.Common.{sym, subst, true}
use Rattle.x86_64_access.specs.Accesses.{controls_of}
use Rattle.x86_64_access.specs.Marks.{OnlyMarks}
use Rattle.x86_64_model.proofs.Lemmas.Hierarchies.Memories.{identity_is_mapping}
use Rattle.x86_64_model.specs.Access.{Write, memory_after, steps_from}
use Rattle.x86_64_model.specs.Memory.{identity_places, words_of}
use Rattle.uses.proofs.guest_store.store_by_user.Goals as goal

pub returns-clause-marks : goal.returns-clause-marks
returns-clause-marks g c =
    let before = g.T.TableMemory.tables c.args.memory.now in
    let words = words_of before identity_places in
    let controls = controls_of c.args.controls.now in
    let steps = steps_from controls words c.args.addr 4 c.args.root in
    let law = c.accesses_leave_only_marks.ensures 4 controls before identity_places c.args.root c.args.addr
    (record { kind = Write; user = true }) identity_is_mapping in
    subst (λ after. OnlyMarks words (words_of after identity_places)) (sym c.access_and_mark-result.ensures.marks)
    (subst (λ outcome. OnlyMarks words (words_of (memory_after identity_places Write steps outcome before) identity_places))
    (sym c.access_and_mark-result.ensures.outcome) law)
