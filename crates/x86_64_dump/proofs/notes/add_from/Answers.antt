use Rattle.std.proofs.Common.{refl, ℕ, List, ◌≡◌, ◌<◌, ◌≤◌, ◌+◌, ◌-◌, ◌/◌, ◌++◌, ◌∙◌, suc, ap, Err, arith}
use Rattle.std.proofs.lemmas.Result.{err_from_is_err_and}
use Rattle.x86_64_dump.specs.declared.note.Note.{Note}
use Rattle.x86_64_dump.specs.declared.error.DumpError.TheVariants.{OutOfMemory, Read}
use Rattle.x86_64_dump.specs.private.NotesLeft.{kept_notes}
use Rattle.x86_64_dump.proofs.NotesRead.{kept_notes_end, no_kept_notes, added_all, added_one}
use Rattle.x86_64_dump.proofs.notes.add_from.Goals as goal

pub returns-in_default : goal.returns-in_default
returns-in_default g c known readable =
    let file = g.S.ByteSource.bytes c.args.source.now in
    let most = c.args.size / 12 - c.loop.counter in
    added_all c.loop.notes.items (kept_notes c.args.kind most file c.loop.at c.loop.left) c.args.notes.now.items (kept_notes c.args.kind (c.args.size / 12) file c.args.offset c.args.size)
    (kept_notes_end c.args.kind most file c.loop.at c.loop.left c.in_ok-note.field-0 c.in_default.is (c.in_ok-note.ensures.value known)) (c.loop.invariant.told known)

pub returns-in_default-checked_sub : goal.returns-in_default-checked_sub
returns-in_default-checked_sub g c known readable =
    let file = g.S.ByteSource.bytes c.args.source.now in
    let most = c.args.size / 12 - c.loop.counter in
    let next = c.args.size / 12 - (c.loop.counter + 1) in
    let note = c.in-Some.note in
    let notes = c.loop.notes.items in
    let added = c.push_kept.new.notes.items in
    let old = c.args.notes.now.items in
    let all = kept_notes c.args.kind (c.args.size / 12) file c.args.offset c.args.size in
    let more : suc next ≡ most = omega (arith, c.loop-test.true) in
    let told = added_one c.args.kind most next file c.loop.at c.loop.left (c.loop.left - note.span) c.in_ok-note.field-0 note notes added (old ++ all) more refl c.in-Some.is (c.in_ok-note.ensures.value known) c.in_ok-push_kept.ensures (c.loop.invariant.told known) in
    added_all added (kept_notes c.args.kind next file (c.loop.at + note.span) (c.loop.left - note.span)) old all
    (no_kept_notes c.args.kind next file (c.loop.at + note.span) (c.loop.left - note.span) (omega (arith, c.in_default-checked_sub.ensures))) told

pub loop-preserved : goal.loop-preserved
loop-preserved g c = record {
  all = omega (arith, c.in-Some-checked_sub.ensures.0, c.in-Some-checked_sub.ensures.1, c.loop.invariant.all);
  told = λ known.
      let file = g.S.ByteSource.bytes c.args.source.now in
      let most = c.args.size / 12 - c.loop.counter in
      let next = c.args.size / 12 - (c.loop.counter + 1) in
      let note = c.in-Some.note in
      let added = c.push_kept.new.notes.items in
      let all = c.args.notes.now.items ++ kept_notes c.args.kind (c.args.size / 12) file c.args.offset c.args.size in
      let more : suc next ≡ most = omega (arith, c.loop-test.true) in
      added_one c.args.kind most next file c.loop.at c.loop.left c.in-Some-checked_sub.rest c.in_ok-note.field-0 note c.loop.notes.items added all more c.in-Some-checked_sub.ensures.1 c.in-Some.is (c.in_ok-note.ensures.value known) c.in_ok-push_kept.ensures (c.loop.invariant.told known);
}

pub loop-init : goal.loop-init
loop-init g c =
    let more : ℕ → List Note = λ most. kept_notes c.args.kind most (g.S.ByteSource.bytes c.args.source.now) c.args.offset c.args.size in
    record { all = refl; told = λ _. ap (λ most. c.args.notes.now.items ++ more most) (omega arith) }

pub read_note-requires : goal.read_note-requires
read_note-requires g c = omega (arith, c.loop.invariant.all, c.requires)

pub returns-in_err-note : goal.returns-in_err-note
returns-in_err-note g c known readable =
    let e = err_from_is_err_and c.from_residual.result c.from_residual.ensures.1 in
    let told : c.from_residual.result ≡ Err (Read c.in_err-note.field-0.0) = e.1 ∙ ap Err e.2 in
    let some : 0 < c.args.size = omega (arith, c.loop-test.true) in
    let inside : c.loop.at + c.loop.left ≤ g.S.ByteSource.size c.args.source.now =
    omega (arith, c.loop.invariant.all, readable some, g.met.S.ByteSource.counted known c.args.source.now) in
    rw told (c.in_err-note.ensures.failed inside)

pub returns-in_err-push_kept : goal.returns-in_err-push_kept
returns-in_err-push_kept g c known readable =
    let e = err_from_is_err_and c.from_residual-in_err-push_kept.result c.from_residual-in_err-push_kept.ensures.1 in
    let told : c.from_residual-in_err-push_kept.result ≡ Err OutOfMemory = e.1 ∙ ap Err e.2 in
    rw told tt

pub overflow_add-at : goal.overflow_add-at
overflow_add-at g c = omega (arith, c.in-Some-checked_sub.ensures.0, c.in-Some-checked_sub.ensures.1, c.loop.invariant.all, c.requires)

pub returns : goal.returns
returns g c known readable =
    let file = g.S.ByteSource.bytes c.args.source.now in
    let most = c.args.size / 12 - c.loop.counter in
    let none : most ≡ 0 = omega (arith, c.loop-test.false) in
    added_all c.loop.notes.items (kept_notes c.args.kind most file c.loop.at c.loop.left) c.args.notes.now.items
    (kept_notes c.args.kind (c.args.size / 12) file c.args.offset c.args.size)
    (ap (λ n. kept_notes c.args.kind n file c.loop.at c.loop.left) none) (c.loop.invariant.told known)
