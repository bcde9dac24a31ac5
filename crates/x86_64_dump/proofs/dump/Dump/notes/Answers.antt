use Rattle.std.proofs.Common.{◌≡◌, ◌∙◌, length, ap, subst, Ok}
use Rattle.x86_64_dump.specs.Opening.{OpensAs}
use Rattle.x86_64_dump.specs.Notes.{notes_of}
use Rattle.x86_64_dump.specs.Opened.{opened}
use Rattle.x86_64_dump.specs.private.NotesLeft.{notes_within}
use Rattle.x86_64_dump.proofs.NotesTold.{within_told}
use Rattle.x86_64_dump.proofs.dump.Dump.notes.Goals as goal

pub returns : goal.returns
returns g c known =
    let file = g.S.ByteSource.bytes c.args.self.now.source in
    let told : notes_within c.args.kind (length file) file c.deref.result.now ≡ notes_of c.args.kind (opened g.S.ByteSource.bytes c.args.self.now) =
    ap (notes_within c.args.kind (length file) file) c.deref.ensures.value ∙ within_told c.args.kind (length file) file c.args.self.now.segments.items in
    subst (λ notes. OpensAs g.S.ByteSource.may_fail (λ v. v.items) c.read_notes.result (Ok notes)) told (c.read_notes.ensures known)
