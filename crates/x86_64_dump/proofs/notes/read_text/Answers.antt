use Rattle.std.proofs.Common.{arith}
use Rattle.x86_64_dump.proofs.NotesRead.{text_cut, text_ended}
use Rattle.x86_64_dump.proofs.notes.read_text.Goals as goal

pub returns-then-note-gt-TEXT_LIMIT : goal.returns-then-note-gt-TEXT_LIMIT
returns-then-note-gt-TEXT_LIMIT g c known =
    text_cut (g.S.ByteSource.bytes c.args.source.now) c.args.note.now c.in_ok-text.text.items (omega (arith, c.if-note-gt-TEXT_LIMIT.true)) (c.in_ok-text.ensures known)

pub returns : goal.returns
returns g c known =
    text_ended (g.S.ByteSource.bytes c.args.source.now) c.args.note.now c.in_ok-text.text.items c.push.new.self.items (omega (arith, c.if-note-gt-TEXT_LIMIT.false)) (c.in_ok-text.ensures known)
    c.in_ok-push.ensures.items
