use Rattle.std.proofs.Common.{◌∙◌, ◌≡◌, ◌+◌}
use Rattle.x86_64_dump.specs.Source.{bytes_at}
use Rattle.x86_64_dump.proofs.NotesRead.{register_cut, register_read}
use Rattle.x86_64_dump.proofs.notes.read_register.Goals as goal

pub returns-then-is_note_cut-clause-value : goal.returns-then-is_note_cut-clause-value
returns-then-is_note_cut-clause-value g c known =
    register_cut (g.S.ByteSource.bytes c.args.source.now) c.args.note.now c.args.at c.len.result c.is_note_cut.result (c.len.ensures ∙ g.met.S.ByteSource.counted known c.args.source.now) c.is_note_cut.ensures c.if-is_note_cut.true

pub returns-clause-value : goal.returns-clause-value
returns-clause-value g c known =
    let file = g.S.ByteSource.bytes c.args.source.now in
    let read : c.read_exact_at.new.buffer ≡ bytes_at file (c.args.note.now.offset + c.args.at) 8 = c.in_ok-read_exact_at.ensures.bytes known in
    register_read file c.read_exact_at.new.buffer c.args.note.now c.args.at c.len.result c.read_u64.result c.is_note_cut.result (c.len.ensures ∙ g.met.S.ByteSource.counted known c.args.source.now) c.is_note_cut.ensures c.if-is_note_cut.false read c.read_u64.ensures
