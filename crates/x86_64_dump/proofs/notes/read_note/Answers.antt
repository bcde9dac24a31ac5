use Rattle.std.proofs.Common.{◌≡◌, arith}
use Rattle.x86_64_dump.specs.Source.{bytes_at}
use Rattle.x86_64_dump.proofs.NotesRead.{no_note, too_short, not_whole, whole, note_found, name_size_read, size_read}
use Rattle.x86_64_dump.proofs.notes.read_note.Goals as goal

pub returns-then-left-lt-HEAD_SIZE-clause-value : goal.returns-then-left-lt-HEAD_SIZE-clause-value
returns-then-left-lt-HEAD_SIZE-clause-value g c known =
    let file = g.S.ByteSource.bytes c.args.source.now in
    no_note file c.args.at c.args.left (too_short file c.args.at c.args.left c.if-left-lt-HEAD_SIZE.true)

pub returns-then-left-padded-clause-value : goal.returns-then-left-padded-clause-value
returns-then-left-padded-clause-value g c known =
    let file = g.S.ByteSource.bytes c.args.source.now in
    let at = c.args.at in
    let read : c.read_exact_at.new.buffer ≡ bytes_at file at 12 = c.in_ok-read_exact_at.ensures.bytes known in
    let named = name_size_read file _ at _ read c.read_u32-name_size.ensures in
    let sized = size_read file _ at _ read c.read_u32-size.ensures in
    no_note file at c.args.left (not_whole file at c.args.left c.read_u32-name_size.result c.read_u32-size.result named sized (omega (arith, c.if-left-padded.true, c.padded.ensures, c.from.ensures)))

pub returns-clause-value : goal.returns-clause-value
returns-clause-value g c known =
    let file = g.S.ByteSource.bytes c.args.source.now in
    let at = c.args.at in
    let read : c.read_exact_at.new.buffer ≡ bytes_at file at 12 = c.in_ok-read_exact_at.ensures.bytes known in
    let named = name_size_read file _ at _ read c.read_u32-name_size.ensures in
    let sized = size_read file _ at _ read c.read_u32-size.ensures in
    let all = whole file at c.args.left _ _ named sized (omega (arith, c.if-left-padded.false, c.padded.ensures, c.from.ensures)) in
    note_found file at c.args.left _ _ _ _ _ _ _ all named sized (c.in_ok-read_kind.ensures.value known named) c.padded-2.ensures c.from-2.ensures c.padded-3.ensures c.padded-4.ensures
