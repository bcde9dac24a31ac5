use Rattle.std.proofs.Common.{◌≡◌, ◌∙◌, ◌-◌, Ok, ap, arith, drop, length, min, sym}
use Rattle.x86_64_dump.specs.Source.{bytes_at}
use Rattle.x86_64_dump.proofs.NotesRead.{descriptor_read, descriptor_whole}
use Rattle.x86_64_dump.proofs.notes.read_descriptor.Goals as goal

pub returns-then-size-eq0 : goal.returns-then-size-eq0
returns-then-size-eq0 g c known =
    let file = g.S.ByteSource.bytes c.args.source.now in
    let note = c.args.note.now in
    let long = c.len.ensures ∙ g.met.S.ByteSource.counted known c.args.source.now in
    let size : c.min-size.result ≡ min (min note.size 0x1_0000) (c.len.result - note.offset) =
    c.min-size.ensures ∙ ap (min c.min.result) c.saturating_sub.ensures ∙ ap (λ n. min n (c.len.result - note.offset)) c.min.ensures in
    ap Ok (sym (descriptor_read file note c.len.result c.min-size.result long size) ∙ ap (bytes_at file note.offset) c.if-size-eq0.true ∙ sym c.new.ensures.items)

pub returns : goal.returns
returns g c known =
    let file = g.S.ByteSource.bytes c.args.source.now in
    let note = c.args.note.now in
    let buffer = c.read_exact_at.new.buffer in
    let long = c.len.ensures ∙ g.met.S.ByteSource.counted known c.args.source.now in
    let size : c.min-size.result ≡ min (min note.size 0x1_0000) (c.len.result - note.offset) =
    c.min-size.ensures ∙ ap (min c.min.result) c.saturating_sub.ensures ∙ ap (λ n. min n (c.len.result - note.offset)) c.min.ensures in
    let filled = c.read_exact_at.auto.buffer in
    let viewed = c.deref_mut.ensures.len in
    let made = c.in_ok-descriptor.ensures.len in
    let old : length c.deref_mut.result.now ≡ c.min-size.result = omega (arith, viewed, made) in
    let whole : length buffer ≡ c.in_ok-descriptor.descriptor.len = omega (arith, filled, viewed, made) in
    let read : buffer ≡ bytes_at file note.offset c.min-size.result = c.in_ok-read_exact_at.ensures.bytes known ∙ ap (bytes_at file note.offset) old in
    ap Ok (descriptor_whole file buffer (drop (length buffer) c.in_ok-descriptor.descriptor.items) note c.len.result c.min-size.result c.in_ok-descriptor.descriptor.len long size read whole)
