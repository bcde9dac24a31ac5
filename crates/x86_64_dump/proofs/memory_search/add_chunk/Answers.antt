use Rattle.std.proofs.Common.{◌≡◌, ℕ, ◌*◌, Ok, ap, length, take, arith}
use Rattle.std.proofs.lemmas.List.{length-take}
use Rattle.x86_64_dump.specs.Source.{bytes_at}
use Rattle.x86_64_dump.proofs.KernelTexts.{chunk_added}
use Rattle.x86_64_dump.proofs.memory_search.add_chunk.Goals as goal

pub returns-clause-texts : goal.returns-clause-texts
returns-clause-texts g c known =
    let file = g.S.ByteSource.bytes c.args.source.now in
    let size = length {A = ℕ} (take (4096 * c.args.pages) c.args.buffer.now) in
    let read : c.read_exact_at.new.buffer ≡ bytes_at file c.args.offset size = c.in_ok-read_exact_at.ensures.bytes known in
    ap Ok (chunk_added c.read_exact_at.new.buffer file c.args.offset c.args.pages size c.args.texts.now.items c.push_texts.new.texts.items
    (omega (arith, length-take (4096 * c.args.pages) c.args.buffer.now, c.requires.few)) c.read_exact_at.auto.buffer read c.in_ok-push_texts.ensures)
