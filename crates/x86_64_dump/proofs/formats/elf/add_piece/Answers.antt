use Rattle.std.proofs.Common.{◌≡◌, ℕ, ◌*◌, Ok, ap, length, take, replicate, arith}
use Rattle.std.proofs.lemmas.List.{length-take}
use Rattle.x86_64_dump.specs.Source.{bytes_at}
use Rattle.x86_64_dump.proofs.Headers.{piece_added}
use Rattle.x86_64_dump.proofs.formats.elf.add_piece.Goals as goal

pub returns : goal.returns
returns g c known fits =
    let file = g.S.ByteSource.bytes c.args.source.now in
    let size = length {A = ℕ} (take (56 * c.from.result) (replicate 4088 0)) in
    let taken = length-take (56 * c.from.result) (replicate {A = ℕ} 4088 0) in
    let read : c.read_exact_at.new.buffer ≡ bytes_at file c.args.offset size = c.in_ok-read_exact_at.ensures.bytes known in
    ap Ok (piece_added c.read_exact_at.new.buffer file c.args.offset c.args.count size c.args.segments.now.items c.push_segments.new.segments.items
    (omega (arith, c.from.ensures)) c.read_exact_at.auto.buffer read (c.in_ok-push_segments.ensures))
