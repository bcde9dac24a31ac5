use Rattle.std.proofs.Common.{◌≡◌, ◌++◌, ◌∙◌, drop, take, length, replicate, refl, ap, min, ℕ}
use Rattle.x86_64_dump.specs.Formats.Elf.{header_of}
use Rattle.x86_64_dump.specs.Source.{bytes_at}
use Rattle.x86_64_dump.proofs.Parts.{front_shows, header_shown}
use Rattle.x86_64_dump.proofs.formats.elf.read_header.Goals as goal

pub returns-clause-value : goal.returns-clause-value
returns-clause-value g c known =
    let file = g.S.ByteSource.bytes c.args.source.now in
    let present = c.min-present.result in
    let front = c.read_exact_at.new.buffer ++ drop present (replicate 64 0) in
    let read : c.read_exact_at.new.buffer ≡ bytes_at file 0 (length {A = ℕ} (take present (replicate 64 0))) = c.in_ok-read_exact_at.ensures.bytes known in
    let told : c.header_in.result ≡ header_of front = c.header_in.ensures in
    told ∙ header_shown front file (front_shows front _ file present refl read (c.min-present.ensures ∙ ap (λ n. min n 64) (c.len.ensures ∙ g.met.S.ByteSource.counted known c.args.source.now)))
