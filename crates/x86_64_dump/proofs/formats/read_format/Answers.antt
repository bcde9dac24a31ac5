use Rattle.std.proofs.Common.{◌≡◌, ◌∙◌, ℕ, length, take, replicate}
use Rattle.x86_64_dump.specs.Source.{bytes_at}
use Rattle.x86_64_dump.proofs.Rows.{start_read}
use Rattle.x86_64_dump.proofs.formats.read_format.Goals as goal

pub returns-clause-value : goal.returns-clause-value
returns-clause-value g c known =
    let file = g.S.ByteSource.bytes c.args.source.now in
    let present = c.min-present.result in
    let read : c.read_exact_at.new.buffer ≡ bytes_at file 0 (length {A = ℕ} (take present (replicate 64 0))) = c.in_ok-read_exact_at.ensures.bytes known in
    c.format_of.ensures ∙ start_read c.read_exact_at.new.buffer file present _ read c.min-present.ensures (c.len.ensures ∙ g.met.S.ByteSource.counted known c.args.source.now)
