use Rattle.std.proofs.Common.{◌≡◌, ◌∙◌, ◌+◌, ap, sym, cond, arith, ne_eqb, eq-eqb}
use Rattle.x86_64_dump.specs.Numbers.{u32_at}
use Rattle.x86_64_dump.specs.Source.{bytes_at}
use Rattle.x86_64_dump.specs.Formats.Elf.{count_of}
use Rattle.x86_64_dump.proofs.Parts.{u32_shown, part_shows}
use Rattle.x86_64_dump.proofs.formats.elf.read_count.Goals as goal

pub returns-then-header-clause-value : goal.returns-then-header-clause-value
unfolding count_of
returns-then-header-clause-value g c known =
    let file = g.S.ByteSource.bytes c.args.source.now in
    let header = c.args.header.now in
    c.from.ensures ∙ sym (ap (λ b. cond b (u32_at file (header.sections + 44)) header.count) (ne_eqb header.count 65535 c.if-header.true))

pub returns-clause-value : goal.returns-clause-value
unfolding count_of
returns-clause-value g c known =
    let file = g.S.ByteSource.bytes c.args.source.now in
    let header = c.args.header.now in
    let at = header.sections in
    let read : c.read_exact_at.new.buffer ≡ bytes_at file at 64 = c.in_ok-read_exact_at.ensures.bytes known in
    let told : c.read_u32.result ≡ u32_at file (at + 44) = c.read_u32.ensures ∙ ap (λ part. u32_at part 44) read ∙ u32_shown _ file 44 at 64 (part_shows file at 64) (omega arith) in
    told ∙ sym (ap (λ b. cond b (u32_at file (at + 44)) header.count) (eq-eqb header.count 65535 c.if-header.false))
