use Rattle.std.proofs.Common.{◌≡◌, ◌∙◌, ◌+◌, ◌*◌, ◌≤◌, ap, sym, None, Ok, arith}
use Rattle.x86_64_dump.specs.Formats.Elf.{elf_segments, with_memory}
use Rattle.x86_64_dump.specs.Dump.{segments_at}
use Rattle.x86_64_dump.proofs.Openings.{at_once, elf_refused, elf_table}
use Rattle.x86_64_dump.proofs.formats.elf.read_by.Goals as goal

pub returns-in-Some : goal.returns-in-Some
returns-in-Some g c known =
    elf_refused (g.S.ByteSource.bytes c.args.source.now) c.args.header.now _ _ (c.len-length.ensures ∙ g.met.S.ByteSource.counted known c.args.source.now) (sym c.fault_of_header.ensures.fault ∙ c.in-Some.is)

pub returns-in-Some-fault_of_table : goal.returns-in-Some-fault_of_table
returns-in-Some-fault_of_table g c known =
    elf_table (g.S.ByteSource.bytes c.args.source.now) c.args.header.now _ _ _ (c.len-length.ensures ∙ g.met.S.ByteSource.counted known c.args.source.now) (sym c.fault_of_header.ensures.fault ∙ c.in_default.is)
    (c.in_ok-count.ensures.value known) (sym c.fault_of_table.ensures.fault ∙ c.in-Some-fault_of_table.is)

pub returns : goal.returns
returns g c known =
    let file = g.S.ByteSource.bytes c.args.source.now in
    let header = c.args.header.now in
    let long = c.len-length.ensures ∙ g.met.S.ByteSource.counted known c.args.source.now in
    let inside : header.headers + 56 * c.in_ok-count.count ≤ c.len-length.result = c.in_default-fault_of_table.ensures.table in
    let found : elf_segments file header ≡ with_memory (segments_at file header.headers c.in_ok-count.count)
    = elf_table file header _ _ None long (sym c.fault_of_header.ensures.fault ∙ c.in_default.is) (c.in_ok-count.ensures.value known) (sym c.fault_of_table.ensures.fault ∙ c.in_default-fault_of_table.is) in
    let told : Ok (segments_at file header.headers c.in_ok-count.count) ≡ Ok c.in_ok-read_table.field-0.items = c.in_ok-read_table.ensures known (omega arith) in
    let same : segments_at file header.headers c.in_ok-count.count ≡ c.in_ok-read_table.field-0.items = cc in
    at_once g.S.ByteSource.may_fail (λ v. v.items) c.with_memory.result _ _ (found ∙ ap with_memory same) c.with_memory.ensures
