use Rattle.std.proofs.Common.{◌∙◌, ℕ, false, sym, subst}
use Rattle.x86_64_dump.specs.Formats.{segments_of}
use Rattle.x86_64_dump.specs.Opening.{OpensAs}
use Rattle.x86_64_dump.specs.Placement.{raw_segments}
use Rattle.x86_64_dump.specs.declared.formats.Format.{Format}
use Rattle.x86_64_dump.proofs.Openings.{without_reads}
use Rattle.x86_64_dump.proofs.formats.read_segments.Goals as goal

pub returns-in-Raw : goal.returns-in-Raw
returns-in-Raw g c known =
    let may = g.S.ByteSource.may_fail in
    let file = g.S.ByteSource.bytes c.args.source.now in
    let placement = c.args.placement.now in
    let result = c.raw_segments.result in
    let long = c.len.ensures ∙ g.met.S.ByteSource.counted known c.args.source.now in
    subst (λ (format : Format). OpensAs may (λ v. v.items) result (segments_of format file placement)) (sym c.in-Raw.is)
    (without_reads may (λ v. v.items) result _ (subst (λ (n : ℕ). OpensAs false (λ v. v.items) result (raw_segments n placement)) long c.raw_segments.ensures))
