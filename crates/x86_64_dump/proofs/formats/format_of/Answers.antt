use Rattle.std.proofs.Common.{◌∙◌, ap, unwrap_or}
use Rattle.x86_64_dump.specs.Formats.{format_of}
use Rattle.x86_64_dump.specs.declared.formats.Format.TheVariants as formats
use Rattle.x86_64_dump.proofs.Rows.{row_found}
use Rattle.x86_64_dump.proofs.formats.format_of.Goals as goal

pub returns : goal.returns
unfolding format_of
returns c = c.unwrap_or.ensures ∙ ap (λ found. unwrap_or found formats.Raw) (row_found c.args.start.now _ _ c.first_format.ensures)
