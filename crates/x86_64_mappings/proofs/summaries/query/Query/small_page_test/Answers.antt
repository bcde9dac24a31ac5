use Rattle.std.proofs.Common.{◌==◌, sym, ap, ◌∙◌}
use Rattle.x86_64_model.specs.Mappings.{every_right}
use Rattle.x86_64_model.specs.private.Found.{page_from}
use Rattle.x86_64_mappings.specs.Wanted.{is_wanted}
use Rattle.x86_64_mappings.proofs.PageBits.{every_bit, in_frame}
use Rattle.x86_64_mappings.proofs.summaries.query.Query.small_page_test.Goals as goal

pub returns-in-Some : goal.returns-in-Some
returns-in-Some g c entry =
    (λ i. every_bit entry i == c.frame_of.ensures i)
    ∙ in_frame entry c.in-Some.address
    ∙ ap (λ wanted. is_wanted wanted (page_from 0 1 every_right entry)) (sym c.in-Some.is)
