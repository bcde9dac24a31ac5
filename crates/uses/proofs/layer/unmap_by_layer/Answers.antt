use Rattle.std.proofs.Common.{rules, subst₂, ap}
use Rattle.x86_64_model.specs.Call.{Unmap}
use Rattle.x86_64_model.specs.Hierarchy.{Hierarchy, Does}
use Rattle.x86_64_tables.specs.MapperAnswers.{frame_answer}
use Rattle.uses.proofs.layer.unmap_by_layer.Goals as goal

pub returns : goal.returns
returns g c =
    let d = c.unmap_by-answer.ensures in
    let Unmaps = λ (h after : Hierarchy g.M.Tables.Lent). Does h (Unmap g.S.PageSize.LEVEL c.args.page) (frame_answer c.unmap_by-answer.result) after in
    let does : Unmaps (g.M.Tables.hierarchy c.new-layer.result.mapper.now) (g.M.Tables.hierarchy c.unmap_by-answer.new.mapper.mapper.now) = record {
      outcome = d.outcome;
      fits = d.fits;
      refused = d.refused;
      keeps = record { valid = d.keeps.valid; others = d.keeps.others; layout = d.keeps.layout; lent = ap (λ lent. lent.1) d.keeps.lent };
    } in
    subst₂ (λ m n. Unmaps (g.M.Tables.hierarchy m) (g.M.Tables.hierarchy n)) c.new-layer.ensures.mapper (search rules) does
