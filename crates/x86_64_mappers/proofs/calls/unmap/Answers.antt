use Rattle.std.proofs.Common.{◌∙◌, subst}
use Rattle.std.proofs.lemmas.Result.{err_from_is_err_and}
use Rattle.x86_64_model.specs.Refusal.{Done, Refused}
use Rattle.x86_64_tables.specs.MapperAnswers.{refusal_of_unmap}
use Rattle.x86_64_mappers.specs.private.PathCalls.{UnmapsPath}
use Rattle.x86_64_mappers.proofs.calls.unmap.Goals as goal

pub returns-clause-does : goal.returns-clause-does
returns-clause-does g c =
    let h = g.M.Tables.hierarchy c.args.mapper.now in
    let after = g.M.Tables.hierarchy c.unmap_path.new.mapper in
    subst (λ q. UnmapsPath h q (Done c.in_ok-frame.frame) after) (c.indices.ensures ∙ c.path_of_page-path.ensures.path) c.in_ok-frame.ensures

pub returns-in_err-frame-clause-does : goal.returns-in_err-frame-clause-does
returns-in_err-frame-clause-does g c =
    let h = g.M.Tables.hierarchy c.args.mapper.now in
    let after = g.M.Tables.hierarchy c.unmap_path.new.mapper in
    let e = err_from_is_err_and c.from_residual.result c.from_residual.ensures.1 in
    let why = Refused (refusal_of_unmap c.in_err-frame.field-0.0) in
    rw (e.1, e.2) (subst (λ q. UnmapsPath h q why after) (c.indices.ensures ∙ c.path_of_page-path.ensures.path) c.in_err-frame.ensures)
