use Rattle.std.proofs.Common.{Ok, Err, ◌∙◌, subst}
use Rattle.std.proofs.lemmas.Result.{err_from_is_err_and}
use Rattle.x86_64_tables.specs.PageTableFlags.{bits_of}
use Rattle.x86_64_mappers.specs.private.PathCalls.{UpdatesPath}
use Rattle.x86_64_mappers.proofs.calls.update_flags.Goals as goal

pub returns-clause-does : goal.returns-clause-does
returns-clause-does g c =
    let h = g.M.Tables.hierarchy c.args.mapper.now in
    let after = g.M.Tables.hierarchy c.update_path.new.mapper in
    subst (λ q. UpdatesPath h q (bits_of c.args.flags) (Ok (tt {0})) after) (c.indices.ensures ∙ c.path_of_page-path.ensures.path) c.in_ok-update_path.ensures

pub returns-in_err-update_path-clause-does : goal.returns-in_err-update_path-clause-does
returns-in_err-update_path-clause-does g c =
    let h = g.M.Tables.hierarchy c.args.mapper.now in
    let after = g.M.Tables.hierarchy c.update_path.new.mapper in
    let e = err_from_is_err_and c.from_residual.result c.from_residual.ensures.1 in
    let why = c.in_err-update_path.field-0.0 in
    rw (e.1, e.2) (subst (λ q. UpdatesPath {X = Unit {0}} h q (bits_of c.args.flags) (Err why) after)
    (c.indices.ensures ∙ c.path_of_page-path.ensures.path) c.in_err-update_path.ensures)
