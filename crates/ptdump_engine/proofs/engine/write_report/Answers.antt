use Rattle.std.proofs.lemmas.Result.{err_from_is_err_and}
use Rattle.ptdump_engine.proofs.Failing.{first_write}
use Rattle.ptdump_engine.proofs.engine.write_report.Goals as goal

pub returns-in_err-write_regions-in-Regions-clause-errors : goal.returns-in_err-write_regions-in-Regions-clause-errors
returns-in_err-write_regions-in-Regions-clause-errors g c =
    let e = err_from_is_err_and c.from_residual.result c.from_residual.ensures.1 in
    rw e.1 (first_write g.S.ByteSource.may_fail g.W.Destination.may_refuse g.E.Destination.may_refuse e.0 e.2.0)

pub returns-in_err-write_pages-in-Pages-clause-errors : goal.returns-in_err-write_pages-in-Pages-clause-errors
returns-in_err-write_pages-in-Pages-clause-errors g c =
    let e = err_from_is_err_and c.from_residual-in_err-write_pages-in-Pages.result c.from_residual-in_err-write_pages-in-Pages.ensures.1 in
    rw e.1 (first_write g.S.ByteSource.may_fail g.W.Destination.may_refuse g.E.Destination.may_refuse e.0 e.2.0)

pub returns-in_err-write_walks-in-Walk-clause-errors : goal.returns-in_err-write_walks-in-Walk-clause-errors
returns-in_err-write_walks-in-Walk-clause-errors g c =
    let e = err_from_is_err_and c.from_residual-in_err-write_walks-in-Walk.result c.from_residual-in_err-write_walks-in-Walk.ensures.1 in
    rw e.1 (first_write g.S.ByteSource.may_fail g.W.Destination.may_refuse g.E.Destination.may_refuse e.0 e.2.0)

pub returns-in_err-write_found-in-Find-clause-errors : goal.returns-in_err-write_found-in-Find-clause-errors
returns-in_err-write_found-in-Find-clause-errors g c =
    let e = err_from_is_err_and c.from_residual-in_err-write_found-in-Find.result c.from_residual-in_err-write_found-in-Find.ensures.1 in
    rw e.1 (first_write g.S.ByteSource.may_fail g.W.Destination.may_refuse g.E.Destination.may_refuse e.0 e.2.0)

pub returns-in_err-write_findings-in-Check-clause-errors : goal.returns-in_err-write_findings-in-Check-clause-errors
returns-in_err-write_findings-in-Check-clause-errors g c =
    let e = err_from_is_err_and c.from_residual-in_err-write_findings-in-Check.result c.from_residual-in_err-write_findings-in-Check.ensures.1 in
    rw e.1 (first_write g.S.ByteSource.may_fail g.W.Destination.may_refuse g.E.Destination.may_refuse e.0 e.2.0)

pub returns-in_err-write_picture-in-Picture-clause-errors : goal.returns-in_err-write_picture-in-Picture-clause-errors
returns-in_err-write_picture-in-Picture-clause-errors g c =
    let e = err_from_is_err_and c.from_residual-in_err-write_picture-in-Picture.result c.from_residual-in_err-write_picture-in-Picture.ensures.1 in
    rw e.1 (first_write g.S.ByteSource.may_fail g.W.Destination.may_refuse g.E.Destination.may_refuse e.0 e.2.0)
