use Rattle.std.proofs.Common.{Err, drop, subst}
use Rattle.std.proofs.lemmas.List.{take-append-drop}
use Rattle.x86_64_mappers.specs.private.Results.{walk_refusal}
use Rattle.x86_64_mappers.specs.private.Stops.{IsFound}
use Rattle.x86_64_mappers.proofs.walk.parents.find_table.Goals as goal

pub returns-in-Err-clause-found : goal.returns-in-Err-clause-found
returns-in-Err-clause-found g c =
    let h = g.M.Tables.hierarchy c.args.mapper.now in
    let path = c.args.parents.now in
    subst (λ p. IsFound h.layout h.memory p (Err (walk_refusal c.in-Err.end.why))) (take-append-drop c.in-Err.end.depth path) (c.in-Err.ensures.ends (drop c.in-Err.end.depth path))
