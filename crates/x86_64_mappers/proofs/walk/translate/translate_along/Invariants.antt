use Rattle.x86_64_mappers.proofs.Translate.WalkedPart.{IsSoughtAt}
use Rattle.x86_64_mappers.proofs.walk.translate.translate_along.Given as goal

abbrev pub invariant-loop-k : goal.invariant-loop-k
invariant-loop-k g l = IsSoughtAt (g.M.Tables.hierarchy l.mapper).layout (g.M.Tables.hierarchy l.mapper).memory l.indices l.addr l.k l.table
