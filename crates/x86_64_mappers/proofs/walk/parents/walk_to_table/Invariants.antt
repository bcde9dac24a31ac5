use Rattle.std.proofs.Common.{take}
use Rattle.x86_64_mappers.proofs.Way.Finds.{IsOnEachWay}
use Rattle.x86_64_mappers.proofs.Way.ReachedSteps.{IsHere}
use Rattle.x86_64_mappers.proofs.walk.parents.walk_to_table.Given as goal

abbrev pub invariant-loop-k : goal.invariant-loop-k
invariant-loop-k g l =
    let h = g.M.Tables.hierarchy l.mapper in
    record {
      here : IsHere h.layout h.memory l.parents l.k l.table;
      each_way : IsOnEachWay h.layout h.memory (take l.k l.parents) l.table;
    }
