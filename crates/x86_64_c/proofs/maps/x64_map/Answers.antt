use Rattle.x86_64_c.specs.PoolCalls.{to_map}
use Rattle.x86_64_c.proofs.OrNothing.{executes_or_nothing, refuses_and_stays}
use Rattle.x86_64_c.proofs.maps.x64_map.Goals as goal

pub returns-in-Ok : goal.returns-in-Ok
returns-in-Ok g c =
    executes_or_nothing g.own c.args.hierarchy.now c.args.tables.now c.enter.new.tables c.args.pool.now c.enter.new.array c.args.free_count.now (to_map c.args.request.now)
    c.in-Ok.mapped.free_count c.in-Ok.mapped.out c.in-Ok.ensures.good (rw c.of.ensures at c.in-Ok.ensures.does)

pub returns-in-Err : goal.returns-in-Err
returns-in-Err g c =
    refuses_and_stays g.own c.args.hierarchy.now c.args.tables.now c.enter.new.tables c.args.pool.now c.enter.new.array c.args.free_count.now (to_map c.args.request.now)
    c.in-Err.status c.in-Err.ensures.bad c.in-Err.ensures.unchanged.0 c.in-Err.ensures.unchanged.1
