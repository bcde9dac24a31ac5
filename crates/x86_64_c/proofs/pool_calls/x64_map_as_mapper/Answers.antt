use Rattle.x86_64_c.specs.PoolCalls.{loan, to_map}
use Rattle.x86_64_c.proofs.Executed.{executes, refuses}
use Rattle.x86_64_c.proofs.pool_calls.x64_map_as_mapper.Goals as goal

pub returns-in-Ok : goal.returns-in-Ok
returns-in-Ok g c =
    executes g.own c.args.hierarchy.now (loan c.args.tables.now c.args.pool.now c.args.free_count.now) (loan c.enter.new.tables c.enter.new.array c.in-Ok.mapped.free_count) (to_map c.args.request.now) _
    c.in-Ok.ensures.good (rw c.of.ensures at c.in-Ok.ensures.does.0)

pub returns-in-Err : goal.returns-in-Err
returns-in-Err g c =
    refuses g.own c.args.hierarchy.now c.args.tables.now _ c.args.pool.now _ c.args.free_count.now (to_map c.args.request.now) c.in-Err.status
    c.in-Err.ensures.bad c.in-Err.ensures.unchanged.0 c.in-Err.ensures.unchanged.1
