use Rattle.x86_64_c.proofs.BelowRootSteps.{executes_below, refuses_below}
use Rattle.x86_64_c.proofs.pool_calls.below_root.x64_clean_up_below_root.Goals as goal

pub returns-in-Ok : goal.returns-in-Ok
returns-in-Ok g c =
    executes_below g.own c.args.hierarchy.now c.args.tables.now c.enter.new.tables c.args.pool.now c.enter.new.array c.args.free_count.now c.args.first_page c.args.last_page
    c.in-Ok.cleaned.free_count c.in-Ok.cleaned.out c.in-Ok.ensures.good (rw c.of.ensures at c.in-Ok.ensures.does)

pub returns-in-Err : goal.returns-in-Err
returns-in-Err g c =
    refuses_below g.own c.args.hierarchy.now c.args.tables.now c.enter.new.tables c.args.pool.now c.enter.new.array c.args.free_count.now c.args.first_page c.args.last_page
    c.in-Err.status c.in-Err.ensures.bad c.in-Err.ensures.unchanged.0 c.in-Err.ensures.unchanged.1
