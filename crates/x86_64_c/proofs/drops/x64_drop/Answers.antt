use Rattle.std.proofs.Common.{sym, ap, unwrap_or}
use Rattle.x86_64_c.proofs.Dropped.{executes_drop, refuses_drop}
use Rattle.x86_64_c.proofs.drops.x64_drop.Goals as goal

pub returns-in_default : goal.returns-in_default
returns-in_default g c =
    executes_drop g.own c.args.hierarchy.now c.args.tables.now c.enter.new.tables c.args.pool.now c.enter.new.array c.args.free_count.now c.args.first c.args.last c.args.next.now
    c.in-Ok.dropped.free_count c.in-Ok.dropped.out c.args.next.now c.in-Ok.ensures.good (rw c.of.ensures at c.in-Ok.ensures.does) (sym (ap (λ o. unwrap_or o c.args.next.now) c.in_default.is))

pub returns-in-Err : goal.returns-in-Err
returns-in-Err g c =
    refuses_drop g.own c.args.hierarchy.now c.args.tables.now c.enter.new.tables c.args.pool.now c.enter.new.array c.args.free_count.now c.args.first c.args.last c.args.next.now
    c.in-Err.status c.in-Err.ensures.bad c.in-Err.ensures.unchanged.0 c.in-Err.ensures.unchanged.1
