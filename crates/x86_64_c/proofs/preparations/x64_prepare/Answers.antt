use Rattle.x86_64_c.specs.Arguments.{wrong_page}
use Rattle.x86_64_c.proofs.Prepared.{executes_preparation, or_none, refuses_preparation}
use Rattle.x86_64_c.proofs.preparations.x64_prepare.Goals as goal

pub enter-requires : goal.enter-requires
enter-requires g c = λ good. rw c.of.ensures (c.requires.room, c.requires.fits (rw (or_none (wrong_page c.args.hierarchy.now.levels c.args.page.now)) at good))

pub returns-in-Ok : goal.returns-in-Ok
returns-in-Ok g c =
    executes_preparation g.own c.args.hierarchy.now c.args.tables.now c.enter.new.tables c.args.pool.now c.enter.new.array c.args.free_count.now c.args.page.now c.args.parent_flags
    c.in-Ok.prepared.free_count c.in-Ok.prepared.out (rw (or_none (wrong_page c.args.hierarchy.now.levels c.args.page.now)) at c.in-Ok.ensures.good)
    (rw (c.of.ensures, c.from_bits_retain-parent_flags.ensures tt) at c.in-Ok.ensures.does)

pub returns-in-Err : goal.returns-in-Err
returns-in-Err g c =
    refuses_preparation g.own c.args.hierarchy.now c.args.tables.now c.enter.new.tables c.args.pool.now c.enter.new.array c.args.free_count.now c.args.page.now c.args.parent_flags
    c.in-Err.status (rw (or_none (wrong_page c.args.hierarchy.now.levels c.args.page.now)) at c.in-Err.ensures.bad) c.in-Err.ensures.unchanged.0 c.in-Err.ensures.unchanged.1
