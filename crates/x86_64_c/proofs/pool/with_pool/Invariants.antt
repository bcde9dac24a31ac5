use Rattle.x86_64_c.proofs.pool.with_pool.Given as goal

abbrev pub ghost-once_more : goal.ghost-once_more
ghost-once_more g a = a.own.now.frames
