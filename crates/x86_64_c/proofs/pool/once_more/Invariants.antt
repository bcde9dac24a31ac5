use Rattle.x86_64_c.proofs.pool.once_more.Given as goal

abbrev pub ghost-of : goal.ghost-of
ghost-of g a = g.frames
