use Rattle.x86_64_c.proofs.drops.x64_drop.Given as goal

abbrev pub ghost-of : goal.ghost-of
ghost-of g a = g.own
