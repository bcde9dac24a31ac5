use Rattle.x86_64_c.proofs.preparations.x64_prepare.Given as goal

abbrev pub ghost-of : goal.ghost-of
ghost-of g a = g.own
