use Rattle.x86_64_c.proofs.address_spaces.x64_give_up_space.Given as goal

abbrev pub ghost-of : goal.ghost-of
ghost-of g a = g.own
