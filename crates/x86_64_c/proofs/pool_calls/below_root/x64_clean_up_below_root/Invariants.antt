use Rattle.x86_64_c.proofs.pool_calls.below_root.x64_clean_up_below_root.Given as goal

abbrev pub ghost-of : goal.ghost-of
ghost-of g a = g.own
