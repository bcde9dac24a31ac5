use Rattle.x86_64_c.proofs.pool_calls.x64_map_as_mapper.Given as goal

abbrev pub ghost-of : goal.ghost-of
ghost-of g a = g.own
