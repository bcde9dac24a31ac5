use Rattle.x86_64_c.proofs.maps.x64_map.Given as goal

abbrev pub ghost-of : goal.ghost-of
ghost-of g a = g.own
