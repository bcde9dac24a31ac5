use Rattle.x86_64_c.proofs.ranges.x64_map_range.Given as goal

abbrev pub ghost-of : goal.ghost-of
ghost-of g a = g.own
