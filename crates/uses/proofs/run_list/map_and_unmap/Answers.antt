use Rattle.uses.proofs.run_list.map_and_unmap.Goals as goal

pub returns-clause-keeps : goal.returns-clause-keeps
returns-clause-keeps g c = c.run.ensures.keeps
