use Rattle.pagetab_engine.proofs.Loading.{reached_after}
use Rattle.pagetab_engine.proofs.hierarchy.Hierarchy.load.Goals as goal

pub returns-in-Direct-clause-reached : goal.returns-in-Direct-clause-reached
returns-in-Direct-clause-reached c = reached_after c.args.self.now.mode c.args.self.now.frames c.args.line.now c.load.new.self.memory c.in_ok-load.ensures.memory
