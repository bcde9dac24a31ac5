use Rattle.std.proofs.Common.{◌≡◌, drop}
use Rattle.x86_64_mappers.specs.Layouts.{direct}
use Rattle.x86_64_model.specs.Memory.{identity_places}
use Rattle.x86_64_model.specs.Pool.{serves_below}
use Rattle.uses.proofs.ProcessCalls.{SoFar}
use Rattle.uses.proofs.processes.end.Given as goal

abbrev pub invariant-loop-page : goal.invariant-loop-page
invariant-loop-page g l = record {
  served : SoFar (direct identity_places l.process) l.pages (drop l.page-index l.pages) (serves_below l.initial.pool.limit) (g.T.TableMemory.tables l.initial.memory) l.initial.pool.frames (g.T.TableMemory.tables l.memory) l.pool.frames;
  lent : g.T.TableMemory.lent l.memory ≡ g.T.TableMemory.lent l.initial.memory;
  limit : serves_below l.pool.limit ≡ serves_below l.initial.pool.limit;
}
