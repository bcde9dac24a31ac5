use Rattle.std.proofs.Common.{◌∷◌}
use Rattle.std.proofs.lemmas.List.Sorted.{IsPermutation-refl}
use Rattle.x86_64_model.specs.Store.{put_first}
use Rattle.x86_64_model.specs.Pool.{TakesBack}
use Rattle.x86_64_model.proofs.Lemmas.Machines.Giving.{giving_from}
use Rattle.uses.proofs.KernelCalls.{ran_first}
use Rattle.uses.proofs.switching_kernel.Kernel.start.Goals as goal

gives : TakesBack put_first
gives = giving_from put_first (λ held f. IsPermutation-refl (f ∷ held))

pub returns-clause-runs : goal.returns-clause-runs
returns-clause-runs g c = record {
  are = c.requires.are;
  first = ran_first _ _ _ gives c.requires.are c.args.process c.requires.process _ _ c.enable_paging.ensures;
  second = ran_first _ _ _ gives c.requires.are c.args.process c.requires.process _ _ c.enable_paging-2.ensures;
}
