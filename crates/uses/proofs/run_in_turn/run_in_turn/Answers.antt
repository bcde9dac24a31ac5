use Rattle.std.proofs.Common.{◌≡◌, inl, inr, ℕ, Bool, List, refl, sym, subst}
use Rattle.x86_64_model.specs.Memory.{Memory}
use Rattle.uses.specs.TwoRoots.{AreTwoRoots}
use Rattle.uses.proofs.run_in_turn.run_in_turn.Goals as goal

-- with the frames that the pool serves then
at : (first second : ℕ) (m : Memory) (serves now : ℕ → Bool) (pool : List ℕ) → now ≡ serves → AreTwoRoots first second m serves pool → AreTwoRoots first second m now pool
at first second m serves now pool same = subst (λ s. AreTwoRoots first second m s pool) (sym same)

pub run_on-requires : goal.run_on-requires
run_on-requires g c = c.requires.fits _ (inl refl)

pub returns-in_err-run_on-clause-again : goal.returns-in_err-run_on-clause-again
returns-in_err-run_on-clause-again g c = at c.args.roots.0 c.args.roots.1 _ _ _ _ c.run_on.ensures.same.1 (c.run_on.ensures.beside.apart _ (inl refl) c.requires).0

pub run_on-requires-2 : goal.run_on-requires-2
run_on-requires-2 g c = (at c.args.roots.0 c.args.roots.1 _ _ _ _ c.run_on.ensures.same.1 (c.run_on.ensures.beside.apart _ (inl refl) c.requires).0).fits _ (inr (inl refl))

pub returns-clause-again : goal.returns-clause-again
returns-clause-again g c =
    let between = at c.args.roots.0 c.args.roots.1 _ _ _ _ c.run_on.ensures.same.1 (c.run_on.ensures.beside.apart _ (inl refl) c.requires).0 in
    at c.args.roots.0 c.args.roots.1 _ _ _ _ c.run_on-2.ensures.same.1 (c.run_on-2.ensures.beside.apart _ (inr (inl refl)) between).0
