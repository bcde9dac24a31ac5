use Rattle.std.proofs.Common.{◌≡◌, ◌↔◌, ◌∙◌, ◌⊎◌, ⊎_elim, ℕ, IsTrue, Bool, Result, sym, subst}
use Rattle.std.specs.Result.{IfOk}
use Rattle.x86_64_model.specs.Hierarchy.{◌laid_in◌}
use Rattle.x86_64_model.specs.Store.{StoreFits}
use Rattle.x86_64_addr.specs.declared.level_count.Levels.{Levels}
use Rattle.x86_64.specs.Pairs.{pool_store}
use Rattle.pagetab_engine.specs.Modes.{image_layout}
use Rattle.pagetab_engine.specs.declared.arguments.Mode.{Mode}
use Rattle.pagetab_engine.specs.declared.arguments.Mode.TheVariants.{Recursive, Pair}
use Rattle.pagetab_engine.specs.declared.frames.Frames.{Frames}
use Rattle.pagetab_engine.proofs.hierarchy.Hierarchy.fits.Goals as goal
use Rattle.pagetab_engine.proofs.hierarchy.Hierarchy.fits.Goals.{in-Recursive, in-Recursive-2}

-- a test of the hierarchy of a mode tests the program's hierarchy if that is its mode
in_mode : {E : Type 0} (result : Result Bool E) (frames : Frames) (mode is : Mode) → mode ≡ is → IfOk result (λ fits. IsTrue fits ↔ StoreFits (image_layout is frames.memory laid_in frames.memory) (pool_store frames.pool))
    → IfOk result (λ fits. IsTrue fits ↔ StoreFits (image_layout mode frames.memory laid_in frames.memory) (pool_store frames.pool))
in_mode result frames mode is same = subst (λ (mode : Mode). IfOk result (λ fits. IsTrue fits ↔ StoreFits (image_layout mode frames.memory laid_in frames.memory) (pool_store frames.pool))) (sym same)

pub returns-in-Direct : goal.returns-in-Direct
returns-in-Direct c = in_mode _ c.args.self.now.frames _ _ c.in-Direct.is c.fits.ensures

pub returns-in-Offset : goal.returns-in-Offset
returns-in-Offset c = in_mode _ c.args.self.now.frames _ _ c.in-Offset.is c.fits-in-Offset.ensures

-- so does a test of the recursive mapper's, alone or in a pair
recursive_in_mode : {E : Type 0} (result : Result Bool E) (frames : Frames) (mode : Mode) (levels a : Levels) (index b : ℕ) → levels ≡ a → index ≡ b → (mode ≡ Recursive a b) ⊎ (mode ≡ Pair a b)
    → IfOk result (λ fits. IsTrue fits ↔ StoreFits (image_layout (Recursive levels index) frames.memory laid_in frames.memory) (pool_store frames.pool))
    → IfOk result (λ fits. IsTrue fits ↔ StoreFits (image_layout mode frames.memory laid_in frames.memory) (pool_store frames.pool))
recursive_in_mode result frames mode levels a index b same also is told = ⊎_elim
    (λ is. in_mode result frames mode (Recursive levels index) (is ∙ sym (λ i. Recursive (same i) (also i))) told)
    (λ is. in_mode result frames mode (Pair levels index) (is ∙ sym (λ i. Pair (same i) (also i))) told) is

pub returns-in-Recursive : goal.returns-in-Recursive
returns-in-Recursive c = elim c.in-Recursive-1.branch [
  | in-Recursive w ↦ recursive_in_mode _ c.args.self.now.frames _ _ _ _ _ w.levels-is w.index-is w.in-Recursive.is c.fits_recursive.ensures
  | in-Recursive-2 w ↦ recursive_in_mode _ c.args.self.now.frames _ _ _ _ _ w.levels-is w.index-is w.in-Recursive.is c.fits_recursive.ensures
]
