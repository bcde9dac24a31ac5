-- Alike path maps are also alike for equal layouts and words with other names.
use Rattle.std.proofs.Common.{ℕ, ◌≡◌, subst}
use Rattle.x86_64_model.specs.Alike.{Alike}
use Rattle.x86_64_model.specs.Layout.{Layout}
use Rattle.x86_64_model.specs.Hierarchy.{◌laid_in◌, paths}
use Rattle.x86_64_model.specs.Memory.{Memory}

-- the second layout is determined by the words
pub alike_after : (levels : ℕ) (l k first : Layout) (second : Memory → Layout) (m n one other : Memory) → Alike levels (paths (l laid_in m)) (paths (k laid_in n)) → l ≡ first → k ≡ second other → m ≡ one → n ≡ other
    → Alike levels (paths (first laid_in one)) (paths (second other laid_in other))
alike_after levels l k first second m n one other alike lies also here there =
    subst (λ (m : Memory). Alike levels (paths (first laid_in m)) (paths (second other laid_in other))) here
    (subst (λ (n : Memory). Alike levels (paths (first laid_in m)) (paths (second other laid_in n))) there
    (subst (λ (l : Layout). Alike levels (paths (l laid_in m)) (paths (second other laid_in n))) lies
    (subst (λ (k : Layout). Alike levels (paths (l laid_in m)) (paths (k laid_in n))) also alike)))
