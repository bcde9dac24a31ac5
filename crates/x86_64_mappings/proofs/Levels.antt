-- The levels that are known, and one more.
use Rattle.std.proofs.Common.{zero, suc, ◌+◌, ℕ, List, [], ◌∷◌, ◌++◌, length, slice_get}
use Rattle.std.specs.Prelude.{IfSome}
use Rattle.x86_64_mappings.specs.Wanted.{Asked}
use Rattle.x86_64_mappings.specs.private.Known.{Level, IsLevel, AreLevels}

each_more : {X : Type 0} (P : ℕ → X → Type 0) (xs : List X) (x : X) → ((i : ℕ) → IfSome (slice_get xs i) (P i)) → P (length xs) x
    → (i : ℕ) → IfSome (slice_get (xs ++ x ∷ []) i) (P i)
each_more P [] x each last zero = last
each_more P [] x each last (suc i) = tt
each_more P (y ∷ ys) x each last zero = each zero
each_more P (y ∷ ys) x each last (suc i) = each_more (λ i. P (suc i)) ys x (λ i. each (suc i)) last i

pub levels_more : (asked : Asked) (levels : List Level) (m : Level) → AreLevels asked levels → IsLevel asked (length levels + 1) m → AreLevels asked (levels ++ m ∷ [])
levels_more asked levels m known last = each_more (λ i. IsLevel asked (i + 1)) levels m known last
