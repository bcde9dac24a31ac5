-- Sums and differences of a multiple of a size and of a number of sizes.
use Rattle.std.specs.Prelude.{◌≡◌, ℕ, ◌+◌, ◌-◌, ◌*◌, ◌%◌, ◌≤◌, ◌<◌}
use Rattle.std.proofs.Common.{◌∙◌, sym, ap, arith}
use Rattle.std.proofs.Math.Nat.{add-mul-mod_self_right}
use Rattle.std.proofs.lemmas.Nat.{pow_pos}
use Rattle.x86_64_addr.specs.Levels.{IsLevelCount}
use Rattle.x86_64_addr.specs.Position.{span, raw}
use Rattle.x86_64_page.proofs.Multiples.{same_remainder}

-- a multiple of the size plus a number of sizes is a multiple of the size
pub sum_is_multiple : (number count size : ℕ) → number % size ≡ 0 → (number + count * size) % size ≡ 0
sum_is_multiple n count z aligned = add-mul-mod_self_right n count z ∙ aligned

-- a multiple of the size minus a number of sizes is a multiple of the size
pub difference_is_multiple : (number count size : ℕ) → count * size ≤ number → number % size ≡ 0 → (number - count * size) % size ≡ 0
difference_is_multiple n count z enough aligned =
    let whole : n - count * z + count * z ≡ n = omega arith in
    sym (add-mul-mod_self_right (n - count * z) count z) ∙ (ap (λ m. m % z) whole ∙ aligned)

-- a position is a multiple of the size if its raw value is a number of sizes above that of a position that is one
pub sum_is_aligned : (L sum position count size level : ℕ) → IsLevelCount L → 1 ≤ level → level ≤ 3 → size ≡ span level
    → raw L sum ≡ raw L position + count * size → position % size ≡ 0 → sum % size ≡ 0
sum_is_aligned L r p count z level levels low high e at aligned =
    sym (same_remainder L r z level levels low high e)
    ∙ (ap (λ m. m % z) at ∙ sum_is_multiple (raw L p) count z (same_remainder L p z level levels low high e ∙ aligned))

-- a position is a multiple of the size if its raw value is a number of sizes below that of a position that is one
pub difference_is_aligned : (L difference position count size level : ℕ) → IsLevelCount L → 1 ≤ level → level ≤ 3 → size ≡ span level
    → count * size ≤ raw L position → raw L difference ≡ raw L position - count * size → position % size ≡ 0 → difference % size ≡ 0
difference_is_aligned L r p count z level levels low high e enough at aligned =
    sym (same_remainder L r z level levels low high e)
    ∙ (ap (λ m. m % z) at ∙ difference_is_multiple (raw L p) count z enough (same_remainder L p z level levels low high e ∙ aligned))

-- the size of a level is not 0
pub size_is_positive : (size level : ℕ) → size ≡ span level → 0 < size
size_is_positive z level e = rw e (pow_pos (12 + 9 * (level - 1)))
