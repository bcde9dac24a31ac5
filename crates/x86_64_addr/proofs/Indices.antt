-- Raw values have the indices of their positions.
use Rattle.std.proofs.Common.{◌≡◌, refl, inl, inr, zero, suc, ℕ, ◌+◌, ◌-◌, ◌*◌, ◌/◌, ◌%◌, ◌^◌, ◌≤◌, arith}
use Rattle.x86_64_model.specs.Position.{raw, index}
use Rattle.x86_64_addr.specs.Levels.{IsLevelCount}
use Rattle.x86_64_addr.proofs.Halves.{gap, by_half}

-- bits of an index, counted from those of level one
abbrev pub shifted : (level value : ℕ) → ℕ
shifted level n = n / 2 ^ (9 * level + 3) % 512

low : (level p : ℕ) → 1 ≤ level → shifted level p ≡ index level p
unfolding index
low zero p few = absurd (omega arith)
low (suc l) p few = let bits : 9 * suc l + 3 ≡ 12 + 9 * (suc l - 1) = omega arith in rw bits refl

high_of_four : (level p : ℕ) → 1 ≤ level → level ≤ 4 → shifted level (p + gap 4) ≡ index level p
unfolding index
high_of_four zero p few many = absurd (omega arith)
high_of_four (suc zero) p few many = omega arith
high_of_four (suc (suc zero)) p few many = omega arith
high_of_four (suc (suc (suc zero))) p few many = omega arith
high_of_four (suc (suc (suc (suc zero)))) p few many = omega arith
high_of_four (suc (suc (suc (suc (suc l))))) p few many = absurd (omega arith)

high_of_five : (level p : ℕ) → 1 ≤ level → level ≤ 5 → shifted level (p + gap 5) ≡ index level p
unfolding index
high_of_five zero p few many = absurd (omega arith)
high_of_five (suc zero) p few many = omega arith
high_of_five (suc (suc zero)) p few many = omega arith
high_of_five (suc (suc (suc zero))) p few many = omega arith
high_of_five (suc (suc (suc (suc zero)))) p few many = omega arith
high_of_five (suc (suc (suc (suc (suc zero))))) p few many = omega arith
high_of_five (suc (suc (suc (suc (suc (suc l)))))) p few many = absurd (omega arith)

pub index_of_raw : (L level p : ℕ) → IsLevelCount L → 1 ≤ level → level ≤ L → shifted level (raw L p) ≡ index level p
index_of_raw L level p (inl four) few many = rw four (by_half 4 (λ n. shifted level n ≡ index level p) p (low level p few) (high_of_four level p few (rw four at many)))
index_of_raw L level p (inr five) few many = rw five (by_half 5 (λ n. shifted level n ≡ index level p) p (low level p few) (high_of_five level p few (rw five at many)))
