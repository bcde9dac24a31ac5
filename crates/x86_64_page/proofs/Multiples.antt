-- Multiples of a size of pages.
use Rattle.std.specs.Prelude.{zero, suc, ◌≡◌, ℕ, ◌+◌, ◌-◌, ◌*◌, ◌/◌, ◌%◌, ◌^◌, ◌≤◌, nat_lt, Bool, true, false, if◌then◌else◌}
use Rattle.std.proofs.Common.{inl, inr, refl, subst, arith}
use Rattle.std.proofs.Math.Nat.{mul-mod_left, div-mul-le_self, mod-eq-sub-div-mul}
use Rattle.x86_64_addr.specs.Levels.{IsLevelCount}
use Rattle.x86_64_addr.specs.Position.{span, raw, lower_half, position_count}

-- a number rounded down to a multiple of a size is a multiple of it
pub rounded_down : (number size : ℕ) → (number - number % size) % size ≡ 0
rounded_down n z =
    let e : n - n % z ≡ n / z * z = omega (arith, mod-eq-sub-div-mul n z, div-mul-le_self n z) in
    rw e (mul-mod_left (n / z) z)

-- a multiple of the size of any level is a multiple of 4KiB
pub multiple_of_4KiB : (number size level : ℕ) → 1 ≤ level → level ≤ 3 → size ≡ span level → number % size ≡ 0 → number % 4096 ≡ 0
multiple_of_4KiB n z zero low high e h = absurd (omega arith)
multiple_of_4KiB n z (suc zero) low high e h = let a : n % span 1 ≡ 0 = subst (λ z. n % z ≡ 0) e h in omega arith
multiple_of_4KiB n z (suc (suc zero)) low high e h = let a : n % span 2 ≡ 0 = subst (λ z. n % z ≡ 0) e h in omega arith
multiple_of_4KiB n z (suc (suc (suc zero))) low high e h = let a : n % span 3 ≡ 0 = subst (λ z. n % z ≡ 0) e h in omega arith
multiple_of_4KiB n z (suc (suc (suc (suc l)))) low high e h = absurd (omega arith)

-- the remainder is the same in the lower half of the address space and in the upper one
remainder_in : (L p size level : ℕ) → IsLevelCount L → 1 ≤ level → level ≤ 3 → size ≡ span level → (lower : Bool)
    → (if lower then p else p + (2 ^ 64 - position_count L)) % size ≡ p % size
remainder_in L p z level count low high e true = refl
remainder_in L p z zero count low high e false = absurd (omega arith)
remainder_in L p z (suc zero) (inl four) low high e false = let e' : z ≡ 0x1000 = e in rw (e', four) (omega arith)
remainder_in L p z (suc zero) (inr five) low high e false = let e' : z ≡ 0x1000 = e in rw (e', five) (omega arith)
remainder_in L p z (suc (suc zero)) (inl four) low high e false = let e' : z ≡ 0x20_0000 = e in rw (e', four) (omega arith)
remainder_in L p z (suc (suc zero)) (inr five) low high e false = let e' : z ≡ 0x20_0000 = e in rw (e', five) (omega arith)
remainder_in L p z (suc (suc (suc zero))) (inl four) low high e false = let e' : z ≡ 0x4000_0000 = e in rw (e', four) (omega arith)
remainder_in L p z (suc (suc (suc zero))) (inr five) low high e false = let e' : z ≡ 0x4000_0000 = e in rw (e', five) (omega arith)
remainder_in L p z (suc (suc (suc (suc l)))) count low high e false = absurd (omega arith)

-- an address and its position leave the same remainder by the size of a level
pub same_remainder : (L position size level : ℕ) → IsLevelCount L → 1 ≤ level → level ≤ 3 → size ≡ span level → raw L position % size ≡ position % size
same_remainder L p z level count low high e = remainder_in L p z level count low high e (nat_lt p (lower_half L))
