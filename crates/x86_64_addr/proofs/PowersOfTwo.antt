-- Powers of two are the numbers with one bit set.
use Rattle.std.proofs.Common.{◌≡◌, ⊎_elim, ℕ, zero, suc, ◌+◌, ◌-◌, ◌*◌, ◌/◌, ◌%◌, ◌^◌, ◌<◌, ◌==◌, IsTrue, count_ones, refl, ap, ap₂, ◌∙◌, arith}
use Rattle.std.proofs.lemmas.Grind.{bit_length}
use Rattle.std.proofs.lemmas.Nat.{ones_cat, pow_pos}
use Rattle.std.proofs.lemmas.Bool.{cases_lt, eqb-true}
use Rattle.std.proofs.Math.Nat.{pow-suc}
use Rattle.std.specs.Int.{IsPowerOfTwo, is_power_of_two}

none_of_zero : count_ones 0 ≡ 0
unfolding lib.Count.ones
none_of_zero = refl

one_of_one : count_ones 1 ≡ 1
unfolding lib.Count.ones
one_of_one = refl

halves : (n : ℕ) → count_ones n ≡ count_ones (n / 2) + count_ones (n % 2)
halves n =
    let parts : n ≡ n / 2 * 2 ^ 1 + n % 2 = omega arith in
    ap count_ones parts ∙ ones_cat 1 (n / 2) (n % 2) (omega arith)

half_below : (b n : ℕ) → n < 2 ^ suc b → n / 2 < 2 ^ b
half_below b n l = omega (arith, l, pow-suc 2 b)

none : (b n : ℕ) → n < 2 ^ b → count_ones n ≡ 0 → n ≡ 0
none zero n l e = omega (arith, l)
none (suc b) n l e = ⊎_elim
    (λ z.
    let even : n % 2 ≡ 0 = omega (arith, z) in
    let rest : count_ones (n / 2) ≡ 0 = omega (arith, halves n, e) in
    omega (arith, even, none b (n / 2) (half_below b n l) rest))
    (λ o.
    let odd : n % 2 ≡ 1 = omega (arith, o) in
    let one : count_ones (n % 2) ≡ 1 = ap count_ones odd ∙ one_of_one in
    absurd (omega (arith, halves n, e, one)))
    (cases_lt (n % 2) 1)

one_bit : (b n : ℕ) → n < 2 ^ b → count_ones n ≡ 1 → IsPowerOfTwo n
one_bit zero n l e =
    let zero_bits : count_ones n ≡ 0 = ap count_ones (let z : n ≡ 0 = omega (arith, l) in z) ∙ none_of_zero in
    absurd (omega (arith, e, zero_bits))
one_bit (suc b) n l e = ⊎_elim
    (λ z.
    let even : n % 2 ≡ 0 = omega (arith, z) in
    let no_bit : count_ones (n % 2) ≡ 0 = ap count_ones even ∙ none_of_zero in
    let rest : count_ones (n / 2) ≡ 1 = omega (arith, halves n, e, no_bit) in
    let p = one_bit b (n / 2) (half_below b n l) rest in
    (suc p.0, omega (arith, even, p.1, pow-suc 2 p.0)))
    (λ o.
    let odd : n % 2 ≡ 1 = omega (arith, o) in
    let one : count_ones (n % 2) ≡ 1 = ap count_ones odd ∙ one_of_one in
    let rest : count_ones (n / 2) ≡ 0 = omega (arith, halves n, e, one) in
    (0, omega (arith, odd, none b (n / 2) (half_below b n l) rest)))
    (cases_lt (n % 2) 1)

below_power : (n : ℕ) → n < 2 ^ n
below_power zero = omega arith
below_power (suc n) = omega (arith, below_power n, pow-suc 2 n)

pub power : (n : ℕ) → IsTrue (is_power_of_two n) → IsPowerOfTwo n
power n t = one_bit n n (below_power n) (eqb-true (count_ones n) 1 t)

-- a power of two passes the test; a numeral's exponent is found by its length
one_of_power : (k : ℕ) → count_ones (2 ^ k) ≡ 1
one_of_power k =
    let parts : 2 ^ k ≡ 1 * 2 ^ k + 0 = omega arith in
    ap count_ones parts ∙ ones_cat k 1 0 (pow_pos k) ∙ ap₂ (λ a b. a + b) one_of_one none_of_zero

pub numeral_power : (n : ℕ) → n ≡ 2 ^ (bit_length 128 n - 1) → IsTrue (is_power_of_two n)
numeral_power n e = ap (λ c. c == 1) (ap count_ones e ∙ one_of_power (bit_length 128 n - 1))
