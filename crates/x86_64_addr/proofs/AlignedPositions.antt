-- Raw values aligned down and up have the positions aligned down and up.
use Rattle.std.proofs.Common.{◌≡◌, ⊎_elim, inl, inr, ℕ, ◌+◌, ◌-◌, ◌*◌, ◌%◌, ◌^◌, ◌<◌, ◌≤◌, IsTrue, refl, sym, ap, ◌∙◌, arith}
use Rattle.std.proofs.lemmas.Nat.{pow-add, pow_below, pow_pos}
use Rattle.std.proofs.lemmas.Bool.{cases_lt}
use Rattle.std.proofs.Math.Nat.{add-mul-mod_self_right, mod-eq_of_lt, mod-le, mul_assoc}
use Rattle.std.proofs.Math.Pow.{mod-mod-pow}
use Rattle.std.specs.Int.{is_power_of_two, next_multiple_of}
use Rattle.x86_64_model.specs.Position.{raw, position_count}
use Rattle.x86_64_addr.specs.Levels.{IsLevelCount}
use Rattle.x86_64_addr.proofs.PowersOfTwo.{power}
use Rattle.x86_64_addr.proofs.Alignments.{greatest, least}
use Rattle.x86_64_addr.proofs.Halves.{gap, by_half}

-- if the alignment divides the gap, a position keeps its remainder
module _ (p a q gap m count : ℕ) (divides : gap ≡ q * a) (whole : gap ≡ m * count) where
  rest : (p + gap) % a ≡ p % a
  rest = ap (λ u. (p + u) % a) divides ∙ add-mul-mod_self_right p q a

  down_small : p < count → ((p + gap) - (p + gap) % a) % count ≡ p - p % a
  down_small l =
      let moved : (p + gap) - (p + gap) % a ≡ (p - p % a) + m * count = omega (arith, rest, whole, mod-le p a) in
      let small : p - p % a < count = omega (arith, l) in
      ap (λ n. n % count) moved ∙ add-mul-mod_self_right (p - p % a) m count ∙ mod-eq_of_lt small

  up_small : next_multiple_of (p + gap) a % count ≡ next_multiple_of p a % count
  up_small =
      let moved : next_multiple_of (p + gap) a ≡ next_multiple_of p a + m * count =
      ap (λ r. (p + gap) + (a - r) % a) rest ∙ (let order : (p + gap) + (a - p % a) % a ≡ (p + (a - p % a) % a) + m * count = omega (arith, whole) in order) in
      ap (λ n. n % count) moved ∙ add-mul-mod_self_right (next_multiple_of p a) m count

-- the gap is a multiple of the number of positions
gap_multiple : (L : ℕ) → IsLevelCount L → (m : ℕ) × (gap L ≡ m * position_count L)
gap_multiple L (inl four) = (65535, rw four refl)
gap_multiple L (inr five) = (127, rw five refl)

quotient : (m k n a : ℕ) → a ≡ 2 ^ k → k ≤ n → m * 2 ^ n ≡ m * 2 ^ (n - k) * a
quotient m k n a e l =
    let sum : n ≡ (n - k) + k = omega (arith, l) in
    let parts : 2 ^ n ≡ 2 ^ (n - k) * a = ap (λ j. 2 ^ j) sum ∙ pow-add 2 (n - k) k ∙ ap (λ a. 2 ^ (n - k) * a) (sym e) in
    ap (λ n. m * n) parts ∙ sym (mul_assoc m (2 ^ (n - k)) a)

-- multiples of a greater alignment have position 0
none : (k n a u : ℕ) → a ≡ 2 ^ k → n < k → u % a ≡ 0 → u % 2 ^ n ≡ 0
none k n a u e l h =
    let sum : k ≡ (k - n) + n = omega (arith, l) in
    let zero : u % 2 ^ ((k - n) + n) ≡ 0 = ap (λ j. u % 2 ^ j) (sym sum) ∙ ap (λ a. u % a) (sym e) ∙ h in
    sym (mod-mod-pow u (k - n) n) ∙ ap (λ m. m % 2 ^ n) zero ∙ mod-eq_of_lt (pow_pos n)

pub down_position : (L p a : ℕ) → IsLevelCount L → IsTrue (is_power_of_two a) → p < position_count L
    → (raw L p - raw L p % a) % position_count L ≡ p - p % a
down_position L p a levels t l =
    let q = power a t in let k = q.0 in let n = 12 + 9 * L in let m = gap_multiple L levels in
    by_half L (λ u. (u - u % a) % position_count L ≡ p - p % a) p
    (mod-eq_of_lt (let small : p - p % a < position_count L = omega (arith, l) in small))
    (⊎_elim
    (λ large.
    let above : p < a = omega (arith, l, q.1, pow_below n k large) in
    let zero : p - p % a ≡ 0 = omega (arith, mod-eq_of_lt above) in
    none k n a ((p + gap L) - (p + gap L) % a) q.1 large ((greatest a (p + gap L) t).multiple) ∙ sym zero)
    (λ small. down_small p a (m.0 * 2 ^ (n - k)) (gap L) m.0 (position_count L) (m.1 ∙ quotient m.0 k n a q.1 small) m.1 l)
    (cases_lt n k))

pub up_position : (L p a : ℕ) → IsLevelCount L → IsTrue (is_power_of_two a)
    → next_multiple_of (raw L p) a % position_count L ≡ next_multiple_of p a % position_count L
up_position L p a levels t =
    let q = power a t in let k = q.0 in let n = 12 + 9 * L in let m = gap_multiple L levels in
    by_half L (λ u. next_multiple_of u a % position_count L ≡ next_multiple_of p a % position_count L) p refl
    (⊎_elim
    (λ large.
    let zero : (u : ℕ) → next_multiple_of u a % position_count L ≡ 0 = λ u. none k n a (next_multiple_of u a) q.1 large ((least a u t).multiple) in
    zero (p + gap L) ∙ sym (zero p))
    (λ small. up_small p a (m.0 * 2 ^ (n - k)) (gap L) m.0 (position_count L) (m.1 ∙ quotient m.0 k n a q.1 small) m.1)
    (cases_lt n k))
