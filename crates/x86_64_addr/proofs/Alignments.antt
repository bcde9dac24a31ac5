-- Multiples of a power of two next to a number.
use Rattle.std.proofs.Common.{◌≡◌, ⊎_elim, ℕ, ◌+◌, ◌-◌, ◌*◌, ◌/◌, ◌%◌, ◌<◌, ◌≤◌, IsTrue, sym, ap, ◌∙◌, subst, arith}
use Rattle.std.proofs.lemmas.Nat.{and_mask, pow_pos, mod_below, div-add-mod'}
use Rattle.std.proofs.lemmas.Bool.{cases_lt}
use Rattle.std.proofs.Math.Nat.{mul-mod_left, mod_self, mod-eq_of_lt, add-mul, one-mul, mul-le-mul_right, le-div_iff_mul-le, div-mul-le_self}
use Rattle.std.specs.Int.{is_power_of_two, next_multiple_of}
use Rattle.std.specs.Int.RustNames.{bit_and}
use Rattle.x86_64_model.specs.Alignment.{IsGreatestMultiple, IsLeastMultiple}
use Rattle.x86_64_addr.proofs.PowersOfTwo.{power}

-- the bits below a power of two are the remainder by it
pub masked : (n a : ℕ) → IsTrue (is_power_of_two a) → bit_and n (a - 1) ≡ n % a
masked n a p = let q = power a p in subst (λ a. bit_and n (a - 1) ≡ n % a) (sym q.1) (and_mask n q.0)

pub positive : (a : ℕ) → IsTrue (is_power_of_two a) → 0 < a
positive a p = let q = power a p in subst (λ a. 0 < a) (sym q.1) (pow_pos q.0)

pub remainder_below : (n a : ℕ) → IsTrue (is_power_of_two a) → n % a < a
remainder_below n a p = mod_below n a (positive a p)

-- a multiple is its quotient times the alignment
whole : (n a : ℕ) → n % a ≡ 0 → n / a * a ≡ n
whole n a e = omega (arith, e, div-add-mod' n a)

down : (n a : ℕ) → n - n % a ≡ n / a * a
down n a = omega (arith, div-add-mod' n a)

quotients : (m n a : ℕ) → 0 < a → m ≤ n → m / a ≤ n / a
quotients m n a l h = let below : m / a * a ≤ n = omega (arith, h, div-mul-le_self m a) in (le-div_iff_mul-le l).1 below

pub greatest : (a n : ℕ) → IsTrue (is_power_of_two a) → IsGreatestMultiple a n (n - n % a)
greatest a n p = record {
  multiple = rw (down n a) (mul-mod_left (n / a) a);
  not_above = omega arith;
  greatest = λ m e h.
      let l : m / a * a ≤ n / a * a = mul-le-mul_right a (quotients m n a (positive a p) h) in
      omega (arith, l, whole m a e, down n a);
}

-- the next multiple is the number itself, or one alignment above the greatest that isn't above it

itself : (n a : ℕ) → n % a ≡ 0 → next_multiple_of n a ≡ n
itself n a e =
    let whole : a - n % a ≡ a = omega (arith, e) in
    let rest : (a - n % a) % a ≡ 0 = ap (λ r. r % a) whole ∙ mod_self a in
    omega (arith, rest)

above : (n a : ℕ) → 0 < a → 0 < n % a → next_multiple_of n a ≡ (n / a + 1) * a
above n a pos l =
    let rest : (a - n % a) % a ≡ a - n % a = mod-eq_of_lt (omega (arith, l, pos)) in
    let one : (n / a + 1) * a ≡ n / a * a + a = add-mul (n / a) 1 a ∙ ap (λ m. n / a * a + m) (one-mul a) in
    omega (arith, rest, one, div-add-mod' n a, mod_below n a pos)

pub least : (a n : ℕ) → IsTrue (is_power_of_two a) → IsLeastMultiple a n (next_multiple_of n a)
least a n p = ⊎_elim
    (λ l. let up = above n a pos l in record {
      multiple = rw up (mul-mod_left (n / a + 1) a);
      not_below = omega arith;
      least = λ m e h. ⊎_elim
          (λ low.
          let small : m / a * a ≤ n / a * a = mul-le-mul_right a (omega (arith, low)) in
          absurd (omega (arith, small, h, l, whole m a e, div-add-mod' n a)))
          (λ high.
          let large : (n / a + 1) * a ≤ m / a * a = mul-le-mul_right a high in
          omega (arith, large, up, whole m a e))
          (cases_lt (m / a) (n / a + 1));
    })
    (λ z. let e : n % a ≡ 0 = omega (arith, z) in record {
      multiple = rw (itself n a e) e;
      not_below = omega arith;
      least = λ m _ h. omega (arith, h, itself n a e);
    })
    (cases_lt 0 (n % a))
  where
    pos : 0 < a
    pos = positive a p
