-- Conditions on words as conditions on a mask of their bits.
use Rattle.std.proofs.Common.{zero, suc, ◌≡◌, ◌<◌, ◌≤◌, ◌-◌, ◌+◌, ◌*◌, ◌/◌, ◌%◌, ◌^◌, ℕ, ◌&&◌, ◌||◌, ◌==◌, nat_lt, nat_le, Bool, true, false, true≢false, not, bit_and, bit_or, bit_xor, min, max, cond, refl, sym, ap, ◌∙◌, arith, ne_eqb, eq-eqb, eqb-true, ltb-true, ltb-false, le-leb}
use Rattle.std.proofs.Math.Nat.{div-eq_of_lt, le-div_iff_mul-le}
use Rattle.std.proofs.lemmas.Nat.{and_assoc, and_comm, and_le_l, and_le_r, and_mask, and_xor_apart, or_disjoint, pow_pos}
use Rattle.std.proofs.lemmas.Nat.Bits.{and_high_mask, and_pow, bit_at_and, bit_at_or, bit_at_xor, bit_at_lowest, bit_at-lt, bit_at-pow_same}
use Rattle.std.specs.Int.{bit_at}
use Rattle.std.specs.Int.Bits.{or_add_and, or_zero_l, and_zero_r}
use Rattle.x86_64_model.proofs.Lemmas.Entries.Bits.{and_or_distrib}
use Rattle.std.proofs.Math.Bool.{and-true, and-false, or-true, or-false}
use Rattle.std.proofs.lemmas.Bool.{lt-leb}
use Rattle.x86_64_model.specs.Access.{Access, Controls, Fetch, Kind, Read, Write, access_allowed, kept_out, kind_allowed, reserved}
use Rattle.x86_64_model.specs.Entry.{has, present, huge, global, no_execute, address}
use Rattle.x86_64_model.specs.Mappings.{every_right, granted}
use Rattle.x86_64_access.proofs.ReservedBySome.{low_none}
use Rattle.x86_64_access.specs.private.Masks.{global_bits, high_bits, kept_bits, kind_bits, off_bits, user_bits}
use Rattle.x86_64_access.specs.private.Walking.{may_read_on, rights_by}

-- ---- one bit

times : (b m : ℕ) → b < 2 → 0 < m → (b * m == m) ≡ (b == 1)
times zero m l pos = ap (λ x. x == m) (let z : 0 * m ≡ 0 = omega arith in z) ∙ ne_eqb 0 m (λ e. omega (arith, pos, e))
times (suc zero) m l pos = eq-eqb (1 * m) m (omega arith)
times (suc (suc b)) m l pos = absurd (omega (arith, l))

times_zero : (b m : ℕ) → b < 2 → 0 < m → (b * m == 0) ≡ not (b == 1)
times_zero zero m l pos = eq-eqb (0 * m) 0 (omega arith)
times_zero (suc zero) m l pos = ne_eqb (1 * m) 0 (λ e. omega (arith, pos, e))
times_zero (suc (suc b)) m l pos = absurd (omega (arith, l))

-- a word has a bit
pub has_bit : (n k : ℕ) → has n (2 ^ k) ≡ (bit_at n k == 1)
unfolding has
has_bit n k = ap (λ x. x == 2 ^ k) (and_pow n k) ∙ times (bit_at n k) (2 ^ k) (bit_at-lt n k) (pow_pos k)

lacks_bit : (n k : ℕ) → (bit_and n (2 ^ k) == 0) ≡ not (has n (2 ^ k))
lacks_bit n k = ap (λ x. x == 0) (and_pow n k) ∙ times_zero (bit_at n k) (2 ^ k) (bit_at-lt n k) (pow_pos k) ∙ ap not (sym (has_bit n k))

both_ones : (x y : ℕ) → x < 2 → y < 2 → (min x y == 1) ≡ ((x == 1) && (y == 1))
both_ones zero zero l m = refl
both_ones zero (suc zero) l m = refl
both_ones (suc zero) zero l m = refl
both_ones (suc zero) (suc zero) l m = refl
both_ones zero (suc (suc y)) l m = absurd (omega (arith, m))
both_ones (suc zero) (suc (suc y)) l m = absurd (omega (arith, m))
both_ones (suc (suc x)) y l m = absurd (omega (arith, l))

-- a bit that both words have
pub has_and : (a b k : ℕ) → has (bit_and a b) (2 ^ k) ≡ (has a (2 ^ k) && has b (2 ^ k))
has_and a b k = has_bit (bit_and a b) k ∙ ap (λ x. x == 1) (bit_at_and a b k) ∙ both_ones (bit_at a k) (bit_at b k) (bit_at-lt a k) (bit_at-lt b k)
    ∙ (λ i. sym (has_bit a k) i && sym (has_bit b k) i)

other_one : (x : ℕ) → x < 2 → ((x + 1) % 2 == 1) ≡ not (x == 1)
other_one zero l = refl
other_one (suc zero) l = refl
other_one (suc (suc x)) l = absurd (omega (arith, l))

-- a bit that is turned around
pub has_other : (e k : ℕ) → has (bit_xor e (2 ^ k)) (2 ^ k) ≡ not (has e (2 ^ k))
has_other e k = has_bit (bit_xor e (2 ^ k)) k ∙ ap (λ x. x == 1) (bit_at_xor e (2 ^ k) k ∙ ap (λ x. (bit_at e k + x) % 2) (bit_at-pow_same k))
    ∙ other_one (bit_at e k) (bit_at-lt e k) ∙ ap not (sym (has_bit e k))

has_still : (e m f : ℕ) → bit_and m f ≡ 0 → has (bit_xor e m) f ≡ has e f
unfolding has
has_still e m f apart = ap (λ x. x == f) (and_xor_apart f e m apart)

-- ---- rights as bits

-- the rights of one more word
pub rights_more : (b e : ℕ) → rights_by (bit_and b (bit_xor e 0x8000_0000_0000_0000)) ≡ granted (rights_by b) e
rights_more b e = rw (
  has_and b (bit_xor e 0x8000_0000_0000_0000) 1,
  has_still e 0x8000_0000_0000_0000 0x2 refl,
  has_and b (bit_xor e 0x8000_0000_0000_0000) 2,
  has_still e 0x8000_0000_0000_0000 0x4 refl,
  has_and b (bit_xor e 0x8000_0000_0000_0000) 63,
  has_other e 63,
) refl

pub rights_all : rights_by 0xffff_ffff_ffff_ffff ≡ every_right
unfolding has
rights_all = refl

-- ---- a mask of several conditions

or_is_zero : (x y : ℕ) → (bit_or x y == 0) ≡ ((x == 0) && (y == 0))
or_is_zero zero y = ap (λ z. z == 0) (or_zero_l y)
or_is_zero (suc x) y = ne_eqb (bit_or (suc x) y) 0 (λ e. omega (arith, e, or_add_and (suc x) y, and_le_l (suc x) y, and_le_r (suc x) y))
    ∙ sym (ap (λ b. b && (y == 0)) (ne_eqb (suc x) 0 (λ e. omega (arith, e))))

and_or_right : (e a b : ℕ) → bit_and e (bit_or a b) ≡ bit_or (bit_and e a) (bit_and e b)
and_or_right e a b = and_comm e (bit_or a b) ∙ and_or_distrib a b e ∙ (λ i. bit_or (and_comm a e i) (and_comm b e i))

lacks_both : (e a b : ℕ) → (bit_and e (bit_or a b) == 0) ≡ ((bit_and e a == 0) && (bit_and e b == 0))
lacks_both e a b = ap (λ x. x == 0) (and_or_right e a b) ∙ or_is_zero (bit_and e a) (bit_and e b)

even_and_bit : (a b : ℕ) → a % 2 ≡ 0 → b < 2 → (a + b == 1) ≡ ((a == 0) && (b == 1))
even_and_bit zero b even l = ap (λ x. x == 1) (let z : 0 + b ≡ b = omega arith in z)
even_and_bit (suc a) b even l = ne_eqb (suc a + b) 1 (λ e. omega (arith, e, even)) ∙ sym (ap (λ x. x && (b == 1)) (ne_eqb (suc a) 0 (λ e. omega (arith, e))))

apart_by : (a b : ℕ) → a % 2 ≡ 0 → b < 2 → bit_and a b ≡ 0
apart_by a zero even l = and_zero_r a
apart_by a (suc zero) even l = and_mask a 1 ∙ even
apart_by a (suc (suc b)) even l = absurd (omega (arith, l))

-- a word has PRESENT and none of some other bits
present_without : (e f : ℕ) → f % 2 ≡ 0 → (bit_and e (bit_or f 1) == 1) ≡ ((bit_and e f == 0) && present e)
unfolding has
present_without e f even =
    let low : bit_and e 1 < 2 = omega (arith, and_mask e 1) in
    let high : bit_and e f % 2 ≡ 0 = sym (bit_at_lowest (bit_and e f)) ∙ bit_at_and e f 0 ∙ omega (arith, bit_at_lowest f, even) in
    ap (λ x. x == 1) (and_or_right e f 1 ∙ or_disjoint (bit_and e f) (bit_and e 1) (apart_by (bit_and e f) (bit_and e 1) high low))
    ∙ even_and_bit (bit_and e f) (bit_and e 1) high low

-- address bits from a bit on
below_power : (x m : ℕ) → 0 < m → (x / m * m == 0) ≡ nat_lt x m
below_power x m pos = by (nat_lt x m) refl
  where
    by : (b : Bool) → nat_lt x m ≡ b → (x / m * m == 0) ≡ b
    by true l = ap (λ q. q * m == 0) (div-eq_of_lt (ltb-true x m l)) ∙ eq-eqb (0 * m) 0 (omega arith)
    by false l =
        let one : 1 ≤ x / m = (le-div_iff_mul-le pos).1 (omega (arith, ltb-false x m l)) in
        ne_eqb (x / m * m) 0 (λ e. omega (arith, e, pos, ap (λ q. q) e, one, product (x / m) m one))
      where
        product : (q m : ℕ) → 1 ≤ q → m ≤ q * m
        product zero m l = absurd (omega (arith, l))
        product (suc q) m l = omega arith

lacks_high : (e b : ℕ) → b ≤ 52 → (bit_and e (bit_and 0x000f_ffff_ffff_f000 (2 ^ 64 - 2 ^ b)) == 0) ≡ nat_lt (address e) (2 ^ b)
unfolding address
lacks_high e b l =
    let within : bit_and e 0x000f_ffff_ffff_f000 < 2 ^ 64 = omega (arith, and_le_r e 0x000f_ffff_ffff_f000) in
    ap (λ x. x == 0) (sym (and_assoc (2 ^ 64 - 2 ^ b) e 0x000f_ffff_ffff_f000) ∙ and_high_mask 64 b (omega (arith, l)) (bit_and e 0x000f_ffff_ffff_f000) within)
    ∙ below_power (bit_and e 0x000f_ffff_ffff_f000) (2 ^ b) (pow_pos b)

lacks_off : (c : Controls) (e : ℕ) → (bit_and e (off_bits c) == 0) ≡ (c.no_execute || not (no_execute e))
lacks_off c e = by c.no_execute
  where
    by : (b : Bool) → (bit_and e (cond b 0 0x8000_0000_0000_0000) == 0) ≡ (b || not (no_execute e))
    by true = ap (λ x. x == 0) (and_zero_r e)
    by false = lacks_bit e 63

lacks_global : (c : Controls) (e : ℕ) → (bit_and e (global_bits c) == 0) ≡ not (c.global_reserved && global e)
lacks_global c e = by c.global_reserved
  where
    by : (b : Bool) → (bit_and e (cond b 0x100 0) == 0) ≡ not (b && global e)
    by true = lacks_bit e 8
    by false = ap (λ x. x == 0) (and_zero_r e)

in_order : (p h rest g : Bool) → (((h && rest) && g) && p) ≡ ((p && (h && rest)) && g)
in_order true true true true = refl
in_order true true true false = refl
in_order true true false g = refl
in_order true false rest g = refl
in_order false true true true = refl
in_order false true true false = refl
in_order false true false g = refl
in_order false false rest g = refl

sound_by : (le h nx x p : Bool) → ((not le && (nx || not x)) && p) ≡ (p && not ((le || (h && false)) || (x && not nx)))
sound_by true h nx x true = refl
sound_by true h nx x false = refl
sound_by false true true true true = refl
sound_by false true true true false = refl
sound_by false true true false true = refl
sound_by false true true false false = refl
sound_by false true false true true = refl
sound_by false true false true false = refl
sound_by false true false false true = refl
sound_by false true false false false = refl
sound_by false false true true true = refl
sound_by false false true true false = refl
sound_by false false true false true = refl
sound_by false false true false false = refl
sound_by false false false true true = refl
sound_by false false false true false = refl
sound_by false false false false true = refl
sound_by false false false false false = refl

pub both_left : (a b : Bool) → (a && b) ≡ true → a ≡ true
both_left true b t = refl
both_left false b t = t

pub both_right : (a b : Bool) → (a && b) ≡ true → b ≡ true
both_right true b t = t
both_right false b t = absurd (true≢false (sym t))

-- the reserved bits of words that map pages of 4KiB
abbrev pub sound_bits : Controls → ℕ
sound_bits c = bit_or (high_bits c) (off_bits c)

abbrev pub stop_bits : Controls → ℕ
stop_bits c = bit_or (bit_or 0x80 (sound_bits c)) (global_bits c)

sound_bits_even : (c : Controls) → sound_bits c % 2 ≡ 0
sound_bits_even c = sym (bit_at_lowest (sound_bits c)) ∙ bit_at_or (high_bits c) (off_bits c) 0 ∙ ap (max (bit_at (high_bits c) 0)) (off_even c.no_execute)
    ∙ ap (λ x. max x 0) (bit_at_and 0x000f_ffff_ffff_f000 (2 ^ 64 - 2 ^ c.physical_bits) 0)
    ∙ omega (arith, bit_at_lowest 0x000f_ffff_ffff_f000)
  where
    off_even : (b : Bool) → bit_at (cond b 0 0x8000_0000_0000_0000) 0 ≡ 0
    off_even true = refl
    off_even false = refl

stop_bits_even : (c : Controls) → stop_bits c % 2 ≡ 0
stop_bits_even c = sym (bit_at_lowest (stop_bits c)) ∙ bit_at_or (bit_or 0x80 (sound_bits c)) (global_bits c) 0
    ∙ ap (max (bit_at (bit_or 0x80 (sound_bits c)) 0)) (global_even c.global_reserved) ∙ ap (λ x. max x 0) (bit_at_or 0x80 (sound_bits c) 0)
    ∙ omega (arith, bit_at_lowest 0x80, bit_at_lowest (sound_bits c), sound_bits_even c)
  where
    global_even : (b : Bool) → bit_at (cond b 0x100 0) 0 ≡ 0
    global_even true = refl
    global_even false = refl

lacks_sound : (c : Controls) → c.physical_bits ≤ 52 → (e : ℕ) → (bit_and e (sound_bits c) == 0) ≡ (nat_lt (address e) (2 ^ c.physical_bits) && (c.no_execute || not (no_execute e)))
lacks_sound c l e = lacks_both e (high_bits c) (off_bits c) ∙ (λ i. lacks_high e c.physical_bits l i && lacks_off c e i)

-- the processor reads on in the table that a word names
pub decides : (c : Controls) → c.physical_bits ≤ 52 → (e : ℕ) → (bit_and e (bit_or (stop_bits c) 1) == 1) ≡ may_read_on c e
unfolding may_read_on
decides c l e = present_without e (stop_bits c) (stop_bits_even c)
    ∙ ap (λ b. b && present e) (lacks_both e (bit_or 0x80 (sound_bits c)) (global_bits c)
    ∙ (λ i. (lacks_both e 0x80 (sound_bits c) ∙ (λ j. lacks_bit e 7 j && lacks_sound c l e j)) i && lacks_global c e i))
    ∙ in_order (present e) (not (huge e)) (nat_lt (address e) (2 ^ c.physical_bits) && (c.no_execute || not (no_execute e))) (not (c.global_reserved && global e))

lt_not_le : (x m : ℕ) → nat_lt x m ≡ not (nat_le m x)
lt_not_le x m = by (nat_lt x m) refl
  where
    by : (b : Bool) → nat_lt x m ≡ b → b ≡ not (nat_le m x)
    by true l = sym (ap not (lt-leb m x (ltb-true x m l)))
    by false l = sym (ap not (le-leb m x (ltb-false x m l)))

-- a word maps a page of 4KiB, and the processor accepts it
pub page_decides : (c : Controls) → c.physical_bits ≤ 52 → (e : ℕ) → (bit_and e (bit_or (sound_bits c) 1) == 1) ≡ (present e && not (reserved c 1 e))
unfolding reserved
page_decides c l e = present_without e (sound_bits c) (sound_bits_even c)
    ∙ ap (λ b. b && present e) (lacks_sound c l e ∙ ap (λ b. b && (c.no_execute || not (no_execute e))) (lt_not_le (address e) (2 ^ c.physical_bits)))
    ∙ sound_by (nat_le (2 ^ c.physical_bits) (address e)) (huge e) c.no_execute (no_execute e) (present e)
    ∙ ap (λ low. present e && not ((nat_le (2 ^ c.physical_bits) (address e) || (huge e && not (low == 0))) || (no_execute e && not c.no_execute))) (sym (and_zero_r e))
    ∙ ap (λ s. present e && not (((s || nat_le (2 ^ c.physical_bits) (address e)) || (huge e && not (bit_and e 0 == 0))) || (no_execute e && not c.no_execute)))
    (sym (low_none c 1 e refl refl))

-- ---- rights that an access needs

is_part : (x y : ℕ) → (b : Bool) → (b ≡ true → x ≡ y) → (x ≡ y → b ≡ true) → (x == y) ≡ b
is_part x y true f g = eq-eqb x y (f refl)
is_part x y false f g = ne_eqb x y (λ e. true≢false (sym (g e)))

-- a condition on two masks that share no bit is one on each
parts : (b k m j n : ℕ) → bit_and (bit_or k m) k ≡ k → bit_and (bit_or k m) m ≡ m → bit_and (bit_or j n) k ≡ j → bit_and (bit_or j n) m ≡ n
    → (bit_and b (bit_or k m) == bit_or j n) ≡ ((bit_and b k == j) && (bit_and b m == n))
parts b k m j n hk hm hj hn = is_part (bit_and b (bit_or k m)) (bit_or j n) ((bit_and b k == j) && (bit_and b m == n)) whole split
  where
    whole : ((bit_and b k == j) && (bit_and b m == n)) ≡ true → bit_and b (bit_or k m) ≡ bit_or j n
    whole t = and_or_right b k m ∙ (λ i. bit_or (eqb-true (bit_and b k) j (both_left (bit_and b k == j) (bit_and b m == n) t) i) (eqb-true (bit_and b m) n (both_right (bit_and b k == j) (bit_and b m == n) t) i))

    split : bit_and b (bit_or k m) ≡ bit_or j n → ((bit_and b k == j) && (bit_and b m == n)) ≡ true
    split e =
        let left : bit_and b k ≡ j = ap (bit_and b) (sym hk) ∙ sym (and_assoc k b (bit_or k m)) ∙ ap (λ x. bit_and x k) e ∙ hj in
        let right : bit_and b m ≡ n = ap (bit_and b) (sym hm) ∙ sym (and_assoc m b (bit_or k m)) ∙ ap (λ x. bit_and x m) e ∙ hn in
        rw (eq-eqb (bit_and b k) j left, eq-eqb (bit_and b m) n right) refl

-- the right of users
user_part : (b : ℕ) (user kept : Bool) → (bit_and b (bit_or (user_bits user) (kept_bits user kept)) == user_bits user) ≡ cond user (has b 0x4) (not (has b 0x4 && kept))
unfolding has
user_part b true kept = refl
user_part b false true = lacks_bit b 2 ∙ ap not (sym (and-true (has b 0x4)))
user_part b false false = ap (λ x. x == 0) (and_zero_r b) ∙ ap not (sym (and-false (has b 0x4)))

-- a right that is needed if a flag is set
flag_part : (b k : ℕ) (f : Bool) → (bit_and b (cond f (2 ^ k) 0) == cond f (2 ^ k) 0) ≡ (has b (2 ^ k) || not f)
unfolding has
flag_part b k true = sym (or-false (has b (2 ^ k)))
flag_part b k false = ap (λ x. x == 0) (and_zero_r b) ∙ sym (or-true (has b (2 ^ k)))

write_flag : (user wp : Bool) → not (user || wp) ≡ (not user && not wp)
write_flag true wp = refl
write_flag false wp = refl

module _ (b : ℕ) where
  write_parts : (f user kept : Bool) → (bit_and b (bit_or (cond f 0x2 0) (bit_or (user_bits user) (kept_bits user kept))) == bit_or (cond f 0x2 0) (user_bits user))
      ≡ ((bit_and b (cond f 0x2 0) == cond f 0x2 0) && (bit_and b (bit_or (user_bits user) (kept_bits user kept)) == user_bits user))
  write_parts true true kept = parts b 0x2 4 0x2 4 refl refl refl refl
  write_parts true false true = parts b 0x2 4 0x2 0 refl refl refl refl
  write_parts true false false = parts b 0x2 0 0x2 0 refl refl refl refl
  write_parts false true kept = parts b 0 4 0 4 refl refl refl refl
  write_parts false false true = parts b 0 4 0 0 refl refl refl refl
  write_parts false false false = parts b 0 0 0 0 refl refl refl refl

  fetch_parts : (f user kept : Bool) → (bit_and b (bit_or (cond f 0x8000_0000_0000_0000 0) (bit_or (user_bits user) (kept_bits user kept))) == bit_or (cond f 0x8000_0000_0000_0000 0) (user_bits user))
      ≡ ((bit_and b (cond f 0x8000_0000_0000_0000 0) == cond f 0x8000_0000_0000_0000 0) && (bit_and b (bit_or (user_bits user) (kept_bits user kept)) == user_bits user))
  fetch_parts true true kept = parts b 0x8000_0000_0000_0000 4 0x8000_0000_0000_0000 4 refl refl refl refl
  fetch_parts true false true = parts b 0x8000_0000_0000_0000 4 0x8000_0000_0000_0000 0 refl refl refl refl
  fetch_parts true false false = parts b 0x8000_0000_0000_0000 0 0x8000_0000_0000_0000 0 refl refl refl refl
  fetch_parts false true kept = parts b 0 4 0 4 refl refl refl refl
  fetch_parts false false true = parts b 0 4 0 0 refl refl refl refl
  fetch_parts false false false = parts b 0 0 0 0 refl refl refl refl

  read_parts : (user kept : Bool) → (bit_and b (bit_or 0 (bit_or (user_bits user) (kept_bits user kept))) == bit_or 0 (user_bits user))
      ≡ (bit_and b (bit_or (user_bits user) (kept_bits user kept)) == user_bits user)
  read_parts true kept = refl
  read_parts false true = refl
  read_parts false false = refl

-- the bits of the rights that suffice for an access
abbrev pub right_bits : Controls → Access → ℕ
right_bits c a = bit_or (kind_bits c a a.kind) (bit_or (user_bits a.user) (kept_bits a.user (kept_out c a.kind)))

abbrev pub needed_bits : Controls → Access → ℕ
needed_bits c a = bit_or (kind_bits c a a.kind) (user_bits a.user)

pub suffices : (c : Controls) (a : Access) (b : ℕ) → (bit_and b (right_bits c a) == needed_bits c a) ≡ access_allowed c a (rights_by b)
suffices c a b = by a.kind
  where
    user : Bool
    user = a.user

    by : (kind : Kind) → (bit_and b (bit_or (kind_bits c a kind) (bit_or (user_bits user) (kept_bits user (kept_out c kind)))) == bit_or (kind_bits c a kind) (user_bits user))
        ≡ (kind_allowed c a (rights_by b) kind && cond user (has b 0x4) (not (has b 0x4 && kept_out c kind)))
    by Read = read_parts b user (kept_out c Read) ∙ user_part b user (kept_out c Read)
    by Write = write_parts b (user || c.write_protect) user (kept_out c Write)
        ∙ (λ i. (flag_part b 1 (user || c.write_protect) ∙ ap (λ x. has b 0x2 || x) (write_flag user c.write_protect)) i && user_part b user (kept_out c Write) i)
    by Fetch = fetch_parts b c.no_execute user (kept_out c Fetch) ∙ (λ i. flag_part b 63 c.no_execute i && user_part b user (kept_out c Fetch) i)
