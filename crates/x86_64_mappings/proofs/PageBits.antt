-- Small pages by the bits of their entries: which of them are wanted, and what rights they have together.
use Rattle.std.proofs.Common.{zero, suc, ◌≡◌, ⊎_elim, ◌<◌, ◌+◌, ◌*◌, ◌/◌, ◌%◌, ◌^◌, ◌==◌, ◌&&◌, ◌||◌, ℕ, Bool, true, false, not, bit_and, bit_or, min, max, refl, sym, ap, ◌∙◌, arith, eq-eqb, eqb-true, le-leb, leb-true, lt-ltb, ltb-true}
use Rattle.std.specs.Prelude.{nat_le, nat_lt}
use Rattle.std.specs.Cmp.{both_ways}
use Rattle.std.specs.Int.{bit_at}
use Rattle.std.proofs.lemmas.Nat.{and_assoc}
use Rattle.std.proofs.lemmas.Bool.{and_parts}
use Rattle.std.proofs.lemmas.Nat.Bits.{bit_at_and, bit_at_or, bit_at-lt}
use Rattle.x86_64_model.specs.Entry.{address, has}
use Rattle.x86_64_model.proofs.Lemmas.Entries.Bits.{address_is}
use Rattle.x86_64_model.proofs.Lemmas.Maps.Flags.{has_bit, lacks_bit, zero_or_one}

-- ---- frames

pub every_bit : (e : ℕ) → bit_and (address e) 0xffff_ffff_ffff_ffff ≡ address e
unfolding address
every_bit e = and_assoc 0xffff_ffff_ffff_ffff e 0x000f_ffff_ffff_f000

-- the page of an entry contains an address exactly if the entry names the address's frame
pub in_frame : (e a : ℕ) → (let f = address e / 4096 * 4096 in (address e == a / 4096 * 4096) ≡ (nat_le f a && nat_lt a (f + 4096)))
in_frame e a = both_ways (address e == a / 4096 * 4096) (nat_le f a && nat_lt a (f + 4096))
    (λ same. let is = eqb-true _ _ same in (λ i. le-leb f a (omega (arith, whole, is)) i && lt-ltb a (f + 4096) (omega (arith, whole, is)) i))
    (λ inside. let parts = and_parts _ _ inside in
    let from = leb-true f a parts.0 in let to = ltb-true a (f + 4096) parts.1 in
    eq-eqb _ _ (omega (arith, whole, from, to)))
  where
    f : ℕ
    f = address e / 4096 * 4096

    whole : address e ≡ e / 2 ^ 12 % 2 ^ 40 * 2 ^ 12
    whole = address_is e

-- ---- flags

-- whether an entry has a flag, by its bit
has_at : (e k : ℕ) → has e (2 ^ k) ≡ (bit_at e k == 1)
has_at e k = ⊎_elim (λ clear. lacks_bit e k clear ∙ ap (λ b. b == 1) (sym clear)) (λ set. has_bit e k set ∙ ap (λ b. b == 1) (sym set)) (zero_or_one (bit_at e k) (bit_at-lt e k))

pub has_either : (e f k : ℕ) → has (bit_or e f) (2 ^ k) ≡ (has e (2 ^ k) || has f (2 ^ k))
has_either e f k = has_at (bit_or e f) k ∙ ap (λ b. b == 1) (bit_at_or e f k) ∙ by (bit_at e k) (bit_at f k) (bit_at-lt e k) (bit_at-lt f k) ∙ sym (λ i. has_at e k i || has_at f k i)
  where
    by : (b c : ℕ) → b < 2 → c < 2 → (max b c == 1) ≡ ((b == 1) || (c == 1))
    by zero zero l m = refl
    by zero (suc zero) l m = refl
    by (suc zero) zero l m = refl
    by (suc zero) (suc zero) l m = refl
    by (suc (suc b)) c l m = absurd (omega (arith, l))
    by zero (suc (suc c)) l m = absurd (omega (arith, m))
    by (suc zero) (suc (suc c)) l m = absurd (omega (arith, m))

pub has_both : (e f k : ℕ) → has (bit_and e f) (2 ^ k) ≡ (has e (2 ^ k) && has f (2 ^ k))
has_both e f k = has_at (bit_and e f) k ∙ ap (λ b. b == 1) (bit_at_and e f k) ∙ by (bit_at e k) (bit_at f k) (bit_at-lt e k) (bit_at-lt f k) ∙ sym (λ i. has_at e k i && has_at f k i)
  where
    by : (b c : ℕ) → b < 2 → c < 2 → (min b c == 1) ≡ ((b == 1) && (c == 1))
    by zero zero l m = refl
    by zero (suc zero) l m = refl
    by (suc zero) zero l m = refl
    by (suc zero) (suc zero) l m = refl
    by (suc (suc b)) c l m = absurd (omega (arith, l))
    by zero (suc (suc c)) l m = absurd (omega (arith, m))
    by (suc zero) (suc (suc c)) l m = absurd (omega (arith, m))

-- one lacks a flag if either does, and both do if none has it
pub lacks_either : (e f k : ℕ) → not (has (bit_and e f) (2 ^ k)) ≡ (not (has e (2 ^ k)) || not (has f (2 ^ k)))
lacks_either e f k = ap not (has_both e f k) ∙ by (has e (2 ^ k)) (has f (2 ^ k))
  where
    by : (b c : Bool) → not (b && c) ≡ (not b || not c)
    by true c = refl
    by false c = refl

pub lacks_both : (e f k : ℕ) → not (has (bit_or e f) (2 ^ k)) ≡ (not (has e (2 ^ k)) && not (has f (2 ^ k)))
lacks_both e f k = ap not (has_either e f k) ∙ by (has e (2 ^ k)) (has f (2 ^ k))
  where
    by : (b c : Bool) → not (b || c) ≡ (not b && not c)
    by true c = refl
    by false c = refl
