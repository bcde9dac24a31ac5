-- What adding flags leaves of a word.
use Rattle.std.proofs.Common.{◌≡◌, ◌⊎◌, inl, inr, ⊎_elim, ◌<◌, ◌*◌, ◌^◌, ℕ, zero, suc, true, false, bit_and, bit_or, min, max, refl, sym, ap, ap₂, ◌∙◌, subst, arith, eq-eqb, eqb-true, ne_eqb, pow_pos}
use Rattle.std.proofs.lemmas.Nat.Bits.{same_from_bits, bit_at_and, bit_at_or, bit_at-lt, and_pow}
use Rattle.std.specs.Int.{bit_at}
use Rattle.x86_64_model.specs.Entry.{has, huge, present, address}
use Rattle.x86_64_model.proofs.Lemmas.Entries.Bits.{and_or_distrib, has_or, address_or}
use Rattle.x86_64_model.proofs.Lemmas.Maps.Frames.{IsParentFlags}
pub use Rattle.x86_64_model.specs.Arrivals.{Better, Arrives}

-- ---- flags that were added

pub absorbed : (f m : ℕ) → max f (min m f) ≡ f
absorbed f m = omega arith

pub has_kept : (e m f : ℕ) → has e f ≡ true → has (bit_or e m) f ≡ true
unfolding has
has_kept e m f h = eq-eqb _ f (and_or_distrib e m f ∙ ap (λ x. bit_or x (bit_and m f)) (eqb-true _ f h)
    ∙ same_from_bits _ _ (λ i. bit_at_or f (bit_and m f) i ∙ ap (λ x. max (bit_at f i) x) (bit_at_and m f i) ∙ absorbed (bit_at f i) (bit_at m i)))

-- one bit
pub has_bit : (e k : ℕ) → bit_at e k ≡ 1 → has e (2 ^ k) ≡ true
unfolding has
has_bit e k h = eq-eqb _ _ (and_pow e k ∙ ap (λ x. x * 2 ^ k) h ∙ omega arith)

pub lacks_bit : (e k : ℕ) → bit_at e k ≡ 0 → has e (2 ^ k) ≡ false
unfolding has
lacks_bit e k h = ne_eqb _ _ (λ is. let z : 0 * 2 ^ k ≡ 2 ^ k = sym (and_pow e k ∙ ap (λ x. x * 2 ^ k) h) ∙ is in let p = pow_pos k in absurd (omega (arith, p, z)))

pub zero_or_one : (x : ℕ) → x < 2 → (x ≡ 0) ⊎ (x ≡ 1)
zero_or_one zero h = inl refl
zero_or_one (suc zero) h = inr refl
zero_or_one (suc (suc x)) h = absurd (omega arith)

pub has_gained : (e m k : ℕ) → has (bit_or e m) (2 ^ k) ≡ true → (has e (2 ^ k) ≡ true) ⊎ (has m (2 ^ k) ≡ true)
has_gained e m k h = ⊎_elim
    (λ e0. ⊎_elim
    (λ m0. absurd (let t : false ≡ true = sym (lacks_bit (bit_or e m) k (bit_at_or e m k ∙ ap₂ max e0 m0)) ∙ h in cc))
    (λ m1. inr (has_bit m k m1)) (zero_or_one (bit_at m k) (bit_at-lt m k)))
    (λ e1. inl (has_bit e k e1)) (zero_or_one (bit_at e k) (bit_at-lt e k))

-- an entry that is present is as before but for added flags
abbrev pub Grown : ℕ → ℕ → ℕ → Type 0
Grown more e f = present e ≡ true → (f ≡ e) ⊎ (f ≡ bit_or e more)

pub record Same (more e f : ℕ) : Type 0 where
  pub is_present : present f ≡ true
  pub same_huge : huge f ≡ huge e
  pub same_address : address f ≡ address e
  pub still : (flag : ℕ) → has e flag ≡ true → has f flag ≡ true
  pub gained : (k : ℕ) → has f (2 ^ k) ≡ true → (has e (2 ^ k) ≡ true) ⊎ (has more (2 ^ k) ≡ true)

pub same_after : (more e f : ℕ) → IsParentFlags more → present e ≡ true → Grown more e f → Same more e f
same_after more e f marks h g = ⊎_elim
    (λ is. subst (Same more e) (sym is) (record { is_present = h; same_huge = refl; same_address = refl; still = λ flag x. x; gained = λ k x. inl x }))
    (λ is. subst (Same more e) (sym is) (record { is_present = has_kept e more 1 h; same_huge = has_or e more 0x80 marks.not_huge; same_address = address_or e more marks.no_address; still = λ flag. has_kept e more flag; gained = λ k. has_gained e more k }))
    (g h)
