-- What setting flags leaves of an entry.
use Rattle.std.proofs.Common.{◌≡◌, ◌≢◌, ne_eqb, ℕ, ◌==◌, ◌^◌, ◌<◌, true, false, not, bit_and, bit_or, refl, sym, ap, ◌∙◌, arith, min, max, eqb-true, subst, lit<, eq-eqb, ◌%◌, ◌/◌, ◌*◌}
use Rattle.std.proofs.lemmas.Nat.{and_or_apart, and_assoc, and_comm, or_disjoint, and-not, and_mask, or_comm}
use Rattle.std.proofs.lemmas.Nat.Bits.{and_high, same_from_bits, bit_at_and, bit_at_or}
use Rattle.std.specs.Int.{bit_at}
use Rattle.x86_64_model.specs.Entry.{is_frame, has, present, address, flags, used}

pub has_or : (e m f : ℕ) → bit_and m f ≡ 0 → has (bit_or e m) f ≡ has e f
unfolding has
has_or e m f apart = ap (λ x. x == f) (and_or_apart f e m apart)

pub address_or : (e m : ℕ) → address m ≡ 0 → address (bit_or e m) ≡ address e
unfolding address
address_or e m apart = and_or_apart 0x000f_ffff_ffff_f000 e m apart

three : (a b c : ℕ) → min (max a b) c ≡ max (min a c) (min b c)
three a b c = omega arith

pub and_or_distrib : (a b c : ℕ) → bit_and (bit_or a b) c ≡ bit_or (bit_and a c) (bit_and b c)
and_or_distrib a b c = same_from_bits _ _ (λ i.
    bit_at_and (bit_or a b) c i ∙ ap (λ x. min x (bit_at c i)) (bit_at_or a b i) ∙ three (bit_at a i) (bit_at b i) (bit_at c i)
    ∙ sym (bit_at_or (bit_and a c) (bit_and b c) i ∙ ap (λ x. max x (bit_at (bit_and b c) i)) (bit_at_and a c i) ∙ ap (λ x. max (min (bit_at a i) (bit_at c i)) x) (bit_at_and b c i)))

pub present_flags : (e : ℕ) → present (flags e) ≡ present e
unfolding has flags
present_flags e = ap (λ x. x == 1) (and_assoc 1 e 0xfff0_0000_0000_0fff)

pub used_from : (e : ℕ) → e ≢ 0 → used e ≡ true
unfolding used
used_from e n = ap not (ne_eqb e 0 n)

pub unused_zero : (e : ℕ) → used e ≡ false → e ≡ 0
unfolding used
unused_zero e h = elim (e == 0) as (λ b. (e == 0) ≡ b → e ≡ 0) [ true ↦ λ z. eqb-true e 0 z | false ↦ λ z. let t : not (e == 0) ≡ true = ap not z in cc ] refl

pub used_present : (e : ℕ) → present e ≡ true → used e ≡ true
unfolding has
used_present e h = used_from e (λ z. let t : present 0 ≡ true = subst (λ x. present x ≡ true) z h in cc)

pub has_flags : (e f : ℕ) → bit_and 0xfff0_0000_0000_0fff f ≡ f → has (flags e) f ≡ has e f
unfolding has flags
has_flags e f h = ap (λ x. x == f) (and_assoc f e 0xfff0_0000_0000_0fff ∙ ap (bit_and e) h)

pub huge_flags : (e : ℕ) → has (flags e) 0x80 ≡ has e 0x80
huge_flags e = has_flags e 0x80 refl

-- an entry is its address and its flags
pub whole : (e : ℕ) → e < 2 ^ 64 → bit_or (address e) (flags e) ≡ e
unfolding address flags
whole e h =
    or_disjoint _ _ (and_assoc (bit_and e 0xfff0_0000_0000_0fff) e 0x000f_ffff_ffff_f000 ∙ ap (bit_and e) (sym (and_assoc 0xfff0_0000_0000_0fff 0x000f_ffff_ffff_f000 e) ∙ ap (λ x. bit_and x 0xfff0_0000_0000_0fff) (and_comm 0x000f_ffff_ffff_f000 e) ∙ and_assoc 0xfff0_0000_0000_0fff e 0x000f_ffff_ffff_f000 ∙ and_comm e 0) ∙ and_comm e 0)
    ∙ (let parts = and-not 64 0x000f_ffff_ffff_f000 e (lit< tt) h in
    let a = and_comm 0x000f_ffff_ffff_f000 e in let b = and_comm 0xfff0_0000_0000_0fff e in omega (arith, parts, a, b))

or_assoc_by : (a b c : ℕ) → max (max a b) c ≡ max a (max b c)
or_assoc_by a b c = omega arith

pub or_assoc : (a b c : ℕ) → bit_or (bit_or a b) c ≡ bit_or a (bit_or b c)
or_assoc a b c = same_from_bits _ _ (λ i. bit_at_or (bit_or a b) c i ∙ ap (λ x. max x (bit_at c i)) (bit_at_or a b i) ∙ or_assoc_by (bit_at a i) (bit_at b i) (bit_at c i)
    ∙ sym (bit_at_or a (bit_or b c) i ∙ ap (λ x. max (bit_at a i) x) (bit_at_or b c i)))

pub flags_added : (e m : ℕ) → e < 2 ^ 64 → bit_or (address e) (bit_or (flags e) m) ≡ bit_or e m
flags_added e m h = sym (or_assoc (address e) (flags e) m) ∙ ap (λ x. bit_or x m) (whole e h)

-- a frame has no flag
pub no_flag : (f flag : ℕ) → address f ≡ f → bit_and 0x000f_ffff_ffff_f000 flag ≡ 0 → bit_and f flag ≡ 0
unfolding address
no_flag f flag a apart = ap (λ x. bit_and x flag) (sym a) ∙ and_assoc flag f 0x000f_ffff_ffff_f000 ∙ ap (bit_and f) apart ∙ and_comm f 0

pub only_flags : (f x flag : ℕ) → address f ≡ f → bit_and 0x000f_ffff_ffff_f000 flag ≡ 0 → has (bit_or f x) flag ≡ has x flag
only_flags f x flag a apart = ap (λ e. has e flag) (or_comm f x) ∙ has_or x f flag (no_flag f flag a apart)

pub low_nine : (n : ℕ) → bit_and n 511 ≡ n % 512
low_nine n = and_mask n 9

pub address_address : (e : ℕ) → address (address e) ≡ address e
unfolding address
address_address e = and_assoc 0x000f_ffff_ffff_f000 e 0x000f_ffff_ffff_f000

pub is_frame_address : (e : ℕ) → is_frame (address e) ≡ true
is_frame_address e = eq-eqb _ _ (address_address e)

pub address_is : (e : ℕ) → address e ≡ (e / 2 ^ 12 % 2 ^ 40) * 2 ^ 12
unfolding address
address_is e = and_high e 40 12

-- frames with the same number are equal
pub same_frame : (f g : ℕ) → is_frame f ≡ true → is_frame g ≡ true → f / 4096 ≡ g / 4096 → f ≡ g
same_frame f g a b e = sym (eqb-true _ f a) ∙ address_is f ∙ ap (λ n. n % 2 ^ 40 * 2 ^ 12) e ∙ sym (address_is g) ∙ eqb-true _ g b

pub zero_absent : present 0 ≡ false
unfolding has
zero_absent = refl

pub unused_absent : (e : ℕ) → used e ≡ false → present e ≡ false
unused_absent e u = ap present (unused_zero e u) ∙ zero_absent
