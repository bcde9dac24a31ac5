-- Positions and the raw values of canonical addresses.
use Rattle.std.proofs.Common.{◌≡◌, ◌⊎◌, ◌↔◌, inl, inr, ⊎_elim, ◌<◌, ◌≤◌, ◌+◌, ◌-◌, ◌*◌, ◌%◌, ◌^◌, ℕ, nat_lt, cond, refl, sym, ap, ◌∙◌, subst, subst₂, arith, lt-ltb, le-ltb}
use Rattle.std.proofs.lemmas.Bool.{cases_lt}
use Rattle.std.proofs.Math.Nat.{add-mul-mod_self_right, mod-eq_of_lt}
use Rattle.x86_64_model.specs.Laws.Positions.{AreAddresses, PositionsAreAddresses}

-- half of the positions, all of them, and how far the upper half is moved up: a multiple of all
module _ (half all up times : ℕ) (two : all ≡ half + half) (multiple : up ≡ times * all) (end : up + all ≡ 2 ^ 64) where
  abbrev address : ℕ → ℕ
  address p = cond (nat_lt p half) p (p + up)

  abbrev Canonical : ℕ → Type 0
  Canonical n = (n < half) ⊎ ((up + half ≤ n) × (n < 2 ^ 64))

  lower : (p : ℕ) → p < half → address p ≡ p
  lower p h = ap (λ b. cond b p (p + up)) (lt-ltb p half h)

  upper : (p : ℕ) → half ≤ p → address p ≡ p + up
  upper p h = ap (λ b. cond b p (p + up)) (le-ltb p half h)

  pub canonical : (p : ℕ) → p < all → Canonical (address p)
  canonical p l = ⊎_elim
      (λ h. subst Canonical (sym (lower p h)) (inl h))
      (λ h. subst Canonical (sym (upper p h)) (inr (omega (arith, h), omega (arith, l, end))))
      (cases_lt p half)

  moved : (p : ℕ) → p < all → (p + up) % all ≡ p
  moved p l = ap (λ u. (p + u) % all) multiple ∙ add-mul-mod_self_right p times all ∙ mod-eq_of_lt l

  pub position : (p : ℕ) → p < all → address p % all ≡ p
  position p l = ⊎_elim
      (λ h. ap (λ n. n % all) (lower p h) ∙ mod-eq_of_lt l)
      (λ h. ap (λ n. n % all) (upper p h) ∙ moved p l)
      (cases_lt p half)

  pub address_of : (n : ℕ) → Canonical n → address (n % all) ≡ n
  address_of n (inl h) = let same : n % all ≡ n = mod-eq_of_lt (omega (arith, h, two)) in ap address same ∙ lower n h
  address_of n (inr h) =
      let low = h.0 in let high = h.1 in
      let apart : n ≡ (n - up) + up = omega (arith, low) in
      let same : n % all ≡ n - up = ap (λ n. n % all) apart ∙ moved (n - up) (omega (arith, low, high, end)) in
      ap address same ∙ upper (n - up) (omega (arith, low)) ∙ sym apart

  pub order : (p q : ℕ) → p < all → q < all → p < q ↔ (address p < address q)
  order p q a b = ⊎_elim
      (λ h. ⊎_elim
      (λ g. by (lower p h) (lower q g) (λ l. l, λ l. l))
      (λ g. by (lower p h) (upper q g) (λ l. omega (arith, l), λ l. omega (arith, h, g)))
      (cases_lt q half))
      (λ h. ⊎_elim
      (λ g. by (upper p h) (lower q g) (λ l. absurd (omega (arith, l, h, g)), λ l. absurd (omega (arith, l, h, g, end, two))))
      (λ g. by (upper p h) (upper q g) (λ l. omega (arith, l), λ l. omega (arith, l)))
      (cases_lt q half))
      (cases_lt p half)
    where
      by : {x y : ℕ} → address p ≡ x → address q ≡ y → p < q ↔ (x < y) → p < q ↔ (address p < address q)
      by e f h = subst₂ (λ x y. p < q ↔ (x < y)) (sym e) (sym f) h

four : AreAddresses 4
four = record {
  canonical = canonical (2 ^ 47) (2 ^ 48) (2 ^ 64 - 2 ^ 48) 65535 refl refl refl;
  position = position (2 ^ 47) (2 ^ 48) (2 ^ 64 - 2 ^ 48) 65535 refl refl refl;
  address = address_of (2 ^ 47) (2 ^ 48) (2 ^ 64 - 2 ^ 48) 65535 refl refl refl;
  order = order (2 ^ 47) (2 ^ 48) (2 ^ 64 - 2 ^ 48) 65535 refl refl refl;
}

five : AreAddresses 5
five = record {
  canonical = canonical (2 ^ 56) (2 ^ 57) (2 ^ 64 - 2 ^ 57) 127 refl refl refl;
  position = position (2 ^ 56) (2 ^ 57) (2 ^ 64 - 2 ^ 57) 127 refl refl refl;
  address = address_of (2 ^ 56) (2 ^ 57) (2 ^ 64 - 2 ^ 57) 127 refl refl refl;
  order = order (2 ^ 56) (2 ^ 57) (2 ^ 64 - 2 ^ 57) 127 refl refl refl;
}

pub positions_are_addresses : PositionsAreAddresses
positions_are_addresses L (inl e) = subst AreAddresses (sym e) four
positions_are_addresses L (inr e) = subst AreAddresses (sym e) five
