-- The tables of a slice, each at the place with its index.
use Rattle.std.proofs.Common.{◌≡◌, ◌<◌, ◌≤◌, ◌+◌, ℕ, List, length, slice_get, Some, None, IsSome, is_some, inl, inr, refl, sym, ap, ◌∙◌, arith}
use Rattle.std.proofs.lemmas.Bool.{cases_lt, false≢true}
use Rattle.std.proofs.lemmas.List.FromFn.{length-range_with_len, get_or-range_with_len}
use Rattle.std.proofs.lemmas.Option.{slice_get_past, slice_get-get_or}
use Rattle.std.specs.FinMap.{get, keys, len}
use Rattle.std.specs.List.{position, range_with_len}
use Rattle.std.specs.Ordering.{nat_cmp, eq_by_cmp}
use Rattle.x86_64_tables.specs.LentMemory.{numbered, tables_in_order}
use Rattle.x86_64_tables.specs.PhysMemory.{length_keys}
use Rattle.x86_64_tables.proofs.Places.{range_rises, there, gone}
use Rattle.x86_64_tables.proofs.PlacesInOrder.{keys-tables, values-tables, position_there, position_gone}

module _ (ts : List (List ℕ)) where
  abbrev numbers : List ℕ
  numbers = range_with_len 0 (length ts)

  same : length ts ≡ length numbers
  same = sym (length-range_with_len 0 (length ts))

  pub keys-numbered : keys (numbered ts) ≡ numbers
  keys-numbered = keys-tables numbers ts (range_rises (length ts)) same

  pub len-numbered : len (numbered ts) ≡ length ts
  len-numbered = sym (length_keys (numbered ts)) ∙ ap length keys-numbered ∙ sym same

  -- a slice consists of the tables of its memory, in order
  pub in_order-numbered : tables_in_order (numbered ts) ≡ ts
  in_order-numbered = values-tables numbers ts (range_rises (length ts)) same

  -- a number below the length is a place, and is its own index
  pub stands : (q : ℕ) → q < length ts → Some q ≡ position (eq_by_cmp nat_cmp q) numbers
  stands q near =
      let at = get_or-range_with_len 0 (length ts) q 0 near in
      position_there numbers q (range_rises (length ts)) q (omega (arith, near, same)) (omega (arith, at))

  pub stands_not : (q : ℕ) → length ts ≤ q → None ≡ position (eq_by_cmp nat_cmp q) numbers
  stands_not q past = position_gone numbers q (λ k h e.
      let below : k < length ts = omega (arith, h, same) in
      let at = get_or-range_with_len 0 (length ts) k 0 below in omega (arith, at, e, below, past))

  pub nth_number : (n : ℕ) → n < length ts → Some n ≡ slice_get numbers n
  nth_number n near =
      let at = get_or-range_with_len 0 (length ts) n 0 near in
      let from_zero : 0 + n ≡ n = omega arith in
      sym (slice_get-get_or numbers n 0 (omega (arith, near, same)) ∙ ap Some (at ∙ from_zero))

  pub no_number : (n : ℕ) → length ts ≤ n → None ≡ slice_get numbers n
  no_number n past = sym (slice_get_past numbers n (omega (arith, past, same)))

  pub get-numbered : (q : ℕ) → slice_get ts q ≡ get (numbered ts) q
  get-numbered q = elim (cases_lt q (length ts)) [
    | inl near ↦ there numbers ts (numbered ts) same refl q q (sym (stands q near))
    | inr past ↦ slice_get_past ts q past ∙ gone numbers ts (numbered ts) same refl q (sym (stands_not q past))
  ]

  pub there_below : (q : ℕ) → IsSome (get (numbered ts) q) → q < length ts
  there_below q has = elim (cases_lt q (length ts)) [
    | inl near ↦ near
    | inr past ↦ absurd (false≢true (ap is_some (sym (slice_get_past ts q past) ∙ get-numbered q) ∙ has))
  ]
