-- Where the spans of paths start: one after the other, inside the positions, and in the order of the paths.
use Rattle.std.proofs.Common.{◌≡◌, ◌<◌, ◌≤◌, ◌+◌, ◌-◌, ◌*◌, ◌^◌, ℕ, true, List, [], ◌∷◌, ◌++◌, length, sym, ap, ◌∙◌, arith, append-nil, pow_pos}
use Rattle.std.proofs.lemmas.List.{length-append}
use Rattle.std.proofs.lemmas.List.Sums.{fold-append}
use Rattle.std.proofs.lemmas.Nat.{pow-add}
use Rattle.std.proofs.Math.Nat.{mul-le-mul_right, mul_assoc, add-mul}
use Rattle.x86_64_model.specs.Position.{position_count, page_path}
use Rattle.x86_64_model.specs.Path.{AllBelow, begins, span_start, span_size}
use Rattle.x86_64_model.proofs.Lemmas.Paths.Begins.{from_begins}
use Rattle.x86_64_model.proofs.Lemmas.Machines.Spares.{length_path}
use Rattle.x86_64_model.proofs.Lemmas.Paths.Spans.{digits, spans_are_intervals}
use Rattle.x86_64_model.proofs.Lemmas.Walks.Walked.{one_more}

pub size_pos : (L : ℕ) (q : List ℕ) → 0 < span_size L q
size_pos L q = pow_pos (12 + 9 * (L + 1 - length q - 1))

-- ---- the spans at the indices of a table

module _ (L : ℕ) (q : List ℕ) (i : ℕ) (shorter : length q < L) where
  pub next_size : span_size L q ≡ 512 * span_size L (q ++ i ∷ [])
  next_size = ap (λ n. 2 ^ n) (let e : 12 + 9 * (L + 1 - length q - 1) ≡ 9 + (12 + 9 * (L + 1 - length (q ++ i ∷ []) - 1)) = omega (arith, shorter, one_more q i) in e)
      ∙ pow-add 2 9 (12 + 9 * (L + 1 - length (q ++ i ∷ []) - 1))

  pub next_start : span_start L (q ++ i ∷ []) ≡ span_start L q + i * span_size L (q ++ i ∷ [])
  next_start =
      let s = span_size L (q ++ i ∷ []) in let v = digits 0 q in
      ap (λ n. n * s) (fold-append (λ n i. n * 512 + i) 0 q (i ∷ [])) ∙ add-mul (v * 512) i s ∙ ap (λ n. n + i * s) (mul_assoc v 512 s ∙ ap (λ n. v * n) (sym next_size))

-- ---- inside the positions

-- what a path's indices number is below what there are of them
digits_below : (a : ℕ) (q : List ℕ) → AllBelow q → digits a q + 1 ≤ (a + 1) * 2 ^ (9 * length q)
digits_below a [] h = omega arith
digits_below a (i ∷ q) h =
    let more = digits_below (a * 512 + i) q h.1 in
    let few : (a * 512 + i + 1) * 2 ^ (9 * length q) ≤ (a + 1) * 512 * 2 ^ (9 * length q) = mul-le-mul_right (2 ^ (9 * length q)) (let l : a * 512 + i + 1 ≤ (a + 1) * 512 = omega (arith, h.0) in l) in
    let one : (a + 1) * 512 * 2 ^ (9 * length q) ≡ (a + 1) * 2 ^ (9 * length (i ∷ q)) =
    mul_assoc (a + 1) 512 (2 ^ (9 * length q)) ∙ ap (λ n. (a + 1) * n) (sym (ap (λ n. 2 ^ n) (let e : 9 * length (i ∷ q) ≡ 9 + 9 * length q = omega arith in e) ∙ pow-add 2 9 (9 * length q))) in
    omega (arith, more, few, one)

pub span_inside : (L : ℕ) (q : List ℕ) → length q ≤ L → AllBelow q → span_start L q + span_size L q ≤ position_count L
span_inside L q l h =
    let s = span_size L q in let v = digits 0 q in
    let number : v + 1 ≤ 2 ^ (9 * length q) = let below = digits_below 0 q h in omega (arith, below) in
    let all : 2 ^ (9 * length q) * s ≡ position_count L =
    sym (pow-add 2 (9 * length q) (12 + 9 * (L + 1 - length q - 1))) ∙ ap (λ n. 2 ^ n) (let e : 9 * length q + (12 + 9 * (L + 1 - length q - 1)) ≡ 12 + 9 * L = omega (arith, l) in e) in
    let most : (v + 1) * s ≤ 2 ^ (9 * length q) * s = mul-le-mul_right s number in
    let sum : (v + 1) * s ≡ v * s + 1 * s = add-mul v 1 s in
    omega (arith, most, sum, all)

-- ---- the paths of pages

page_size : (L : ℕ) (q : List ℕ) → length q ≡ L → span_size L q ≡ 4096
page_size L q whole = ap (λ n. 2 ^ (12 + 9 * n)) (let e : L + 1 - length q - 1 ≡ 0 = omega (arith, whole) in e)

module _ (L : ℕ) (q : List ℕ) (whole : length q ≡ L) (below : AllBelow q) where
  pub start_inside : span_start L q < position_count L
  start_inside = let inside = span_inside L q (omega (arith, whole)) below in let pos = size_pos L q in omega (arith, inside, pos)

  pub end_inside : span_start L q + 0xfff < position_count L
  end_inside = let inside = span_inside L q (omega (arith, whole)) below in let size = page_size L q whole in omega (arith, inside, size)

-- a path that begins with a path of its own length equals it
begins_whole : (q p : List ℕ) → begins q p ≡ true → length q ≡ length p → p ≡ q
begins_whole q p h e = let more = from_begins q p h in by more.0 more.1
  where
    by : (s : List ℕ) → p ≡ q ++ s → p ≡ q
    by [] f = f ∙ append-nil q
    by (j ∷ s) f = absurd (omega (arith, e, ap length f, length-append q (j ∷ s)))

module _ (L : ℕ) where
  -- the path at a position of its span
  pub path_in_span : (q : List ℕ) → length q ≡ L → AllBelow q → (p : ℕ) → span_start L q ≤ p → p < span_start L q + span_size L q → page_path L p ≡ q
  unfolding page_path
  path_in_span [] whole below p from to = ap (λ n. page_path n p) (sym whole)
  path_in_span (i ∷ q) whole below p from to = begins_whole (i ∷ q) (page_path L p)
      ((spans_are_intervals L (i ∷ q) p (omega arith) (omega (arith, whole)) below (let inside = span_inside L (i ∷ q) (omega (arith, whole)) below in omega (arith, inside, to))).1 (from, to))
      (whole ∙ sym (length_path L p))

  pub path_of_start : (q : List ℕ) → length q ≡ L → AllBelow q → page_path L (span_start L q) ≡ q
  path_of_start q whole below = let pos = size_pos L q in path_in_span q whole below (span_start L q) (omega arith) (omega (arith, pos))

  pub path_of_end : (q : List ℕ) → length q ≡ L → AllBelow q → page_path L (span_start L q + 0xfff) ≡ q
  path_of_end q whole below = let size = page_size L q whole in path_in_span q whole below (span_start L q + 0xfff) (omega arith) (omega (arith, size))
