-- The numbers of windows: an index repeated, followed by a path's indices.
use Rattle.std.proofs.Common.{◌≡◌, ◌<◌, ◌≤◌, ◌+◌, ◌-◌, ◌*◌, ◌^◌, ◌%◌, ℕ, zero, suc, List, [], ◌∷◌, ◌++◌, replicate, length, sym, ap, ◌∙◌, subst, ⊎_elim, arith}
use Rattle.std.proofs.lemmas.List.{length-append, length-replicate}
use Rattle.std.proofs.lemmas.List.Sums.{fold-append}
use Rattle.std.proofs.lemmas.Nat.{pow-add}
use Rattle.std.proofs.Math.Nat.{mul_assoc, add-mul}
use Rattle.x86_64_addr.specs.Levels.{IsLevelCount}
use Rattle.x86_64_model.specs.Path.{AllBelow, span_start, span_size}
use Rattle.x86_64_model.specs.Position.{page_path, position_count}
use Rattle.x86_64_model.proofs.Lemmas.Paths.Spans.{digits}
use Rattle.x86_64_model.proofs.Lemmas.Paths.Starts.{path_of_start, start_inside}

-- the value of a number to which a path's indices are appended
digits_after : (a : ℕ) (q : List ℕ) → digits a q ≡ a * 2 ^ (9 * length q) + digits 0 q
digits_after a [] = omega arith
digits_after a (i ∷ q) =
    let s = 2 ^ (9 * length q) in
    let power : 2 ^ (9 * length (i ∷ q)) ≡ 512 * s = ap (λ n. 2 ^ n) (let e : 9 * length (i ∷ q) ≡ 9 + 9 * length q = omega arith in e) ∙ pow-add 2 9 (9 * length q) in
    let front : a * 2 ^ (9 * length (i ∷ q)) ≡ a * 512 * s = ap (λ n. a * n) power ∙ sym (mul_assoc a 512 s) in
    let more : digits a (i ∷ q) ≡ (a * 512 + i) * s + digits 0 q = digits_after (a * 512 + i) q in
    let alone : digits 0 (i ∷ q) ≡ i * s + digits 0 q = ap (λ n. digits n q) (let e : 0 * 512 + i ≡ i = omega arith in e) ∙ digits_after i q in
    omega (arith, more, alone, add-mul (a * 512) i s, front)

-- the number with an index five times ends in that index repeated up to five times
five_times : (n r : ℕ) → n ≤ 5 → (h : ℕ) × (r * 0x1008040201 ≡ h * 2 ^ (9 * n) + digits 0 (replicate n r))
five_times zero r few = (r * 0x1008040201, omega arith)
five_times (suc zero) r few = (r * 0x8040201, omega arith)
five_times (suc (suc zero)) r few = (r * 0x40201, omega arith)
five_times (suc (suc (suc zero))) r few = (r * 0x201, omega arith)
five_times (suc (suc (suc (suc zero)))) r few = (r, omega arith)
five_times (suc (suc (suc (suc (suc zero))))) r few = (0, omega arith)
five_times (suc (suc (suc (suc (suc (suc n)))))) r few = absurd (omega (arith, few))

-- the indices remain below 512 if such an index is put in front
same_below : (n r : ℕ) → r < 512 → (q : List ℕ) → AllBelow q → AllBelow (replicate n r ++ q)
same_below zero r small q below = below
same_below (suc n) r small q below = (small, same_below n r small q below)

-- in 64 bits, what is above the positions is dropped
abbrev Lowest : (n h s count : ℕ) → Type 0
Lowest n h s count = s < count → n * 4096 ≡ h * count + s → n % 2 ^ 64 * 4096 % 2 ^ 64 % count ≡ s

lowest : (L n h s : ℕ) → IsLevelCount L → Lowest n h s (position_count L)
lowest L n h s = ⊎_elim
    (λ is. subst (Lowest n h s) (sym (ap position_count is)) (λ inside sum. omega (arith, inside, sum)))
    (λ is. subst (Lowest n h s) (sym (ap position_count is)) (λ inside sum. omega (arith, inside, sum)))

-- the position of a window: the index five times, followed by the path's, of which only the lowest bits count
module _ (L r : ℕ) (path : List ℕ) (known : IsLevelCount L) (short : length path < L) (small : r < 512) (below : AllBelow path) where
  abbrev pub times : ℕ
  times = L - length path

  abbrev pub whole : List ℕ
  whole = replicate times r ++ path

  long : length whole ≡ L
  long = omega (arith, short, length-append (replicate times r) path, length-replicate times r)

  all_below : AllBelow whole
  all_below = same_below times r small path below

  few : times ≤ 5
  few = ⊎_elim (λ is. omega (arith, is)) (λ is. omega (arith, is)) known

  abbrev pub number : ℕ
  number = digits (r * 0x1008040201) path

  pub window_number_path : page_path L (number % 2 ^ 64 * 4096 % 2 ^ 64 % position_count L) ≡ whole
  window_number_path =
      let split = five_times times r few in
      let h = split.0 in
      let s = 2 ^ (9 * length path) in
      let p = 2 ^ (9 * times) in
      let same = digits 0 (replicate times r) in
      let sum : number ≡ h * p * s + digits 0 whole =
      digits_after (r * 0x1008040201) path ∙ ap (λ m. m * s + digits 0 path) split.1 ∙ ap (λ m. m + digits 0 path) (add-mul (h * p) same s)
      ∙ (let e : h * p * s + same * s + digits 0 path ≡ h * p * s + (same * s + digits 0 path) = omega arith in e)
      ∙ ap (λ m. h * p * s + m) (sym (digits_after same path) ∙ sym (fold-append (λ n i. n * 512 + i) 0 (replicate times r) path)) in
      let size : span_size L whole ≡ 4096 = ap (λ n. 2 ^ (12 + 9 * n)) (let e : L + 1 - length whole - 1 ≡ 0 = omega (arith, long) in e) in
      let start : span_start L whole ≡ digits 0 whole * 4096 = ap (λ n. digits 0 whole * n) size in
      let all : p * s * 4096 ≡ position_count L =
      ap (λ m. m * 4096) (sym (pow-add 2 (9 * times) (9 * length path))) ∙ sym (pow-add 2 (9 * times + 9 * length path) 12)
      ∙ ap (λ m. 2 ^ m) (let e : 9 * times + 9 * length path + 12 ≡ 12 + 9 * L = omega (arith, short) in e) in
      let high : h * p * s * 4096 ≡ h * position_count L = ap (λ m. m * 4096) (mul_assoc h p s) ∙ mul_assoc h (p * s) 4096 ∙ ap (λ m. h * m) all in
      let inside = start_inside L whole long all_below in
      let product : number * 4096 ≡ h * position_count L + span_start L whole = omega (arith, sum, start, high) in
      ap (page_path L) (lowest L number h (span_start L whole) known inside product) ∙ path_of_start L whole long all_below
