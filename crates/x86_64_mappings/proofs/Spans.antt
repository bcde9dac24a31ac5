-- The span of a table below the root consists of the spans of 512 entries, and lies in one half of the address space.
use Rattle.std.proofs.Common.{zero, suc, ◌≡◌, ◌⊎◌, inl, inr, ⊎_elim, ◌<◌, ◌≤◌, ◌+◌, ◌-◌, ◌*◌, ◌/◌, ◌%◌, ◌^◌, ℕ, sym, ap, ◌∙◌, subst, arith}
use Rattle.std.proofs.lemmas.Bool.{cases_lt}
use Rattle.std.proofs.lemmas.Nat.{pow-add}
use Rattle.std.proofs.Math.Nat.{mul-le-mul_right, add-mul}
use Rattle.std.proofs.Math.Pow.{pow_mono}
use Rattle.x86_64_model.specs.Position.{lower_half, span, position_count}
use Rattle.x86_64_model.proofs.Lemmas.Mappings.SpanEnds.{span-next, count-next}
use Rattle.x86_64_mappings.proofs.Visited.{aligned_below, start_inside}

-- the positions from one up to another, which is excluded, lie in one half
abbrev pub AreInHalf : (L from to : ℕ) → Type 0
AreInHalf L a b = (b ≤ lower_half L) ⊎ (lower_half L ≤ a)

-- the middle of the address space is a multiple of the size of each span of a table below the root
middle : (L n : ℕ) → n < L → 2 ^ (9 * (L - n) - 1) * position_count n ≡ lower_half L
middle L n below = sym (pow-add 2 (9 * (L - n) - 1) (12 + 9 * n)) ∙ ap (λ k. 2 ^ k) (let e : 9 * (L - n) - 1 + (12 + 9 * n) ≡ 11 + 9 * L = omega (arith, below) in e)

pub span_in_half : (L n s : ℕ) → n < L → s % position_count n ≡ 0 → AreInHalf L s (s + position_count n)
span_in_half L n s below aligned =
    let p = position_count n in let k = s / p in let h = 2 ^ (9 * (L - n) - 1) in let all = middle L n below in
    let start : k * p ≡ s = omega (arith, aligned) in
    ⊎_elim
    (λ l. let most : (k + 1) * p ≤ h * p = mul-le-mul_right p (let l : k + 1 ≤ h = omega (arith, l) in l) in
    let end : (k + 1) * p ≡ k * p + 1 * p = add-mul k 1 p in inl (omega (arith, most, end, start, all)))
    (λ l. let least : h * p ≤ k * p = mul-le-mul_right p l in inr (omega (arith, least, start, all)))
    (cases_lt k h)

pub within_half : (L a b s t : ℕ) → a ≤ s → t ≤ b → AreInHalf L a b → AreInHalf L s t
within_half L a b s t low high half = ⊎_elim (λ l. inl (omega (arith, l, high))) (λ l. inr (omega (arith, l, low))) half

-- ---- the entries of a table

-- the span of a table is that of the entry that names it
pub span_of_table : (level : ℕ) → span (level + 1) ≡ position_count level
span_of_table level = ap span (let e : level + 1 ≡ suc level = omega arith in e) ∙ span-next level

pub count_span : (level : ℕ) → 1 ≤ level → position_count level ≡ 512 * span level
count_span zero low = absurd (omega arith)
count_span (suc n) low = count-next n ∙ ap (λ w. 512 * w) (sym (span-next n))

pub table_aligned : (level s : ℕ) → 1 ≤ level → s % position_count level ≡ 0 → s % span level ≡ 0
table_aligned zero s low aligned = absurd (omega arith)
table_aligned (suc n) s low aligned =
    let above : s % span (suc (suc n)) ≡ 0 = ap (λ w. s % w) (span-next (suc n)) ∙ aligned in
    subst (λ k. s % span k ≡ 0) (let e : suc (suc n) - 1 ≡ suc n = omega arith in e) (aligned_below (suc (suc n)) s (omega arith) above)

-- the span of a table below an entry ends within the address space of five levels
pub below_fits : (L level s i start : ℕ) → L ≤ 5 → 1 < level → i < 512 → start ≡ s + i * span level → s + 512 * span level ≤ position_count L
    → start + position_count (level - 1) ≤ position_count 5
below_fits L level s i start five low less is inside =
    let few : position_count L ≤ position_count 5 = pow_mono {j = 57} (let e : 12 + 9 * L ≤ 57 = omega (arith, five) in e) in
    let inner = start_inside s i (span level) (position_count L) less inside in
    let width : span level ≡ position_count (level - 1) = ap span (let e : level ≡ level - 1 + 1 = omega (arith, low) in e) ∙ span_of_table (level - 1) in
    omega (arith, few, inner, width, is)
