-- The span of a level that a position lies in: where it starts and ends, and that its positions have the same indices from the level up.
use Rattle.std.proofs.Common.{suc, ◌≡◌, ◌<◌, ◌≤◌, ◌+◌, ◌-◌, ◌*◌, ◌/◌, ◌%◌, ◌^◌, ℕ, sym, ap, ◌∙◌, subst, arith}
use Rattle.std.proofs.lemmas.Nat.{pow-add, div-mul-add}
use Rattle.std.proofs.Math.Nat.{div-mul-le_self, lt-div-mul-add, mul-le-mul_right, add-mul, mul_assoc, mul_comm, div-lt_iff_lt-mul}
use Rattle.x86_64_model.specs.Position.{index, span, position_count}
use Rattle.x86_64_model.specs.private.Found.{span_end}
use Rattle.x86_64_model.proofs.Lemmas.Paths.Pages.{span_pos, span_up}
use Rattle.x86_64_model.proofs.Lemmas.Paths.Spans.{number-up, index-number}

-- an entry of a level spans what a table of the level below it does
pub span-next : (n : ℕ) → span (suc n) ≡ position_count n
span-next n = ap (λ n. 2 ^ (12 + 9 * n)) (let e : suc n - 1 ≡ n = omega arith in e)

pub count-next : (n : ℕ) → position_count (suc n) ≡ 512 * position_count n
count-next n = ap (λ n. 2 ^ n) (let e : 12 + 9 * suc n ≡ 9 + (12 + 9 * n) = omega arith in e) ∙ pow-add 2 9 (12 + 9 * n)

pub span_from : (level p : ℕ) → p / span level * span level ≤ p
span_from level p = div-mul-le_self p (span level)

pub span_end_after : (level p : ℕ) → p < span_end level p
span_end_after level p = lt-div-mul-add (span_pos level)

pub same_number : (level p x : ℕ) → p / span level * span level ≤ x → x < span_end level p → x / span level ≡ p / span level
same_number level p x from to = let low = p / span level * span level in
    ap (λ x. x / span level) (let e : x ≡ low + (x - low) = omega (arith, from) in e) ∙ div-mul-add (p / span level) (span level) (x - low) (omega (arith, from, to))

pub span_end_inside : (L level p : ℕ) → 1 ≤ level → level ≤ L → p < position_count L → span_end level p ≤ position_count L
span_end_inside L level p low high inside =
    let w = span level in let times = 2 ^ (9 * (suc L - level)) in
    let all : position_count L ≡ times * w = sym (span-next L) ∙ span_up level (suc L) low (omega (arith, high)) ∙ mul_comm w times in
    let few : p / w < times = (div-lt_iff_lt-mul (span_pos level)).1 (subst (λ n. p < n) all inside) in
    let most : (p / w + 1) * w ≤ times * w = mul-le-mul_right w (let l : p / w + 1 ≤ times = omega (arith, few) in l) in
    let one : (p / w + 1) * w ≡ p / w * w + 1 * w = add-mul (p / w) 1 w in
    omega (arith, all, most, one)

-- the span at the index of a table, from the start of the table's span
pub next_span : (n p : ℕ) → p / position_count (suc n) * position_count (suc n) + index (suc n) p * span (suc n) ≡ p / span (suc n) * span (suc n)
next_span n p =
    let w = position_count n in let y = p / w in
    let outer : p / position_count (suc n) * position_count (suc n) ≡ y / 512 * 512 * w = ap (λ z. z * position_count (suc n)) (number-up n p) ∙ ap (λ z. y / 512 * z) (count-next n) ∙ sym (mul_assoc (y / 512) 512 w) in
    let inner : index (suc n) p * span (suc n) ≡ y % 512 * w = ap (λ z. z * span (suc n)) (index-number n p) ∙ ap (λ z. y % 512 * z) (span-next n) in
    let joined : (y / 512 * 512 + y % 512) * w ≡ y / 512 * 512 * w + y % 512 * w = add-mul (y / 512 * 512) (y % 512) w in
    let whole : y / 512 * 512 + y % 512 ≡ y = omega arith in
    let all : y / 512 * 512 * w + y % 512 * w ≡ y * w = sym joined ∙ ap (λ z. z * w) whole in
    let end : p / span (suc n) * span (suc n) ≡ y * w = ap (λ s. p / s * s) (span-next n) in
    omega (arith, outer, inner, all, end)
