-- The digits of a number, from the last to the first.
use Rattle.std.proofs.Common.{zero, suc, ◌≡◌, ◌⊎◌, inl, inr, ⊎_elim, ◌<◌, ◌≤◌, ◌+◌, ◌-◌, ◌*◌, ◌/◌, ◌%◌, ◌^◌, ℕ, List, [], ◌∷◌, ◌++◌, cond, false, get_or, length, decimal, refl, sym, ap, ap₂, ◌∙◌, subst, arith, drop, append_assoc, length-append}
use Rattle.std.proofs.lemmas.Bool.{cases_lt, eq-eqb, le-ltb, ne_eqb, lt-ltb}
use Rattle.std.proofs.lemmas.Fmt.{decimal_step, decimal_digit, hex_one_digit}
use Rattle.std.proofs.lemmas.List.{get_or-drop}
use Rattle.std.specs.Fmt.{digits, digits_onto, digit_glyph}
use Rattle.std.specs.Str.{IsAscii}

-- the last k digits in base 16 at most, before a text
abbrev onto : (k n : ℕ) → List ℕ → List ℕ
onto k n text = digits_onto k 16 false n text

abbrev last : ℕ → ℕ
last n = digit_glyph false (n % 16)

onto_last : (k n : ℕ) (text : List ℕ) → n < 16 → onto (suc k) n text ≡ last n ∷ text
onto_last k n text below = ap (λ t. cond t (last n ∷ text) (onto k (n / 16) (last n ∷ text))) (eq-eqb (n / 16) 0 (omega arith))

onto_more : (k n : ℕ) (text : List ℕ) → 16 ≤ n → onto (suc k) n text ≡ onto k (n / 16) (last n ∷ text)
onto_more k n text above = ap (λ t. cond t (last n ∷ text) (onto k (n / 16) (last n ∷ text))) (ne_eqb (n / 16) 0 (λ e. omega arith))

onto-append : (k n : ℕ) (text : List ℕ) → onto k n text ≡ onto k n [] ++ text
onto-append zero n text = refl
onto-append (suc k) n text = ⊎_elim
    (λ below. onto_last k n text below ∙ ap (λ t. t ++ text) (sym (onto_last k n [] below)))
    (λ above. onto_more k n text above ∙ onto-append k (n / 16) (last n ∷ text)
    ∙ sym (append_assoc (onto k (n / 16) []) (last n ∷ []) text)
    ∙ ap (λ t. t ++ text) (sym (onto_more k n [] above ∙ onto-append k (n / 16) (last n ∷ []))))
    (cases_lt n 16)

-- how many digits are asked for doesn't matter if the number has no more
onto_enough : (j k n : ℕ) (text : List ℕ) → n < 16 ^ suc j → n < 16 ^ suc k → onto (suc j) n text ≡ onto (suc k) n text
onto_enough zero k n text p q = onto_last zero n text (omega arith) ∙ sym (onto_last k n text (omega arith))
onto_enough (suc j) zero n text p q = onto_last (suc j) n text (omega arith) ∙ sym (onto_last zero n text (omega arith))
onto_enough (suc j) (suc k) n text p q = ⊎_elim
    (λ below. onto_last (suc j) n text below ∙ sym (onto_last (suc k) n text below))
    (λ above. onto_more (suc j) n text above ∙ onto_enough j k (n / 16) (last n ∷ text) (omega arith) (omega arith)
    ∙ sym (onto_more (suc k) n text above))
    (cases_lt n 16)

length-onto : (j k n : ℕ) (text : List ℕ) → n < 16 ^ suc j → length (onto k n text) ≤ suc j + length text
length-onto j zero n text p = omega arith
length-onto zero (suc k) n text p = omega (arith, ap length (onto_last k n text (omega arith)))
length-onto (suc j) (suc k) n text p = ⊎_elim
    (λ below. omega (arith, ap length (onto_last k n text below)))
    (λ above. omega (arith, ap length (onto_more k n text above), length-onto j k (n / 16) (last n ∷ text) (omega arith)))
    (cases_lt n 16)

onto_is : (n : ℕ) → digits 16 false n ≡ onto 64 n []
unfolding digits
onto_is n = refl

hexadecimal_step : (n : ℕ) → 16 ≤ n → n < 2 ^ 64 → digits 16 false n ≡ digits 16 false (n / 16) ++ last n ∷ []
hexadecimal_step n above small = onto_is n ∙ onto_more 63 n [] above
    ∙ onto_enough 62 63 (n / 16) (last n ∷ []) (omega arith) (omega arith) ∙ onto-append 64 (n / 16) (last n ∷ [])
    ∙ ap (λ t. t ++ last n ∷ []) (sym (onto_is (n / 16)))

pub length_hexadecimal : (n : ℕ) → n < 2 ^ 64 → length (digits 16 false n) ≤ 16
length_hexadecimal n small = omega (arith, ap length (onto_is n), length-onto 15 64 n [] (omega arith))

glyph_below_ten : (d : ℕ) → d < 10 → digit_glyph false d ≡ 48 + d
glyph_below_ten d below = ap (λ t. cond t (48 + d) (87 + d)) (lt-ltb d 10 below)

abbrev pub IsBase : ℕ → Type 0
IsBase base = (base ≡ 10) ⊎ (base ≡ 16)

pub digits_one : (base n : ℕ) → IsBase base → n < base → digits base false n ≡ digit_glyph false n ∷ []
digits_one base n (inl ten) below = subst (λ b. n < b → digits b false n ≡ digit_glyph false n ∷ []) (sym ten)
    (λ small. decimal_digit n small ∙ ap (λ d. d ∷ []) (sym (glyph_below_ten n small))) below
digits_one base n (inr sixteen) below = subst (λ b. n < b → digits b false n ≡ digit_glyph false n ∷ []) (sym sixteen)
    (λ small. hex_one_digit false n small) below

pub digits_step : (base n : ℕ) → IsBase base → base ≤ n → n < 2 ^ 64
    → digits base false n ≡ digits base false (n / base) ++ digit_glyph false (n % base) ∷ []
digits_step base n (inl ten) above small =
    subst (λ b. b ≤ n → digits b false n ≡ digits b false (n / b) ++ digit_glyph false (n % b) ∷ []) (sym ten)
    (λ h. decimal_step n h small ∙ ap (λ d. decimal (n / 10) ++ d ∷ []) (sym (glyph_below_ten (n % 10) (omega arith)))) above
digits_step base n (inr sixteen) above small =
    subst (λ b. b ≤ n → digits b false n ≡ digits b false (n / b) ++ digit_glyph false (n % b) ∷ []) (sym sixteen)
    (λ h. hexadecimal_step n h small) above

pub length_one : (base n : ℕ) → IsBase base → n < base → length (digits base false n) ≡ 1
length_one base n is below = ap length (digits_one base n is below)

pub length_step : (base n : ℕ) → IsBase base → base ≤ n → n < 2 ^ 64
    → length (digits base false n) ≡ length (digits base false (n / base)) + 1
length_step base n is above small = ap length (digits_step base n is above small) ∙ length-append _ _

-- the glyphs of the two digits in base 16 of this many numbers from one on
abbrev pub pairs_from : (first count : ℕ) → List ℕ
pairs_from first zero = []
pairs_from first (suc count) = digit_glyph false (first / 16) ∷ digit_glyph false (first % 16) ∷ pairs_from (first + 1) count

-- without those of the first i numbers
pairs_after : (i first count more : ℕ) → count ≡ i + more → drop (2 * i) (pairs_from first count) ≡ pairs_from (first + i) more
pairs_after zero first count more is = let same : first ≡ first + 0 = omega arith in let rest : count ≡ more = omega (arith, is) in ap₂ pairs_from same rest
pairs_after (suc i) first zero more is = absurd (omega (arith, is))
pairs_after (suc i) first (suc count) more is =
    let after : 2 * suc i ≡ suc (suc (2 * i)) = omega arith in
    let same : first + 1 + i ≡ first + suc i = omega arith in
    ap (λ at. drop at (pairs_from first (suc count))) after ∙ pairs_after i (first + 1) count more (omega (arith, is)) ∙ ap (λ n. pairs_from n more) same

pairs_at : (n : ℕ) → n < 256 → drop (2 * n) (pairs_from 0 256) ≡ pairs_from (0 + n) (suc (255 - n))
pairs_at n below = pairs_after n 0 256 (suc (255 - n)) (omega (arith, below))

-- the glyphs of the two digits of a number below 256
pub pair_high : (n : ℕ) → n < 256 → get_or (pairs_from 0 256) (2 * n) 0 ≡ digit_glyph false (n / 16)
pair_high n below =
    let at : 2 * n ≡ 2 * n + 0 = omega arith in
    let same : 0 + n ≡ n = omega arith in
    ap (λ i. get_or (pairs_from 0 256) i 0) at ∙ sym (get_or-drop (2 * n) (pairs_from 0 256) 0 0)
    ∙ ap (λ xs. get_or xs 0 0) (pairs_at n below) ∙ ap (λ m. digit_glyph false (m / 16)) same

pub pair_low : (n : ℕ) → n < 256 → get_or (pairs_from 0 256) (2 * n + 1) 0 ≡ digit_glyph false (n % 16)
pair_low n below =
    let same : 0 + n ≡ n = omega arith in
    sym (get_or-drop (2 * n) (pairs_from 0 256) 1 0) ∙ ap (λ xs. get_or xs 1 0) (pairs_at n below) ∙ ap (λ m. digit_glyph false (m % 16)) same

pub glyph_ascii : (d : ℕ) → d < 16 → digit_glyph false d < 128
glyph_ascii d small = ⊎_elim
    (λ below. omega (arith, glyph_below_ten d below, below))
    (λ above. omega (arith, ap (λ t. cond t (48 + d) (87 + d)) (le-ltb d 10 above), small))
    (cases_lt d 10)

pub pairs_step : (n : ℕ) → 256 ≤ n → n < 2 ^ 64
    → digits 16 false n ≡ digits 16 false (n / 256) ++ digit_glyph false (n % 256 / 16) ∷ digit_glyph false (n % 256 % 16) ∷ []
pairs_step n above small =
    let front : n / 16 / 16 ≡ n / 256 = omega arith in
    let high : n / 16 % 16 ≡ n % 256 / 16 = omega arith in
    let low : n % 16 ≡ n % 256 % 16 = omega arith in
    digits_step 16 n (inr refl) (omega arith) small
    ∙ ap (λ xs. xs ++ digit_glyph false (n % 16) ∷ []) (digits_step 16 (n / 16) (inr refl) (omega (arith, above)) (omega (arith, small)))
    ∙ append_assoc (digits 16 false (n / 16 / 16)) (digit_glyph false (n / 16 % 16) ∷ []) (digit_glyph false (n % 16) ∷ [])
    ∙ ap (λ m. digits 16 false m ++ digit_glyph false (n / 16 % 16) ∷ digit_glyph false (n % 16) ∷ []) front
    ∙ ap (λ d. digits 16 false (n / 256) ++ digit_glyph false d ∷ digit_glyph false (n % 16) ∷ []) high
    ∙ ap (λ d. digits 16 false (n / 256) ++ digit_glyph false (n % 256 / 16) ∷ digit_glyph false d ∷ []) low

pub length_pairs : (n : ℕ) → 256 ≤ n → n < 2 ^ 64 → length (digits 16 false n) ≡ length (digits 16 false (n / 256)) + 2
length_pairs n above small = ap length (pairs_step n above small) ∙ length-append _ _

-- the digits of what is left and those that are written are together the digits of the number, and behind them is what was
-- written before
abbrev pub AreWritten : (base number left : ℕ) → (end start : ℕ) → (before line : List ℕ) → Type 0
AreWritten base number left end start before line =
    (digits base false left ++ drop start line ≡ digits base false number ++ drop end before)
    × (start + length (digits base false number) ≡ end + length (digits base false left))
    × (length (digits base false left) ≤ start) × (start ≤ 96)
    × (IsAscii (drop end before) → IsAscii (drop start line))

-- likewise after the last digits of what is left are written before the others
pub written_on : (base number left rest end start next : ℕ) (glyphs before line new : List ℕ) → AreWritten base number left end start before line
    → digits base false left ≡ digits base false rest ++ glyphs → drop next new ≡ glyphs ++ drop start line → next + length glyphs ≡ start
    → (IsAscii (drop start line) → IsAscii (drop next new)) → AreWritten base number rest end next before new
written_on base number left rest end start next glyphs before line new so step text place ascii =
    let long : length (digits base false left) ≡ length (digits base false rest) + length glyphs = ap length step ∙ length-append _ _ in
    let front = digits base false rest in
    let written = drop start line in (
      ap (λ xs. front ++ xs) text ∙ sym (append_assoc front glyphs written) ∙ ap (λ xs. xs ++ written) (sym step) ∙ so.0,
      omega (arith, so.1, long, place),
      omega (arith, so.2, long, place),
      omega (arith, so.3, place),
      λ was. ascii (so.4 was),
    )
