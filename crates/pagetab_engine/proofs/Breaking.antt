-- Line feeds break the input into lines.
use Rattle.std.proofs.Common.{◌≡◌, ◌≤◌, ◌<◌, ℕ, refl, arith, sym, ap, ◌∙◌, subst, Bool, true, false, cond, List, [], ◌∷◌, ◌++◌, length, Option, Some, None, append-nil, append_assoc, length-append}
use Rattle.std.specs.Io.KnownBytes.{Consumes}
use Rattle.std.specs.List.{All, slice_split, onto_first}
use Rattle.std.proofs.lemmas.List.Elements.{All-nil, All-cons, All-head, All-tail, All-append}
use Rattle.std.proofs.lemmas.List.Splits.{slice_split_none, slice_split_at, slice_split-cons_no}
use Rattle.pagetab_engine.specs.Lines.{is_line_feed, without_empty_last, lines_of, BeginsTooLong, IsInput, TakesByte, TakesLine, TracesBack}

abbrev pub HasNoFeed : List ℕ → Type 0
HasNoFeed text = All (λ byte. is_line_feed byte ≡ false) text

-- there is a first part, which begins with a text that has no line feed
first_part : (input : List ℕ) → (part : List ℕ) × (parts : List (List ℕ)) × (slice_split is_line_feed input ≡ part ∷ parts)
first_part [] = ([], [], refl)
first_part (byte ∷ bytes) = by (is_line_feed byte) (first_part bytes)
  where
    by : (feed : Bool) → (part : List ℕ) × (parts : List (List ℕ)) × (slice_split is_line_feed bytes ≡ part ∷ parts)
        → (part : List ℕ) × (parts : List (List ℕ)) × (cond feed ([] ∷ slice_split is_line_feed bytes) (onto_first byte (slice_split is_line_feed bytes)) ≡ part ∷ parts)
    by true (part, parts, is) = ([], slice_split is_line_feed bytes, refl)
    by false (part, parts, is) = (byte ∷ part, parts, ap (onto_first byte) is)

first_part_begins : (text input : List ℕ) → HasNoFeed text → (part : List ℕ) × (parts : List (List ℕ)) × (slice_split is_line_feed (text ++ input) ≡ (text ++ part) ∷ parts)
first_part_begins [] input none = first_part input
first_part_begins (byte ∷ text) input none =
    let (part, parts, is) = first_part_begins text input (All-tail (λ b. is_line_feed b ≡ false) byte text none) in
    (part, parts, slice_split-cons_no is_line_feed byte (text ++ input) (All-head (λ b. is_line_feed b ≡ false) byte text none) ∙ ap (onto_first byte) is)

-- an empty input has no lines
pub lines_empty : lines_of [] ≡ []
unfolding lines_of
lines_empty = refl

-- a text without a line feed is a line, unless it is empty
pub lines_last : (text : List ℕ) → 0 < length text → HasNoFeed text → lines_of text ≡ text ∷ lines_of []
unfolding lines_of
lines_last [] some none = absurd (omega arith)
lines_last (byte ∷ bytes) some none = ap without_empty_last (slice_split_none is_line_feed (byte ∷ bytes) none)

-- the text before the first line feed is the first line
pub lines_first : (text rest : List ℕ) → HasNoFeed text → lines_of (text ++ 10 ∷ rest) ≡ text ∷ lines_of rest
unfolding lines_of
lines_first text rest none =
    let (part, parts, is) = first_part rest in
    ap without_empty_last (slice_split_at is_line_feed text 10 rest none refl ∙ ap (λ ps. text ∷ ps) is)
    ∙ ap (λ ps. text ∷ without_empty_last ps) (sym is)

-- a first part of more than 256 bytes is a line
long_first : (part : List ℕ) (parts : List (List ℕ)) → ¬ (length part ≤ 256) → BeginsTooLong (without_empty_last (part ∷ parts))
long_first [] parts long = absurd (long (omega arith))
long_first (byte ∷ bytes) [] long = long
long_first (byte ∷ bytes) (other ∷ parts) long = long

-- more than 256 bytes without a line feed begin with a line that is too long
pub lines_too_long : (text rest : List ℕ) → 256 < length text → HasNoFeed text → BeginsTooLong (lines_of (text ++ rest))
unfolding lines_of
lines_too_long text rest long none =
    let (part, parts, is) = first_part_begins text rest none in
    subst (λ (ps : List (List ℕ)). BeginsTooLong (without_empty_last ps)) (sym is) (long_first (text ++ part) parts (λ few. absurd (omega (arith, length-append text part))))

-- If the bytes of a text were taken and then none is left, there was no line, or the text was the last one.
pub ends_empty : (old left new : Option (List ℕ)) → Consumes old left [] → TakesByte left new None → TracesBack (IsInput old) (IsInput new) (λ bytes rest. lines_of bytes ≡ [])
ends_empty None left new taken next = λ rest may. ([], tt, lines_empty)
ends_empty (Some bytes) None new taken next = absurd taken
ends_empty (Some bytes) (Some rest) new taken next = λ more may. (bytes, refl, ap lines_of (taken ∙ next.0) ∙ lines_empty)

pub ends_last : (old left new : Option (List ℕ)) (text : List ℕ) → Consumes old left text → TakesByte left new None → 0 < length text → HasNoFeed text
    → TracesBack (IsInput old) (IsInput new) (λ bytes rest. TakesLine bytes text rest)
ends_last None left new text taken next some none = λ rest may. (text ++ 10 ∷ rest, tt, lines_first text rest none)
ends_last (Some bytes) None new text taken next some none = absurd taken
ends_last (Some bytes) (Some rest) None text taken next some none = absurd next.1
ends_last (Some bytes) (Some rest) (Some more) text taken next some none = λ end may.
    (bytes, refl, ap lines_of (taken ∙ ap (λ end. text ++ end) next.0 ∙ append-nil text) ∙ lines_last text some none ∙ ap (λ end. text ∷ lines_of end) (sym (may ∙ next.1 ∙ next.0)))

-- if a line feed is next, the text was a line
pub ends_at_feed : (old left new : Option (List ℕ)) (text : List ℕ) → Consumes old left text → TakesByte left new (Some 10) → HasNoFeed text
    → TracesBack (IsInput old) (IsInput new) (λ bytes rest. TakesLine bytes text rest)
ends_at_feed None left new text taken next none = λ rest may. (text ++ 10 ∷ rest, tt, lines_first text rest none)
ends_at_feed (Some bytes) None new text taken next none = absurd taken
ends_at_feed (Some bytes) (Some rest) None text taken next none = absurd next
ends_at_feed (Some bytes) (Some rest) (Some more) text taken next none = λ end may.
    (bytes, refl, ap lines_of (taken ∙ ap (λ end. text ++ end) next) ∙ lines_first text more none ∙ ap (λ end. text ∷ lines_of end) (sym may))

-- more than 256 bytes without a line feed begin with a line that is too long, whatever follows
long_text : (text rest : List ℕ) (byte : ℕ) → is_line_feed byte ≡ false → 256 ≤ length text → HasNoFeed text → BeginsTooLong (lines_of ((text ++ byte ∷ []) ++ rest))
long_text text rest byte other long none = lines_too_long (text ++ byte ∷ []) rest (omega (arith, length-append text (byte ∷ [])))
    (All-append (λ b. is_line_feed b ≡ false) text (byte ∷ []) none (All-cons (λ b. is_line_feed b ≡ false) byte [] other (All-nil (λ b. is_line_feed b ≡ false))))

-- if another byte follows 256 bytes, the line is too long
pub ends_too_long : (old left new : Option (List ℕ)) (text : List ℕ) (byte : ℕ) → Consumes old left text → TakesByte left new (Some byte) → is_line_feed byte ≡ false → 256 ≤ length text → HasNoFeed text
    → TracesBack (IsInput old) (IsInput new) (λ bytes rest. BeginsTooLong (lines_of bytes))
ends_too_long None left new text byte taken next other long none = λ rest may. ((text ++ byte ∷ []) ++ rest, tt, long_text text rest byte other long none)
ends_too_long (Some bytes) None new text byte taken next other long none = absurd taken
ends_too_long (Some bytes) (Some rest) None text byte taken next other long none = absurd next
ends_too_long (Some bytes) (Some rest) (Some more) text byte taken next other long none =
    let is : bytes ≡ (text ++ byte ∷ []) ++ more = taken ∙ ap (λ end. text ++ end) next ∙ sym (append_assoc text (byte ∷ []) more) in
    λ end may. (bytes, refl, subst (λ (bs : List ℕ). BeginsTooLong (lines_of bs)) (sym is) (long_text text more byte other long none))
