-- Rows: the code's magic numbers are those of the table of formats, and the start of a file tells its format.
use Rattle.std.proofs.Common.{◌≡◌, ◌∙◌, ◌+◌, ◌-◌, ◌≤◌, ℕ, Bool, true, false, nat_eq, nat_le, cond, drop, take, replicate, min, length, List, [], ◌∷◌, Option, Some, option_map, unwrap_or, map, refl, ap, arith, ◌&&◌}
use Rattle.std.specs.Cmp.Lexicographic.{pointwise}
use Rattle.std.specs.List.{find, list_all, starts_with}
use Rattle.std.proofs.lemmas.Bool.{leb-true}
use Rattle.std.proofs.lemmas.List.{drop-take, length-take, take-take, take_min}
use Rattle.x86_64_dump.specs.Source.{bytes_at}
use Rattle.x86_64_dump.specs.Formats.{Row, format_of, has_magic, rows}
use Rattle.x86_64_dump.specs.private.Magics.{first_format}
use Rattle.x86_64_dump.specs.declared.formats.Format.{Format}
use Rattle.x86_64_dump.specs.declared.formats.Format.TheVariants as formats
use Rattle.x86_64_dump.specs.declared.formats.Magic.{Magic}

abbrev pub row_of : Magic → Row
row_of m = record { offset = m.0; magic = m.1.now; format = m.2 }

same_first : (file : List ℕ) (magics : List Magic)
    → option_map (λ (m : Magic). m.2) (find (λ m. starts_with nat_eq (drop m.0 file) m.1.now) magics) ≡ option_map (λ (row : Row). row.format) (find (has_magic file) (map row_of magics))
same_first file [] = refl
same_first file (m ∷ magics) = by (has_magic file (row_of m)) (same_first file magics)
  where
    by : (b : Bool) → option_map (λ (m : Magic). m.2) (find (λ m. starts_with nat_eq (drop m.0 file) m.1.now) magics) ≡ option_map (λ (row : Row). row.format) (find (has_magic file) (map row_of magics))
        → option_map (λ (m : Magic). m.2) (cond b (Some m) (find (λ m. starts_with nat_eq (drop m.0 file) m.1.now) magics)) ≡ option_map (λ (row : Row). row.format) (cond b (Some (row_of m)) (find (has_magic file) (map row_of magics)))
    by true rest = refl
    by false rest = rest

pub row_found : (file : List ℕ) (magics : List Magic) (found : Option Format) → found ≡ first_format file magics → found ≡ option_map (λ (row : Row). row.format) (find (has_magic file) (map row_of magics))
unfolding first_format
row_found file magics found is = is ∙ same_first file magics

-- the first bytes of a file have a row's magic number if and only if the file does
by_start : (file : List ℕ) (row : Row) → row.offset + length row.magic ≤ 64 → has_magic (take 64 file) row ≡ has_magic file row
by_start file row fits =
    let o = row.offset in
    let n : ℕ = length row.magic in
    ap (pointwise nat_eq row.magic)
    (ap (λ k. take n (drop o (take k file))) (let whole : 64 ≡ o + (64 - o) = omega arith in whole)
    ∙ ap (take n) (drop-take o (64 - o) file)
    ∙ take-take n (64 - o) (drop o file) (omega arith))

start_rows : (file : List ℕ) (rows : List Row) → list_all (λ row. nat_le (row.offset + length row.magic) 64) rows ≡ true → find (has_magic (take 64 file)) rows ≡ find (has_magic file) rows
start_rows file [] fit = refl
start_rows file (row ∷ rows) fit = by (nat_le (row.offset + length row.magic) 64) refl fit (start_rows file rows)
  where
    by : (b : Bool) → nat_le (row.offset + length row.magic) 64 ≡ b → (b && list_all (λ row. nat_le (row.offset + length row.magic) 64) rows) ≡ true
        → (list_all (λ row. nat_le (row.offset + length row.magic) 64) rows ≡ true → find (has_magic (take 64 file)) rows ≡ find (has_magic file) rows)
        → cond (has_magic (take 64 file) row) (Some row) (find (has_magic (take 64 file)) rows) ≡ cond (has_magic file row) (Some row) (find (has_magic file) rows)
    by true fits fit rest =
        let here = by_start file row (leb-true _ _ fits) in
        let later = rest fit in
        cc
    by false fits fit rest = cc

-- the start of a file tells its format
pub start_format : (file : List ℕ) → format_of (take 64 file) ≡ format_of file
unfolding format_of
start_format file = ap (λ found. unwrap_or (option_map (λ (row : Row). row.format) found) formats.Raw) (start_rows file rows refl)

pub start_read : (start file : List ℕ) (present size : ℕ) → start ≡ bytes_at file 0 (length {A = ℕ} (take present (replicate 64 0))) → present ≡ min size 64 → size ≡ length file → format_of start ≡ format_of file
start_read start file present size read asked long =
    let count : length {A = ℕ} (take present (replicate 64 0)) ≡ min 64 (length file) = length-take present (replicate {A = ℕ} 64 0) ∙ omega arith in
    ap format_of (read ∙ ap (bytes_at file 0) count ∙ take_min 64 file) ∙ start_format file
