-- Parts: the numbers in a part that was read are the file's numbers.
use Rattle.std.proofs.Common.{◌≡◌, ℕ, zero, suc, ◌+◌, ◌-◌, ◌≤◌, ◌<◌, List, ◌++◌, map, refl, length, get_or, take, drop, replicate, ap, sym, ◌∙◌, arith, add_assoc, min, ⊎_elim}
use Rattle.std.specs.Int.{byte_worth, sum_through}
use Rattle.std.specs.List.{range_with_len}
use Rattle.std.proofs.lemmas.Bool.{cases_lt}
use Rattle.std.proofs.lemmas.List.{length-take, get_or_append_left, get_or-take, get_or-drop, get_or-replicate, get_or_past, get_or-append_right}
use Rattle.x86_64_dump.specs.Numbers.{u16_at, u32_at, u64_at}
use Rattle.x86_64_dump.specs.Dump.{segment_at}
use Rattle.x86_64_dump.specs.Formats.Elf.{header_of}
use Rattle.x86_64_dump.specs.Source.{bytes_at}

-- the first bytes of a part are the bytes of the file from an offset on, and 0 past the file's end
pub record Shows (part file : List ℕ) (offset count : ℕ) : Type 0 where
  pub bytes : (i : ℕ) → i < count → get_or part i 0 ≡ get_or file (offset + i) 0

pub part_shows : (file : List ℕ) (offset count : ℕ) → Shows (bytes_at file offset count) file offset count
part_shows file offset count = record { bytes = λ i below. get_or-take count (drop offset file) i 0 below ∙ get_or-drop offset file i 0 }

sum_through_same : (f g : ℕ → ℕ) (k : ℕ) → ((i : ℕ) → i ≤ k → f i ≡ g i) → sum_through f k ≡ sum_through g k
sum_through_same f g zero same = same 0 (omega arith)
sum_through_same f g (suc k) same =
    let below = sum_through_same f g k (λ i h. same i (omega arith)) in
    let top = same (suc k) (omega arith) in
    cc

pub map_range_same : {X : Type 0} (f g : ℕ → X) (a n : ℕ) → ((i : ℕ) → a ≤ i → i < a + n → f i ≡ g i) → map f (range_with_len a n) ≡ map g (range_with_len a n)
map_range_same f g a zero same = refl
map_range_same f g a (suc n) same =
    let first = same a (omega arith) (omega arith) in
    let rest = map_range_same f g (a + 1) n (λ i low high. same i (omega arith) (omega arith)) in
    cc

from_shown : (part file : List ℕ) (at offset count : ℕ) (k : ℕ) → Shows part file offset count → at + suc k ≤ count → sum_through (λ i. byte_worth i (get_or (drop at part) i 0)) k ≡ sum_through (λ i. byte_worth i (get_or (drop (offset + at) file) i 0)) k
from_shown part file at offset count k shows fits = sum_through_same _ _ k (λ i h.
    ap (byte_worth i) (get_or-drop at part i 0 ∙ shows.bytes (at + i) (omega arith) ∙ ap (λ n. get_or file n 0) (omega arith) ∙ sym (get_or-drop (offset + at) file i 0)))

pub u16_shown : (part file : List ℕ) (at offset count : ℕ) → Shows part file offset count → at + 2 ≤ count → u16_at part at ≡ u16_at file (offset + at)
unfolding u16_at
u16_shown part file at offset count shows fits = from_shown part file at offset count 1 shows fits

pub u32_shown : (part file : List ℕ) (at offset count : ℕ) → Shows part file offset count → at + 4 ≤ count → u32_at part at ≡ u32_at file (offset + at)
unfolding u32_at
u32_shown part file at offset count shows fits = from_shown part file at offset count 3 shows fits

pub u64_shown : (part file : List ℕ) (at offset count : ℕ) → Shows part file offset count → at + 8 ≤ count → u64_at part at ≡ u64_at file (offset + at)
unfolding u64_at
u64_shown part file at offset count shows fits = from_shown part file at offset count 7 shows fits

pub segment_shown : (part file : List ℕ) (at offset count : ℕ) → Shows part file offset count → at + 56 ≤ count → segment_at part at ≡ segment_at file (offset + at)
unfolding segment_at
segment_shown part file at offset count shows fits =
    let kind = u32_shown part file at offset count shows (omega arith) in
    let place = u64_shown part file (at + 8) offset count shows (omega arith) ∙ ap (u64_at file) (sym (add_assoc offset at 8)) in
    let address = u64_shown part file (at + 24) offset count shows (omega arith) ∙ ap (u64_at file) (sym (add_assoc offset at 24)) in
    let size = u64_shown part file (at + 32) offset count shows (omega arith) ∙ ap (u64_at file) (sym (add_assoc offset at 32)) in
    cc

pub header_shown : (front file : List ℕ) → Shows front file 0 64 → header_of front ≡ header_of file
unfolding header_of
header_shown front file shows =
    let class = shows.bytes 4 (omega arith) in
    let order = shows.bytes 5 (omega arith) in
    let file_type = u16_shown front file 16 0 64 shows (omega arith) in
    let machine = u16_shown front file 18 0 64 shows (omega arith) in
    let headers = u64_shown front file 32 0 64 shows (omega arith) in
    let sections = u64_shown front file 40 0 64 shows (omega arith) in
    let entry_size = u16_shown front file 54 0 64 shows (omega arith) in
    let count = u16_shown front file 56 0 64 shows (omega arith) in
    cc

zero_of_zeros : (n i : ℕ) → i < n → get_or {A = ℕ} (replicate n 0) i 0 ≡ 0
zero_of_zeros n i below = get_or-replicate n i 0 0 below

before_end : (part rest file : List ℕ) (present i : ℕ) → part ≡ bytes_at file 0 present → length part ≡ present → i < present → get_or (part ++ rest) i 0 ≡ get_or file (0 + i) 0
before_end part rest file present i read long inside =
    get_or_append_left part rest 0 i (omega arith) ∙ ap (λ bytes. get_or bytes i 0) read ∙ (part_shows file 0 present).bytes i inside

after_end : (part file : List ℕ) (present i : ℕ) → length part ≡ present → length file ≤ i → i < 64 → present ≤ i → get_or (part ++ drop present (replicate 64 0)) i 0 ≡ get_or file (0 + i) 0
after_end part file present i long ended below past =
    get_or-append_right part (drop present (replicate 64 0)) present i 0 long past
    ∙ get_or-drop present (replicate 64 0) (i - present) 0
    ∙ zero_of_zeros 64 (present + (i - present)) (omega arith)
    ∙ sym (get_or_past file (0 + i) 0 (omega arith))

-- the bytes up to the file's end, and bytes 0 after it
pub front_shows : (front part file : List ℕ) (present : ℕ) → front ≡ part ++ drop present (replicate 64 0) → part ≡ bytes_at file 0 (length {A = ℕ} (take present (replicate 64 0))) → present ≡ min (length file) 64 → Shows front file 0 64
front_shows front part file present whole read size = record {
  bytes = λ i below.
      let asked : length {A = ℕ} (take present (replicate 64 0)) ≡ present = length-take present (replicate {A = ℕ} 64 0) ∙ omega arith in
      let got : part ≡ bytes_at file 0 present = read ∙ ap (bytes_at file 0) asked in
      let long : length part ≡ present = ap length got ∙ length-take present file ∙ omega arith in
      ap (λ bytes. get_or bytes i 0) whole ∙ ⊎_elim
      (λ inside. before_end part (drop present (replicate 64 0)) file present i got long inside)
      (λ past. after_end part file present i long (omega arith) below past)
      (cases_lt i present);
}
