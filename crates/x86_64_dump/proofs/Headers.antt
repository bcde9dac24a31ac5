-- Headers: the segments of program headers that are read piece by piece.
use Rattle.std.proofs.Common.{◌≡◌, ℕ, zero, suc, ◌+◌, ◌*◌, ◌/◌, List, length, [], ◌∷◌, ◌++◌, append_assoc, ap, sym, ◌∙◌, arith}
use Rattle.std.proofs.lemmas.List.{append-nil}
use Rattle.std.proofs.lemmas.List.FromFn.{map-range_with_len_more}
use Rattle.x86_64_dump.specs.Dump.{segment_at, segments_at}
use Rattle.x86_64_dump.specs.Source.{bytes_at}
use Rattle.x86_64_dump.specs.declared.segment.Segment.{Segment}
use Rattle.x86_64_dump.proofs.Parts.{part_shows, segment_shown, map_range_same}

one_more : (file : List ℕ) (offset count : ℕ) → segments_at file offset (count + 1) ≡ segments_at file offset count ++ segment_at file (offset + 56 * count) ∷ []
one_more file offset count = map-range_with_len_more (λ i. segment_at file (offset + 56 * i)) 0 count count (omega arith)

pub pushed_one : (entries : List ℕ) (count : ℕ) (old before after : List Segment) (segment : Segment) → before ≡ old ++ segments_at entries 0 count
    → segment ≡ segment_at entries (56 * count) → after ≡ before ++ segment ∷ [] → after ≡ old ++ segments_at entries 0 (count + 1)
pushed_one entries count old before after segment so_far read pushed =
    let place : segment_at entries (0 + 56 * count) ≡ segment_at entries (56 * count) = ap (segment_at entries) (omega arith) in
    let more = one_more entries 0 count in
    let joined = append_assoc old (segments_at entries 0 count) (segment ∷ []) in
    cc

pub next_piece : (file : List ℕ) (offset before more : ℕ) → segments_at file offset (before + more) ≡ segments_at file offset before ++ segments_at file (offset + 56 * before) more
next_piece file offset before zero = ap (λ n. segments_at file offset n) (omega arith) ∙ sym (append-nil (segments_at file offset before))
next_piece file offset before (suc more) =
    let so_far = next_piece file offset before more in
    let counted : before + suc more ≡ before + more + 1 = omega arith in
    let told = one_more file offset (before + more) in
    let read = one_more file (offset + 56 * before) more in
    let next : suc more ≡ more + 1 = omega arith in
    let place : offset + 56 * before + 56 * more ≡ offset + 56 * (before + more) = omega arith in
    let joined = append_assoc (segments_at file offset before) (segments_at file (offset + 56 * before) more) (segment_at file (offset + 56 * before + 56 * more) ∷ []) in
    cc

pub piece_read : (file : List ℕ) (offset count : ℕ) → segments_at (bytes_at file offset (56 * count)) 0 count ≡ segments_at file offset count
piece_read file offset count =
    map_range_same (λ i. segment_at (bytes_at file offset (56 * count)) (0 + 56 * i)) (λ i. segment_at file (offset + 56 * i)) 0 count
    (λ i low high. segment_shown (bytes_at file offset (56 * count)) file (0 + 56 * i) offset (56 * count) (part_shows file offset (56 * count)) (omega arith) ∙ ap (segment_at file) (omega arith))

pub piece_added : (part file : List ℕ) (offset count size : ℕ) (old new : List Segment) → size ≡ 56 * count → length part ≡ size → part ≡ bytes_at file offset size
    → new ≡ old ++ segments_at part 0 (length part / 56) → old ++ segments_at file offset count ≡ new
piece_added part file offset count size old new long all read pushed =
    let counted : length part / 56 ≡ count = omega arith in
    let told = piece_read file offset count in
    cc
