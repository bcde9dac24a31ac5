-- Frames: their offsets, and the words of a part of a file.
use Rattle.std.proofs.Common.{◌≡◌, ℕ, ◌+◌, ◌*◌, ◌≤◌, ◌<◌, Bool, true, false, cond, List, [], ◌∷◌, Option, Some, None, is_some, map, take, eq-eqb, ◌%◌, ◌^◌, length, refl, ap, sym, subst, ◌∙◌, arith, leb-true, nat_le, IfSome, ◌&&◌}
use Rattle.std.specs.List.{find, range_with_len}
use Rattle.std.specs.Option.{option_map}
use Rattle.x86_64_model.specs.Entry.{is_frame, address}
use Rattle.x86_64_dump.specs.Numbers.{u64_at}
use Rattle.x86_64_dump.specs.Segments.{is_memory}
use Rattle.x86_64_dump.specs.Dump.{Contents, without_bits, has_frame, frame_offset, offset_in, words_at, words_of_dump}
use Rattle.x86_64_dump.specs.declared.segment.Segment.{Segment}
use Rattle.std.proofs.lemmas.Bool.{and_parts}
use Rattle.std.proofs.lemmas.List.{take_all}
use Rattle.x86_64_dump.specs.Source.{bytes_at}
use Rattle.x86_64_model.proofs.Lemmas.Entries.Words.{address-multiple}
use Rattle.x86_64_dump.proofs.Parts.{Shows, part_shows, u64_shown, map_range_same}

words_map_shown : (cleared : ℕ) (part file : List ℕ) (offset size n : ℕ) → Shows part file offset size → 8 * n ≤ size
    → map (λ i. without_bits cleared (u64_at part (0 + 8 * i))) (range_with_len 0 n) ≡ map (λ i. without_bits cleared (u64_at file (offset + 8 * i))) (range_with_len 0 n)
words_map_shown cleared part file offset size n shows fits = map_range_same _ _ 0 n (λ i low high.
    ap (without_bits cleared) (ap (u64_at part) (omega arith) ∙ u64_shown part file (8 * i) offset size shows (omega arith)))

pub words_shown : (cleared : ℕ) (part file : List ℕ) (offset : ℕ) → Shows part file offset 4096 → words_at cleared part 0 ≡ words_at cleared file offset
unfolding words_at
words_shown cleared part file offset shows = words_map_shown cleared part file offset 4096 512 shows (omega arith)

words_by_count : (cleared : ℕ) (bytes : List ℕ) (n : ℕ)
    → map (λ i. without_bits cleared (u64_at bytes (8 * i))) (range_with_len 0 n) ≡ map (λ i. without_bits cleared (u64_at bytes (0 + 8 * i))) (range_with_len 0 n)
words_by_count cleared bytes n = map_range_same _ _ 0 n (λ i low high. ap (λ at. without_bits cleared (u64_at bytes at)) (omega arith))

pub all_words : (cleared : ℕ) (bytes words : List ℕ) (n : ℕ) → n ≡ 512 → length words ≡ 512
    → take n words ≡ map (λ i. without_bits cleared (u64_at bytes (8 * i))) (range_with_len 0 n) → words ≡ words_at cleared bytes 0
unfolding words_at
all_words cleared bytes words n all size read =
    sym (take_all n words (omega arith)) ∙ read ∙ words_by_count cleared bytes n ∙ ap (λ count. map (λ i. without_bits cleared (u64_at bytes (0 + 8 * i))) (range_with_len 0 count)) all

none_either : {A : Type 0} (b : Bool) → cond {A = Option A} b None None ≡ None
none_either true = refl
none_either false = refl

-- the words of a frame that no segment has, and of one that a segment has
pub no_words : (dump : Contents) (frame size : ℕ) → size ≡ length dump.file → frame_offset size dump.segments frame ≡ None → None ≡ words_of_dump dump frame
unfolding words_of_dump
no_words dump frame size long lacks =
    sym (ap (λ place. cond (is_frame frame) (option_map (words_at dump.cleared dump.file) place) None) (ap (λ n. frame_offset n dump.segments frame) (sym long) ∙ lacks) ∙ none_either (is_frame frame))

-- a dump has only words of frames
pub no_frame : (dump : Contents) (f : ℕ) → is_frame f ≡ false → words_of_dump dump f ≡ None
unfolding words_of_dump
no_frame dump f lacks = ap (λ b. cond b (option_map (words_at dump.cleared dump.file) (frame_offset (length dump.file) dump.segments f)) None) lacks

pub frame_words : (dump : Contents) (frame size offset : ℕ) (part words : List ℕ) → size ≡ length dump.file → is_frame frame ≡ true → frame_offset size dump.segments frame ≡ Some offset
    → part ≡ bytes_at dump.file offset 4096 → words ≡ words_at dump.cleared part 0 → Some words ≡ words_of_dump dump frame
unfolding words_of_dump
frame_words dump frame size offset part words long is has read told =
    let place : frame_offset (length dump.file) dump.segments frame ≡ Some offset = ap (λ n. frame_offset n dump.segments frame) (sym long) ∙ has in
    let shown = words_shown dump.cleared (bytes_at dump.file offset 4096) dump.file offset (part_shows dump.file offset 4096) in
    ap Some (told ∙ ap (λ bytes. words_at dump.cleared bytes 0) read ∙ shown)
    ∙ sym (ap (λ place. cond (is_frame frame) (option_map (words_at dump.cleared dump.file) place) None) place ∙ ap (λ b. cond {A = Option (List ℕ)} b (Some (words_at dump.cleared dump.file offset)) None) is)

is_some_mapped : {A B : Type 0} (f : A → B) (found : Option A) → is_some found ≡ is_some (option_map f found)
is_some_mapped f None = refl
is_some_mapped f (Some x) = refl

-- a dump has words of a frame if and only if a segment has the frame
pub frame_there : (dump : Contents) (frame size : ℕ) → size ≡ length dump.file → is_frame frame ≡ true → is_some (frame_offset size dump.segments frame) ≡ is_some (words_of_dump dump frame)
unfolding words_of_dump
frame_there dump frame size long is =
    is_some_mapped (words_at dump.cleared dump.file) (frame_offset size dump.segments frame)
    ∙ ap (λ n. is_some (option_map (words_at dump.cleared dump.file) (frame_offset n dump.segments frame))) long
    ∙ sym (ap (λ b. is_some (cond {A = Option (List ℕ)} b (option_map (words_at dump.cleared dump.file) (frame_offset (length dump.file) dump.segments frame)) None)) is)

pub aligned_frame : (frame : ℕ) → frame % 4096 ≡ 0 → frame < 2 ^ 52 → is_frame frame ≡ true
aligned_frame frame aligned below = eq-eqb (address frame) frame (address-multiple frame aligned below)

-- the offset of a frame leaves room for its bytes
pub offset_inside : (file_length : ℕ) (segments : List Segment) (frame : ℕ) → IfSome (frame_offset file_length segments frame) (λ offset. offset + 4096 ≤ file_length)
unfolding frame_offset
offset_inside file_length [] frame = tt
offset_inside file_length (s ∷ l) frame = by (has_frame file_length frame s) refl (offset_inside file_length l frame)
  where
    by : (b : Bool) → has_frame file_length frame s ≡ b
        → IfSome (option_map (λ segment. offset_in segment frame) (find (has_frame file_length frame) l)) (λ offset. offset + 4096 ≤ file_length)
        → IfSome (option_map (λ segment. offset_in segment frame) (cond b (Some s) (find (has_frame file_length frame) l))) (λ offset. offset + 4096 ≤ file_length)
    by true has later = leb-true _ _ (and_parts (is_memory s && nat_le s.address frame && nat_le (frame + 4096) (s.address + s.size)) (nat_le (offset_in s frame + 4096) file_length) has).1
    by false lacks later = later

-- so it is below 2^64, by the stretches too
pub offset_below : (file_length : ℕ) (segments : List Segment) (frame : ℕ) (found : Option ℕ) → found ≡ frame_offset file_length segments frame → file_length < 2 ^ 64
    → IfSome found (λ offset. offset < 2 ^ 64)
offset_below file_length segments frame found is short = below found (let P : Option ℕ → Type 0 = λ o. IfSome o (λ offset. offset + 4096 ≤ file_length) in subst P (sym is) (offset_inside file_length segments frame))
  where
    below : (o : Option ℕ) → IfSome o (λ offset. offset + 4096 ≤ file_length) → IfSome o (λ offset. offset < 2 ^ 64)
    below None inside = tt
    below (Some offset) inside = omega (arith, inside, short)
