-- NotesRead: the bytes that are read of a note determine it, and notes are read one by one.
use Rattle.std.proofs.Common.{◌≡◌, ℕ, zero, suc, ◌+◌, ◌-◌, ◌/◌, ◌≤◌, ◌<◌, Bool, true, false, cond, List, [], ◌∷◌, ◌++◌, Option, Some, None, Result, Ok, Err, length, refl, ap, sym, ◌∙◌, arith, nat_lt, nat_le, le-leb, append-nil, append_assoc, add-one, drop, take, min, ⊎_elim}
use Rattle.std.proofs.lemmas.Bool.{cases_lt, lt-leb, lt-ltb, le-ltb}
use Rattle.std.proofs.lemmas.List.{length-drop, take_all}
use Rattle.std.proofs.Math.Nat.{min-eq_left, min-eq_right}
use Rattle.std.proofs.Math.Seq.{take-append_seam}
use Rattle.x86_64_dump.specs.VmCoreInfo.{descriptor_of, text_of}
use Rattle.x86_64_dump.specs.Steps.{and_then}
use Rattle.x86_64_dump.specs.Numbers.{u32_at, u64_at}
use Rattle.x86_64_dump.specs.Source.{bytes_at}
use Rattle.x86_64_dump.specs.Notes.{padded, kind_named, kind_at, note_at, notes_size, is_note_cut, register_of}
use Rattle.x86_64_dump.specs.private.NotesLeft.{is_whole, if_kept, kept_notes, notes_left_in, notes_within}
use Rattle.x86_64_dump.specs.declared.note.Note.{Note}
use Rattle.x86_64_dump.specs.declared.note.NoteKind.{NoteKind}
use Rattle.x86_64_dump.specs.declared.note.NoteKind.TheVariants.{Other}
use Rattle.x86_64_dump.specs.declared.segment.Segment.{Segment}
use Rattle.x86_64_dump.specs.declared.error.Fault.TheVariants as faults
use Rattle.x86_64_dump.specs.declared.error.Fault.{Fault}
use Rattle.x86_64_dump.proofs.Parts.{part_shows, u32_shown, u64_shown}

pub long_name : (file : List ℕ) (at size : ℕ) → size ≡ u32_at file at → 11 < size → Other ≡ kind_at file at
unfolding kind_at
long_name file at size read long =
    sym (ap (λ n. cond (nat_lt 11 n) Other (kind_named (bytes_at file (at + 12) n))) (sym read)
    ∙ ap (λ b. cond b Other (kind_named (bytes_at file (at + 12) size))) (lt-ltb 11 size long))

add_zero : (n : ℕ) → n + 0 ≡ n
add_zero n = omega arith

-- from the bytes of the name
pub name_read : (file name : List ℕ) (at size : ℕ) → size ≡ u32_at file at → size ≤ 11 → name ≡ bytes_at file (at + 12) size → kind_named name ≡ kind_at file at
unfolding kind_at
name_read file name at size read short given =
    ap kind_named given
    ∙ sym (ap (λ n. cond (nat_lt 11 n) Other (kind_named (bytes_at file (at + 12) n))) (sym read)
    ∙ ap (λ b. cond b Other (kind_named (bytes_at file (at + 12) size))) (le-ltb 11 size short))

pub not_whole : (file : List ℕ) (at left name_size size : ℕ) → name_size ≡ u32_at file at → size ≡ u32_at file (at + 4) → left < 12 + padded name_size + size → is_whole file at left ≡ false
unfolding is_whole
not_whole file at left name_size size named sized short =
    ap (λ n. nat_le (12 + padded n + u32_at file (at + 4)) left) (sym named) ∙ ap (λ n. nat_le (12 + padded name_size + n) left) (sym sized) ∙ lt-leb _ _ short

pub whole : (file : List ℕ) (at left name_size size : ℕ) → name_size ≡ u32_at file at → size ≡ u32_at file (at + 4) → 12 + padded name_size + size ≤ left → is_whole file at left ≡ true
unfolding is_whole
whole file at left name_size size named sized fits =
    ap (λ n. nat_le (12 + padded n + u32_at file (at + 4)) left) (sym named) ∙ ap (λ n. nat_le (12 + padded name_size + n) left) (sym sized) ∙ le-leb _ _ fits

pub name_size_read : (file head : List ℕ) (at size : ℕ) → head ≡ bytes_at file at 12 → size ≡ u32_at head 0 → size ≡ u32_at file at
name_size_read file head at size read told =
    told ∙ ap (λ part. u32_at part 0) read ∙ u32_shown _ file 0 at 12 (part_shows file at 12) (omega arith) ∙ ap (u32_at file) (add_zero at)

pub size_read : (file head : List ℕ) (at size : ℕ) → head ≡ bytes_at file at 12 → size ≡ u32_at head 4 → size ≡ u32_at file (at + 4)
size_read file head at size read told = told ∙ ap (λ part. u32_at part 4) read ∙ u32_shown _ file 4 at 12 (part_shows file at 12) (omega arith)

pub too_short : (file : List ℕ) (at left : ℕ) → left < 12 → is_whole file at left ≡ false
too_short file at left short = not_whole file at left _ _ refl refl (omega arith)

pub note_read : (file : List ℕ) (at name_size size : ℕ) (kind : NoteKind) → name_size ≡ u32_at file at → size ≡ u32_at file (at + 4) → kind ≡ kind_at file at
    → record { kind = kind; offset = at + 12 + padded name_size; size = size; span = 12 + padded name_size + padded size } ≡ note_at file at
unfolding note_at
note_read file at name_size size kind named sized is = cc

pub no_note : (file : List ℕ) (at left : ℕ) → is_whole file at left ≡ false → None ≡ cond (is_whole file at left) (Some (note_at file at)) None
no_note file at left lacks = sym (ap (λ b. cond b (Some (note_at file at)) None) lacks)

pub note_found : (file : List ℕ) (at left name_size size : ℕ) (kind : NoteKind) (room found again filled : ℕ) → is_whole file at left ≡ true → name_size ≡ u32_at file at → size ≡ u32_at file (at + 4) → kind ≡ kind_at file at
    → room ≡ padded name_size → found ≡ size → again ≡ padded name_size → filled ≡ padded size
    → Some (record { kind = kind; offset = at + 12 + room; size = found; span = 12 + again + filled }) ≡ cond (is_whole file at left) (Some (note_at file at)) None
note_found file at left name_size size kind room found again filled all named sized is roomy same roomy_again full =
    ap (λ n. Some (record { kind = kind; offset = at + 12 + n; size = found; span = 12 + again + filled })) roomy
    ∙ ap (λ n. Some (record { kind = kind; offset = at + 12 + padded name_size; size = n; span = 12 + again + filled })) same
    ∙ ap (λ n. Some (record { kind = kind; offset = at + 12 + padded name_size; size = size; span = 12 + n + filled })) roomy_again
    ∙ ap (λ n. Some (record { kind = kind; offset = at + 12 + padded name_size; size = size; span = 12 + padded name_size + n })) full
    ∙ ap Some (note_read file at name_size size kind named sized is)
    ∙ sym (ap (λ b. cond b (Some (note_at file at)) None) all)

step_by : (b : Bool) (here note : Note) (next : Note → List Note) → Some note ≡ cond b (Some here) None → cond b (next here) [] ≡ next note
step_by true here note next found = cc
step_by false here note next found = cc

end_by : (b : Bool) (here : Note) (next : List Note) → None ≡ cond b (Some here) None → cond b next [] ≡ []
end_by true here next none = cc
end_by false here next none = refl

pub kept_notes_step : (kind : NoteKind) (most : ℕ) (file : List ℕ) (at left : ℕ) (note : Note) → Some note ≡ cond (is_whole file at left) (Some (note_at file at)) None
    → kept_notes kind (suc most) file at left ≡ if_kept kind note ++ kept_notes kind most file (at + note.span) (left - note.span)
kept_notes_step kind most file at left note found =
    step_by (is_whole file at left) (note_at file at) note (λ n. if_kept kind n ++ kept_notes kind most file (at + n.span) (left - n.span)) found

pub kept_notes_end : (kind : NoteKind) (most : ℕ) (file : List ℕ) (at left : ℕ) (found : Option Note) → found ≡ None → found ≡ cond (is_whole file at left) (Some (note_at file at)) None → kept_notes kind most file at left ≡ []
kept_notes_end kind zero file at left found is read = refl
kept_notes_end kind (suc most) file at left found is read = end_by (is_whole file at left) (note_at file at) _ (sym is ∙ read)

pub no_kept_notes : (kind : NoteKind) (most : ℕ) (file : List ℕ) (at left : ℕ) → left < 12 → kept_notes kind most file at left ≡ []
no_kept_notes kind zero file at left short = refl
no_kept_notes kind (suc most) file at left short =
    ap (λ b. cond b (if_kept kind (note_at file at) ++ kept_notes kind most file (at + (note_at file at).span) (left - (note_at file at).span)) []) (too_short file at left short)

pub register_cut : (file : List ℕ) (note : Note) (at size : ℕ) (cut : Bool) → size ≡ length file → cut ≡ is_note_cut size note at → cut ≡ true → register_of file note at ≡ Err (faults.NoteCut note.offset note.size (at + 8))
unfolding register_of
register_cut file note at size cut long test is =
    ap (λ b. cond b (Err (faults.NoteCut note.offset note.size (at + 8))) (Ok (u64_at file (note.offset + at)))) (ap (λ n. is_note_cut n note at) (sym long) ∙ sym test ∙ is)

pub register_read : (file register : List ℕ) (note : Note) (at size value : ℕ) (cut : Bool) → size ≡ length file → cut ≡ is_note_cut size note at → cut ≡ false → register ≡ bytes_at file (note.offset + at) 8 → value ≡ u64_at register 0
    → register_of file note at ≡ Ok value
unfolding register_of
register_read file register note at size value cut long test is read told =
    ap (λ b. cond b (Err (faults.NoteCut note.offset note.size (at + 8))) (Ok (u64_at file (note.offset + at)))) (ap (λ n. is_note_cut n note at) (sym long) ∙ sym test ∙ is)
    ∙ ap Ok (ap (u64_at file) (sym (add_zero (note.offset + at))) ∙ sym (u64_shown _ file 0 (note.offset + at) 8 (part_shows file (note.offset + at) 8) (omega arith)) ∙ ap (λ bytes. u64_at bytes 0) (sym read) ∙ sym told)

-- if nothing is left to add
pub added_all : (notes rest old all : List Note) → rest ≡ [] → notes ++ rest ≡ old ++ all → ◌≡◌ {A = Result (List Note) Fault} (Ok (old ++ all)) (Ok notes)
added_all notes rest old all none told = ap Ok (sym told ∙ ap (λ left. notes ++ left) none ∙ append-nil notes)

-- after one note is added and its span is passed
pub added_one : (kind : NoteKind) (most next : ℕ) (file : List ℕ) (at left rest : ℕ) (found : Option Note) (note : Note) (notes added all : List Note) → suc next ≡ most → rest ≡ left - note.span
    → found ≡ Some note → found ≡ cond (is_whole file at left) (Some (note_at file at)) None → added ≡ notes ++ if_kept kind note → notes ++ kept_notes kind most file at left ≡ all → added ++ kept_notes kind next file (at + note.span) rest ≡ all
added_one kind most next file at left rest found note notes added all less behind is read pushed told =
    ap (λ items. items ++ kept_notes kind next file (at + note.span) rest) pushed
    ∙ append_assoc notes (if_kept kind note) (kept_notes kind next file (at + note.span) rest)
    ∙ ap (λ n. notes ++ (if_kept kind note ++ kept_notes kind next file (at + note.span) n)) behind
    ∙ ap (λ items. notes ++ items) (sym (kept_notes_step kind next file at left note (sym is ∙ read)))
    ∙ ap (λ n. notes ++ kept_notes kind n file at left) less
    ∙ told

-- the notes after the last segment: none
abbrev pub nothing : Segment
nothing = record { kind = 0; offset = 0; address = 0; size = 0 }

-- if there is room for the notes of the next segment
pub within_step : (kind : NoteKind) (file : List ℕ) (segments : List Segment) (i room size rest : ℕ) (segment : Segment) (notes added all : List Note) → drop i segments ≡ segment ∷ drop (suc i) segments → size ≡ notes_size (length file) segment → size ≤ room → rest ≡ room - size
    → ◌≡◌ {A = Result (List Note) Fault} (Ok (notes ++ kept_notes kind (size / 12) file segment.offset size)) (Ok added) → notes ++ notes_within kind room file (drop i segments) ≡ all → added ++ notes_within kind rest file (drop (i + 1) segments) ≡ all
unfolding notes_left_in
within_step kind file segments i room size rest segment notes added all here sized fits left told before =
    let own = kept_notes kind (size / 12) file segment.offset size in
    let later = notes_within kind rest file (drop (suc i) segments) in
    let more : notes ++ own ≡ added = cc in
    let open_room : nat_le (notes_size (length file) segment) room ≡ true = ap (λ n. nat_le n room) (sym sized) ∙ le-leb _ _ fits in
    let step : notes_within kind room file (segment ∷ drop (suc i) segments) ≡ own ++ later =
    ap (λ b. cond b (kept_notes kind (notes_size (length file) segment / 12) file segment.offset (notes_size (length file) segment) ++ notes_within kind (room - notes_size (length file) segment) file (drop (suc i) segments)) []) open_room
    ∙ ap (λ n. kept_notes kind (n / 12) file segment.offset n ++ notes_within kind (room - n) file (drop (suc i) segments)) (sym sized)
    ∙ ap (λ n. own ++ notes_within kind n file (drop (suc i) segments)) (sym left) in
    ap (λ items. items ++ notes_within kind rest file (drop (i + 1) segments)) (sym more)
    ∙ append_assoc notes own (notes_within kind rest file (drop (i + 1) segments))
    ∙ ap (λ n. notes ++ (own ++ notes_within kind rest file (drop n segments))) (add-one i)
    ∙ ap (λ items. notes ++ items) (sym step)
    ∙ ap (λ after. notes ++ notes_within kind room file after) (sym here)
    ∙ before

-- if there is no room for them
pub within_stop : (kind : NoteKind) (file : List ℕ) (segments : List Segment) (i room size : ℕ) (segment : Segment) (notes all : List Note) → drop i segments ≡ segment ∷ drop (suc i) segments → size ≡ notes_size (length file) segment → room < size
    → notes ++ notes_within kind room file (drop i segments) ≡ all → ◌≡◌ {A = Result (List Note) Fault} (Ok all) (Ok notes)
within_stop kind file segments i room size segment notes all here sized full before =
    let closed : nat_le (notes_size (length file) segment) room ≡ false = ap (λ n. nat_le n room) (sym sized) ∙ lt-leb _ _ full in
    let none : notes_within kind room file (segment ∷ drop (suc i) segments) ≡ [] =
    ap (λ b. cond b (notes_left_in kind file segment ++ notes_within kind (room - notes_size (length file) segment) file (drop (suc i) segments)) []) closed in
    ap Ok (sym before ∙ ap (λ after. notes ++ notes_within kind room file after) here ∙ ap (λ items. notes ++ items) none ∙ append-nil notes)

pub within_end : (kind : NoteKind) (file : List ℕ) (segments : List Segment) (i room : ℕ) (notes all : List Note) → drop i segments ≡ [] → notes ++ notes_within kind room file (drop i segments) ≡ all → ◌≡◌ {A = Result (List Note) Fault} (Ok all) (Ok notes)
within_end kind file segments i room notes all none before = ap Ok (sym before ∙ ap (λ after. notes ++ notes_within kind room file after) none ∙ append-nil notes)

-- the descriptor of a note, of which the file may lack a part
pub descriptor_read : (file : List ℕ) (note : Note) (long size : ℕ) → long ≡ length file → size ≡ min (min note.size 0x1_0000) (long - note.offset) → bytes_at file note.offset size ≡ descriptor_of file note
descriptor_read file note long size counted is =
    let n = min note.size 0x1_0000 in
    let left = length file - note.offset in
    ap (bytes_at file note.offset) (is ∙ ap (λ all. min n (all - note.offset)) counted)
    ∙ ⊎_elim
    (λ less. ap (bytes_at file note.offset) (min-eq_right {n = left} {m = n} (omega (arith, less)))
    ∙ take_all left (drop note.offset file) (omega (arith, length-drop note.offset file))
    ∙ sym (take_all n (drop note.offset file) (omega (arith, less, length-drop note.offset file))))
    (λ fits. ap (bytes_at file note.offset) (min-eq_left {n = n} {m = left} fits))
    (cases_lt left n)

-- the descriptor from a buffer
pub descriptor_whole : (file buffer rest : List ℕ) (note : Note) (long size n : ℕ) → long ≡ length file → size ≡ min (min note.size 0x1_0000) (long - note.offset)
    → buffer ≡ bytes_at file note.offset size → length buffer ≡ n → descriptor_of file note ≡ take n (buffer ++ rest)
descriptor_whole file buffer rest note long size n counted is read filled =
    sym (descriptor_read file note long size counted is) ∙ sym read ∙ sym (ap (λ m. take m (buffer ++ rest)) (sym filled) ∙ take-append_seam buffer rest)

-- the text of a note of which a part was read is this part
pub text_cut : (file : List ℕ) (note : Note) (read : List ℕ) → 0x1_0000 < note.size → ◌≡◌ {A = Result (List ℕ) Fault} (Ok (descriptor_of file note)) (Ok read)
    → ◌≡◌ {A = Result (List ℕ) Fault} (Ok (text_of file note)) (Ok read)
text_cut file note read long is =
    ap (λ b. Ok (descriptor_of file note ++ cond b [] (10 ∷ []))) (lt-ltb 0x1_0000 note.size long) ∙ ap Ok (append-nil (descriptor_of file note)) ∙ is

-- otherwise a line feed is put behind the descriptor
pub text_ended : (file : List ℕ) (note : Note) (read now : List ℕ) → note.size ≤ 0x1_0000 → ◌≡◌ {A = Result (List ℕ) Fault} (Ok (descriptor_of file note)) (Ok read) → now ≡ read ++ 10 ∷ []
    → ◌≡◌ {A = Result (List ℕ) Fault} (Ok (text_of file note)) (Ok now)
text_ended file note read now short is pushed =
    ap (λ b. Ok (descriptor_of file note ++ cond b [] (10 ∷ []))) (le-ltb 0x1_0000 note.size short)
    ∙ ap (λ found. and_then found (λ bytes. Ok (bytes ++ 10 ∷ []))) is ∙ ap Ok (sym pushed)
