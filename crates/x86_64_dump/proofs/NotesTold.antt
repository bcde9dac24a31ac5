-- NotesTold: the notes that are read one by one are the notes of the segments.
use Rattle.std.proofs.Common.{◌≡◌, ℕ, zero, suc, ◌+◌, ◌-◌, ◌/◌, ◌<◌, Bool, true, false, cond, List, [], ◌∷◌, ◌++◌, length, refl, ap, sym, ◌∙◌, arith, nat_le, le-leb, ⊎_elim}
use Rattle.std.specs.List.{filter, flat_map, take_while}
use Rattle.std.proofs.lemmas.Bool.{lt-leb, cases_lt}
use Rattle.std.proofs.lemmas.List.Sums.{take_while-cons}
use Rattle.x86_64_dump.specs.Numbers.{u32_at}
use Rattle.x86_64_dump.specs.Notes.{is_kind, padded, note_at, notes_from, note_ends_by, notes_between, notes_in, notes_size, fitting}
use Rattle.x86_64_dump.specs.private.NotesLeft.{is_whole, if_kept, kept_notes, notes_left_in, notes_within}
use Rattle.x86_64_dump.specs.declared.note.Note.{Note}
use Rattle.x86_64_dump.specs.declared.note.NoteKind.{NoteKind}
use Rattle.x86_64_dump.specs.declared.segment.Segment.{Segment}
use Rattle.x86_64_dump.proofs.NotesRead.{no_kept_notes}

shifted : (at size left : ℕ) → nat_le (at + size) (at + left) ≡ nat_le size left
shifted at size left = ⊎_elim
    (λ less. lt-leb (at + size) (at + left) (omega arith) ∙ sym (lt-leb size left less))
    (λ fits. le-leb (at + size) (at + left) (omega arith) ∙ sym (le-leb size left fits))
    (cases_lt left size)

ends_if_whole : (file : List ℕ) (at left : ℕ) → note_ends_by (at + left) (note_at file at) ≡ is_whole file at left
unfolding note_at is_whole
ends_if_whole file at left = ap (λ n. nat_le n (at + left)) (omega arith) ∙ shifted at (12 + padded (u32_at file at) + u32_at file (at + 4)) left

ends_after_start : (file : List ℕ) (at end : ℕ) → end < at → note_ends_by end (note_at file at) ≡ false
unfolding note_at
ends_after_start file at end past = lt-leb _ _ (omega arith)

-- the notes of a kind among some notes, up to the first note that ends after an offset
kept_until : (kind : NoteKind) → (end : ℕ) → List Note → List Note
kept_until kind end notes = filter (λ note. is_kind note.kind kind) (take_while (note_ends_by end) notes)

joined : (b : Bool) (note : Note) (rest : List Note) → cond b (note ∷ rest) rest ≡ cond b (note ∷ []) [] ++ rest
joined true note rest = refl
joined false note rest = refl

filtered : (kind : NoteKind) (note : Note) (notes : List Note) → filter (λ n. is_kind n.kind kind) (note ∷ notes) ≡ if_kept kind note ++ filter (λ n. is_kind n.kind kind) notes
filtered kind note notes = joined (is_kind note.kind kind) note (filter (λ n. is_kind n.kind kind) notes)

until_ended : (kind : NoteKind) (end : ℕ) (note : Note) (notes : List Note) → note_ends_by end note ≡ false → kept_until kind end (note ∷ notes) ≡ []
unfolding kept_until
until_ended kind end note notes past =
    ap (filter (λ n. is_kind n.kind kind)) (take_while-cons (note_ends_by end) note notes ∙ ap (λ b. cond {A = List Note} b (note ∷ take_while (note_ends_by end) notes) []) past)

until_next : (kind : NoteKind) (end : ℕ) (note : Note) (notes : List Note) → note_ends_by end note ≡ true → kept_until kind end (note ∷ notes) ≡ if_kept kind note ++ kept_until kind end notes
unfolding kept_until
until_next kind end note notes ends =
    ap (filter (λ n. is_kind n.kind kind)) (take_while-cons (note_ends_by end) note notes ∙ ap (λ b. cond {A = List Note} b (note ∷ take_while (note_ends_by end) notes) []) ends)
    ∙ filtered kind note (take_while (note_ends_by end) notes)

none_until : (kind : NoteKind) (count : ℕ) (file : List ℕ) (at end : ℕ) → end < at → kept_until kind end (notes_from file at count) ≡ []
unfolding kept_until
none_until kind zero file at end past = refl
none_until kind (suc count) file at end past = until_ended kind end (note_at file at) _ (ends_after_start file at end past)

told_if : (kind : NoteKind) (b : Bool) (most : ℕ) (file : List ℕ) (at left : ℕ) → is_whole file at left ≡ b
    → kept_notes kind most file (at + (note_at file at).span) (left - (note_at file at).span) ≡ kept_until kind (at + left) (notes_from file (at + (note_at file at).span) most)
    → kept_notes kind (suc most) file at left ≡ kept_until kind (at + left) (notes_from file at (suc most))
told_if kind true most file at left is later =
    let note = note_at file at in
    ap (λ b. cond {A = List Note} b (if_kept kind note ++ kept_notes kind most file (at + note.span) (left - note.span)) []) is
    ∙ ap (λ notes. if_kept kind note ++ notes) later
    ∙ sym (until_next kind (at + left) note (notes_from file (at + note.span) most) (ends_if_whole file at left ∙ is))
told_if kind false most file at left is later =
    let note = note_at file at in
    ap (λ b. cond {A = List Note} b (if_kept kind note ++ kept_notes kind most file (at + note.span) (left - note.span)) []) is
    ∙ sym (until_ended kind (at + left) note (notes_from file (at + note.span) most) (ends_if_whole file at left ∙ is))

notes_told : (kind : NoteKind) (most : ℕ) (file : List ℕ) (at left : ℕ) → kept_notes kind most file at left ≡ kept_until kind (at + left) (notes_from file at most)
unfolding kept_until
notes_told kind zero file at left = refl
notes_told kind (suc most) file at left =
    let span = (note_at file at).span in
    told_if kind (is_whole file at left) most file at left refl (⊎_elim
    (λ past. no_kept_notes kind most file (at + span) (left - span) (omega arith) ∙ sym (none_until kind most file (at + span) (at + left) (omega arith)))
    (λ fits. notes_told kind most file (at + span) (left - span) ∙ ap (λ end. kept_until kind end (notes_from file (at + span) most)) (omega arith))
    (cases_lt left span))

segment_told : (kind : NoteKind) (file : List ℕ) (segment : Segment) → notes_left_in kind file segment ≡ notes_in kind file segment
unfolding notes_left_in notes_between kept_until
segment_told kind file segment =
    let size = notes_size (length file) segment in
    let counted : size ≡ segment.offset + size - segment.offset = omega arith in
    notes_told kind (size / 12) file segment.offset size ∙ ap (λ n. kept_until kind (segment.offset + size) (notes_from file segment.offset (n / 12))) counted

by_room : (kind : NoteKind) (b : Bool) (file : List ℕ) (segment : Segment) (rest : List Segment) (own later : List Note) → own ≡ notes_in kind file segment → later ≡ flat_map (notes_in kind file) rest
    → cond b (own ++ later) [] ≡ flat_map (notes_in kind file) (cond b (segment ∷ rest) [])
by_room kind true file segment rest own later here told = cc
by_room kind false file segment rest own later here told = refl

pub within_told : (kind : NoteKind) (room : ℕ) (file : List ℕ) (segments : List Segment) → notes_within kind room file segments ≡ flat_map (notes_in kind file) (fitting room (notes_size (length file)) segments)
within_told kind room file [] = refl
within_told kind room file (segment ∷ segments) =
    let size = notes_size (length file) segment in
    by_room kind (nat_le size room) file segment (fitting (room - size) (notes_size (length file)) segments) (notes_left_in kind file segment) (notes_within kind (room - size) file segments)
    (segment_told kind file segment) (within_told kind (room - size) file segments)
