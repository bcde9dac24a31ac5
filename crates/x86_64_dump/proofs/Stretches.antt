-- The search among stretches, and the stretches of segments.
use Rattle.std.proofs.Common.{◌≡◌, ℕ, zero, suc, ◌≤◌, ◌<◌, ◌+◌, ◌^◌, true, false, cond, List, [], ◌∷◌, ◌++◌, Option, None, Some, length, get_or, nat_le, refl, ap, ap₂, sym, subst, ◌∙◌, arith}
use Rattle.std.specs.List.{find, fold}
use Rattle.std.specs.Option.{option_map, option_or}
use Rattle.std.proofs.lemmas.List.Folds.{find-append}
use Rattle.std.specs.List.{AllAdjacentBelow}
use Rattle.std.specs.List.Sorted.{IsNonDecreasingBy}
use Rattle.std.proofs.lemmas.List.Sorted.{IsNonDecreasingBy-from_all_adjacent}
use Rattle.x86_64_dump.specs.declared.search.Place.{Place}
use Rattle.x86_64_dump.specs.declared.search.Stretch.{Stretch}
use Rattle.x86_64_dump.specs.private.Search.{place_of, offset_from, offset_at, place_after, BeginFrom, AreInOrder, AreMerged, FindFirst}
use Rattle.x86_64_dump.specs.Dump.{has_frame, frame_offset, offset_in}
use Rattle.x86_64_dump.specs.declared.segment.Segment.{Segment}

in_order_adjacent : (r : ℕ) (l : List Stretch) → BeginFrom r l → AllAdjacentBelow (λ s t. s.from ≤ t.from) l (length l)
in_order_adjacent r [] begin k d below = let never : ⊥ = omega (arith, below) in absurd never
in_order_adjacent r (s ∷ []) begin k d below = let never : ⊥ = omega (arith, below) in absurd never
in_order_adjacent r (s ∷ t ∷ l) begin zero d below = begin.1.0
in_order_adjacent r (s ∷ t ∷ l) begin (suc k) d below =
    let P : ℕ → Type 0 = λ n. (get_or (t ∷ l) k d).from ≤ (get_or (s ∷ t ∷ l) n d).from in
    let next : suc (k + 1) ≡ suc k + 1 = omega arith in
    subst P next (in_order_adjacent s.from (t ∷ l) begin.1 k d (omega (arith, below)))

pub not_falling : (l : List Stretch) → AreInOrder l → IsNonDecreasingBy (λ s. s.from) l
not_falling l order = IsNonDecreasingBy-from_all_adjacent (λ s. s.from) l (in_order_adjacent 0 l order)

-- no stretch begins at an address or before it
pub none_begins : (x : ℕ) (p : Option Place) (l : List Stretch) → ((i : ℕ) (d : Stretch) → i < length l → nat_le (get_or l i d).from x ≡ false) → fold (place_after x) p l ≡ p
none_begins x p [] later = refl
none_begins x p (s ∷ l) later = ap (λ b. fold (place_after x) (cond b s.place p) l) (later 0 s (omega arith)) ∙ none_begins x p l (λ i d below. later (suc i) d (omega (arith, below)))

-- a stretch is the last that begins at an address or before it
pub last_begins : (x : ℕ) (p : Option Place) (l : List Stretch) (m : ℕ) (d : Stretch) → m < length l → ((i : ℕ) (d : Stretch) → i ≤ m → nat_le (get_or l i d).from x ≡ true)
    → ((i : ℕ) (d : Stretch) → m < i → i < length l → nat_le (get_or l i d).from x ≡ false) → fold (place_after x) p l ≡ (get_or l m d).place
last_begins x p [] m d within before later = let never : ⊥ = omega (arith, within) in absurd never
last_begins x p (s ∷ l) zero d within before later =
    ap (λ b. fold (place_after x) (cond b s.place p) l) (before 0 s (omega arith)) ∙ none_begins x s.place l (λ i d below. later (suc i) d (omega arith) (omega (arith, below)))
last_begins x p (s ∷ l) (suc m) d within before later =
    ap (λ b. fold (place_after x) (cond b s.place p) l) (before 0 s (omega arith))
    ∙ last_begins x s.place l m d (omega (arith, within)) (λ i d low. before (suc i) d (omega (arith, low))) (λ i d low below. later (suc i) d (omega (arith, low)) (omega (arith, below)))

or_mapped : {A B : Type 0} (f : A → B) (one other : Option A) → option_or (option_map f one) (option_map f other) ≡ option_map f (option_or one other)
or_mapped f None other = refl
or_mapped f (Some a) other = refl

-- the merged stretches of two halves are those of the whole
pub halves_merged : (file_length : ℕ) (segments front back : List Segment) (F B merged : List Stretch) → segments ≡ front ++ back
    → FindFirst file_length front F → FindFirst file_length back B → AreMerged F B merged → FindFirst file_length segments merged
halves_merged file_length segments front back F B merged halved in_front in_back are frame below =
    are frame
    ∙ ap₂ option_or (in_front frame below) (in_back frame below)
    ∙ or_mapped place_of (find (has_frame file_length frame) front) (find (has_frame file_length frame) back)
    ∙ ap (option_map place_of) (sym (find-append (has_frame file_length frame) front back))
    ∙ ap (λ l. option_map place_of (find (has_frame file_length frame) l)) (sym halved)

offset_mapped : (frame : ℕ) (found : Option Segment) → option_map (offset_from frame) (option_map place_of found) ≡ option_map (λ segment. offset_in segment frame) found
offset_mapped frame None = refl
offset_mapped frame (Some segment) = refl

-- the offsets by the stretches are those in the first segments
pub offsets_found : (file_length : ℕ) (segments : List Segment) (stretches : List Stretch) → FindFirst file_length segments stretches
    → (frame : ℕ) → frame < 2 ^ 52 → offset_at stretches frame ≡ frame_offset file_length segments frame
unfolding frame_offset
offsets_found file_length segments stretches found frame below =
    ap (option_map (offset_from frame)) (found frame below) ∙ offset_mapped frame (find (has_frame file_length frame) segments)
