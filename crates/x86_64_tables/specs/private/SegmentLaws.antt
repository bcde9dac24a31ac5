-- Segments in order are a frame mapping: distinct frames that they have, have distinct places.
use Rattle.std.specs.Prelude.{◌≡◌, ◌/◌, ◌+◌, ◌<◌, ◌≤◌, ◌&&◌, ◌⊎◌, ◌^◌, ℕ, true, false, cond, nat_le, nat_lt, List, [], ◌∷◌, Some, is_some}
use Rattle.std.specs.List.{find, list_all}
use Rattle.std.specs.Option.{option_map, unwrap_or}
use Rattle.std.proofs.Common.{refl, sym, arith, inl, inr}
use Rattle.std.proofs.lemmas.Bool.{and_parts, or_cases, leb-true, ltb-true, false≢true}
use Rattle.x86_64_model.specs.Entry.{is_frame}
use Rattle.x86_64_model.proofs.Lemmas.Entries.Bits.{same_frame}
use Rattle.x86_64_model.specs.Memory.{IsMapping}
use Rattle.x86_64_tables.specs.FrameSegments.{has_number, place_in, segment_place, segment_places, may_precede, have_other_places, are_in_order}
use Rattle.x86_64_tables.specs.declared.phys_memory.frame_segment.FrameSegment.{FrameSegment}

-- The number of a frame that a segment has lies between the segment's ends.
pub number_inside : (x : ℕ) (s : FrameSegment) → has_number x s ≡ true → (s.first ≤ x) × (x < s.first + s.count)
number_inside x s has =
    let parts = and_parts (nat_le s.first x) (nat_lt x (s.first + s.count)) has in
    (leb-true s.first x parts.0, ltb-true x (s.first + s.count) parts.1)

-- A place is outside of a segment's places.
abbrev pub IsElsewhere : (place : ℕ) → FrameSegment → Type 0
IsElsewhere place s = (place < s.place) ⊎ (s.place + s.count ≤ place)

-- A segment that may precede another has none of its places.
pub elsewhere : (s t : FrameSegment) (x : ℕ) → may_precede s t ≡ true → has_number x t ≡ true → IsElsewhere (place_in x t) s
elsewhere s t x before has = by (or_cases (nat_le (s.place + s.count) t.place) (nat_le (t.place + t.count) s.place) apart)
  where
    apart : have_other_places s t ≡ true
    apart = (and_parts (nat_le (s.first + s.count) t.first) (have_other_places s t) before).1

    by : (nat_le (s.place + s.count) t.place ≡ true) ⊎ (nat_le (t.place + t.count) s.place ≡ true) → IsElsewhere (place_in x t) s
    by (inl h) = let ends = leb-true (s.place + s.count) t.place h in inr (omega arith)
    by (inr h) =
        let ends = leb-true (t.place + t.count) s.place h in
        let inside = number_inside x t has in
        inl (omega arith)

-- The place of a frame in segments that a segment may precede is none of this segment's.
pub all_elsewhere : (s : FrameSegment) (others : List FrameSegment) (x : ℕ) → list_all (may_precede s) others ≡ true
    → is_some (segment_place others x) ≡ true → IsElsewhere (unwrap_or (segment_place others x) 0) s
all_elsewhere s [] x before there = absurd (false≢true there)
all_elsewhere s (t ∷ others) x before there =
    let parts = and_parts (may_precede s t) (list_all (may_precede s) others) before in
    elim (has_number x t) as (λ b. has_number x t ≡ b → is_some (option_map (place_in x) (cond b (Some t) (find (has_number x) others))) ≡ true
    → IsElsewhere (unwrap_or (option_map (place_in x) (cond b (Some t) (find (has_number x) others))) 0) s) [
      | true ↦ λ has h. elsewhere s t x parts.0 has
      | false ↦ λ has h. all_elsewhere s others x parts.1 h
    ] refl there

same_inside : (s : FrameSegment) (x y : ℕ) → has_number x s ≡ true → has_number y s ≡ true → place_in x s ≡ place_in y s → x ≡ y
same_inside s x y one other e =
    let a = number_inside x s one in
    let b = number_inside y s other in
    omega arith

never_both : (s : FrameSegment) (x place : ℕ) → has_number x s ≡ true → IsElsewhere place s → place_in x s ≡ place → ⊥
never_both s x place has (inl h) e = let a = number_inside x s has in omega arith
never_both s x place has (inr h) e = let a = number_inside x s has in omega arith

-- Frames with the same place in segments in order have the same number.
pub same_number : (segments : List FrameSegment) (x y : ℕ) → are_in_order segments ≡ true
    → is_some (segment_place segments x) ≡ true → is_some (segment_place segments y) ≡ true
    → unwrap_or (segment_place segments x) 0 ≡ unwrap_or (segment_place segments y) 0 → x ≡ y
same_number [] x y order a b e = absurd (false≢true a)
same_number (s ∷ others) x y order a b e =
    let parts = and_parts (nat_lt (s.first + s.count) (2 ^ 64) && nat_lt (s.place + s.count) (2 ^ 64) && list_all (may_precede s) others) (are_in_order others) order in
    let before = and_parts (nat_lt (s.first + s.count) (2 ^ 64) && nat_lt (s.place + s.count) (2 ^ 64)) (list_all (may_precede s) others) parts.0 in
    elim (has_number x s) as (λ p. has_number x s ≡ p → is_some (option_map (place_in x) (cond p (Some s) (find (has_number x) others))) ≡ true
    → unwrap_or (option_map (place_in x) (cond p (Some s) (find (has_number x) others))) 0 ≡ unwrap_or (segment_place (s ∷ others) y) 0 → x ≡ y) [
      | true ↦ λ has a e. elim (has_number y s) as (λ q. has_number y s ≡ q → is_some (option_map (place_in y) (cond q (Some s) (find (has_number y) others))) ≡ true
          → place_in x s ≡ unwrap_or (option_map (place_in y) (cond q (Some s) (find (has_number y) others))) 0 → x ≡ y) [
            | true ↦ λ other b e. same_inside s x y has other e
            | false ↦ λ other b e. absurd (never_both s x (unwrap_or (segment_place others y) 0) has (all_elsewhere s others y before.1 b) e)
          ] refl b e
      | false ↦ λ has a e. elim (has_number y s) as (λ q. has_number y s ≡ q → is_some (option_map (place_in y) (cond q (Some s) (find (has_number y) others))) ≡ true
          → unwrap_or (segment_place others x) 0 ≡ unwrap_or (option_map (place_in y) (cond q (Some s) (find (has_number y) others))) 0 → x ≡ y) [
            | true ↦ λ other b e. absurd (never_both s y (unwrap_or (segment_place others x) 0) other (all_elsewhere s others x before.1 a) (sym e))
            | false ↦ λ other b e. same_number others x y parts.1 a b e
          ] refl b e
    ] refl a e

-- Segments in order map frames: only frames are covered, and distinct ones have distinct places.
pub segments_are_mapping : (segments : List FrameSegment) → are_in_order segments ≡ true → IsMapping (segment_places segments)
segments_are_mapping segments order = record {
  frames = λ f h. (and_parts (is_frame f) (is_some (segment_place segments (f / 4096))) h).0;
  distinct = λ f g a b e.
      let p = and_parts (is_frame f) (is_some (segment_place segments (f / 4096))) a in
      let q = and_parts (is_frame g) (is_some (segment_place segments (g / 4096))) b in
      same_frame f g p.0 q.0 (same_number segments (f / 4096) (g / 4096) order p.1 q.1 e);
}
