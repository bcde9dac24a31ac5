-- Segments of frames, by which a memory with holes is mapped.
use Rattle.std.specs.Prelude.{◌≡◌, ◌/◌, ◌+◌, ◌-◌, ◌^◌, ◌<◌, ◌&&◌, ◌||◌, ℕ, Bool, true, false, nat_le, nat_lt, List, [], ◌∷◌, length, take, Option, is_some}
use Rattle.std.specs.List.{find, list_all}
use Rattle.std.specs.Option.{option_map, unwrap_or}
use Rattle.x86_64_model.specs.Entry.{is_frame}
use Rattle.x86_64_model.specs.Memory.{Places}
use Rattle.x86_64_tables.specs.declared.phys_memory.frame_segment.FrameSegment.{FrameSegment}

-- Whether a segment has the frame with a number.
abbrev pub has_number : (number : ℕ) → FrameSegment → Bool
has_number number segment = nat_le segment.first number && nat_lt number (segment.first + segment.count)

-- The place of the frame with a number in a segment that has it.
abbrev pub place_in : (number : ℕ) → FrameSegment → ℕ
place_in number segment = segment.place + (number - segment.first)

-- The place of the frame with a number in the first of the segments that has it, or None if none has it.
abbrev pub segment_place : List FrameSegment → (number : ℕ) → Option ℕ
segment_place segments number = option_map (place_in number) (find (has_number number) segments)

-- The mapping of each frame that a segment has to its place in the first segment that has it. Other frames have no place.
abbrev pub segment_places : List FrameSegment → Places
segment_places segments = record {
  covers = λ f. is_frame f && is_some (segment_place segments (f / 4096));
  place = λ f. unwrap_or (segment_place segments (f / 4096)) 0;
}

-- Whether the numbers behind a segment's last frame and behind its last place are below 2^64.
abbrev pub ends_below_limit : FrameSegment → Bool
ends_below_limit segment = nat_lt (segment.first + segment.count) (2 ^ 64) && nat_lt (segment.place + segment.count) (2 ^ 64)

-- Whether no place is in both segments: those of one come before those of the other.
abbrev pub have_other_places : (one other : FrameSegment) → Bool
have_other_places one other = nat_le (one.place + one.count) other.place || nat_le (other.place + other.count) one.place

-- Whether a segment may come before another: its frames end where the other's begin, or before, and no place is in both.
abbrev pub may_precede : (one other : FrameSegment) → Bool
may_precede one other = nat_le (one.first + one.count) other.first && have_other_places one other

-- Whether segments are in order: each ends below the limit, and may come before each of those that follow.
abbrev pub are_in_order : List FrameSegment → Bool
are_in_order [] = true
are_in_order (segment ∷ others) = ends_below_limit segment && list_all (may_precede segment) others && are_in_order others

-- The segments before an index are in order, and with the one at the index they aren't.
pub record IsFirstWrong (segments : List FrameSegment) (index : ℕ) : Type 0 where
  pub there : index < length segments
  pub before : are_in_order (take index segments) ≡ true
  pub wrong : are_in_order (take (index + 1) segments) ≡ false

-- The first of the segments, or one without frames.
abbrev pub front_of : List FrameSegment → FrameSegment
front_of [] = record { first = 0; count = 0; place = 0 }
front_of (segment ∷ others) = segment
