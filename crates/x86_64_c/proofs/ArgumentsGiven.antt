-- What is wrong with arguments, once the hierarchy is right.
use Rattle.std.proofs.Common.{◌≡◌, ◌⊎◌, ⊎_elim, ◌≤◌, ◌==◌, ◌||◌, ℕ, true, Option, None, List, [], ◌∷◌, length, refl, rules, sym, ap, ◌∙◌}
use Rattle.std.specs.FinMap.{len}
use Rattle.std.proofs.lemmas.Bool.{le-leb}
use Rattle.x86_64_model.specs.Memory.{IsMapping}
use Rattle.x86_64_tables.specs.FrameSegments.{are_in_order}
use Rattle.x86_64_tables.specs.LentMemory.{numbered, tables_in_order}
use Rattle.x86_64_tables.specs.Shifted.{shifted_is_mapping}
use Rattle.x86_64_tables.specs.declared.phys_memory.frame_segment.FrameSegment.{FrameSegment}
use Rattle.x86_64_tables.specs.private.SegmentLaws.{segments_are_mapping}
use Rattle.x86_64_tables.proofs.NumberedTables.{in_order-numbered, len-numbered}
use Rattle.x86_64_c.specs.Arguments.{bad_hierarchy, places_by, places_given}
use Rattle.x86_64_c.specs.PoolCalls.{bad_pool}
use Rattle.x86_64_c.specs.declared.arguments.Hierarchy.{Hierarchy}

-- a right hierarchy has four or five levels
pub four_or_five : (h : Hierarchy) (n : ℕ) → bad_hierarchy h n ≡ None → (h.levels ≡ 4) ⊎ (h.levels ≡ 5)
four_or_five h n good = search rules

pub else_five : (levels : ℕ) → (levels ≡ 4) ⊎ (levels ≡ 5) → (levels ≡ 4 → ⊥) → levels ≡ 5
else_five levels which other = ⊎_elim (λ four. absurd (other four)) (λ five. five) which

-- so what is tested of the levels holds
pub right_levels : (levels : ℕ) → (levels ≡ 4) ⊎ (levels ≡ 5) → ((levels == 4) || (levels == 5)) ≡ true
right_levels levels which = ⊎_elim (λ four. rw four refl) (λ five. rw five refl) which

-- and segments in order
pub segments_right : (h : Hierarchy) (n : ℕ) → bad_hierarchy h n ≡ None → are_in_order h.segments.now ≡ true
segments_right h n good = search rules

-- whose places are a mapping of frames
by_is_mapping : (first : ℕ) (segments : List FrameSegment) → are_in_order segments ≡ true → IsMapping (places_by first segments)
by_is_mapping first [] order = shifted_is_mapping first
by_is_mapping first (segment ∷ others) order = segments_are_mapping (segment ∷ others) order

pub given_is_mapping : (h : Hierarchy) → are_in_order h.segments.now ≡ true → IsMapping (places_given h)
given_is_mapping h order = by_is_mapping h.first h.segments.now order

-- the tables of a memory over a slice, in order, are the slice
pub handed_back : (ts : List (List ℕ)) → tables_in_order (numbered ts) ≡ ts
handed_back = in_order-numbered

-- a memory over a slice has a place for each table
pub counted : (ts : List (List ℕ)) → len (numbered ts) ≡ length ts
counted = len-numbered

-- so a call that leaves the memory leaves the tables
pub kept : (ts us : List (List ℕ)) → numbered us ≡ numbered ts → us ≡ ts
kept ts us same = sym (handed_back us) ∙ ap tables_in_order same ∙ handed_back ts

-- with room for the free frames only what else is asked can be wrong
pub with_room : (free capacity : ℕ) (other : Option ℕ) → free ≤ capacity → bad_pool free capacity other ≡ other
with_room free capacity other room = rw (le-leb free capacity room) refl
