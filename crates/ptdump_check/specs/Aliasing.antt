-- Aliasing: the first mappings of each frame, after some of the mappings, and the aliases by them.
use Rattle.std.specs.Prelude.{◌≡◌, ℕ, ◌+◌, ◌-◌, ◌%◌, ◌==◌, ◌≤◌, ◌<◌, ◌&&◌, ◌++◌, Bool, not, cond, nat_eq, nat_lt, List, find, Option, None, Some, option_and_then}
use Rattle.std.specs.HashMap.{get}
use Rattle.std.specs.List.{AllByRecursion}
use Rattle.std.specs.Option.{option_or}
use Rattle.x86_64_model.specs.Laws.Mappings.{InOrder}
use Rattle.x86_64_model.specs.Mappings.{Mapping, Rights}
use Rattle.x86_64_model.specs.Position.{position_count, raw}
use Rattle.x86_64_model.specs.Regions.{same_rights}
use Rattle.x86_64_tables.specs.Translations.{frame_size, frame_start}
use Rattle.x86_64_tables.specs.declared.translation.MappedFrame.{MappedFrame}
use Rattle.x86_64_tables.specs.declared.translation.MappedFrame.TheVariants.{Size4KiB, Size2MiB, Size1GiB}
use Rattle.ptdump_check.specs.declared.first_mappings.FirstMappings.{FirstMappings}
use Rattle.ptdump_check.specs.declared.first_mappings.Firsts.{Firsts}
use Rattle.ptdump_check.specs.declared.findings.aliased.Aliased.{Aliased}

-- ---- frames

-- The frame starts at a multiple of its size.
abbrev pub IsAligned : MappedFrame → Type 0
IsAligned frame = frame_start frame % frame_size frame ≡ 0

-- A number that is different for each frame of 4KiB, 2MiB or 1GiB that starts at a multiple of its size.
abbrev pub frame_key : MappedFrame → ℕ
frame_key (Size4KiB start) = start + 1
frame_key (Size2MiB start) = start + 2
frame_key (Size1GiB start) = start + 3

-- The 2MiB frame that contains a physical address.
abbrev pub in_2mib : (address : ℕ) → MappedFrame
in_2mib a = Size2MiB (a - a % 0x20_0000)

-- The 1GiB frame that contains a physical address.
abbrev pub in_1gib : (address : ℕ) → MappedFrame
in_1gib a = Size1GiB (a - a % 0x4000_0000)

-- A mapping leads to a frame, which starts at a multiple of its size.
pub record MapsFrame (m : Mapping) (frame : MappedFrame) : Type 0 where
  pub size : m.size ≡ frame_size frame
  pub start : m.frame ≡ frame_start frame
  pub aligned : IsAligned frame

-- A mapping leads to some frame of 4KiB, 2MiB or 1GiB, which starts at a multiple of its size.
abbrev pub MapsAPage : Mapping → Type 0
MapsAPage m = (frame : MappedFrame) × MapsFrame m frame

-- ---- mappings of a frame

-- Whether a start and a size in bytes are those of a frame.
abbrev pub is_same_frame : MappedFrame → (start size : ℕ) → Bool
is_same_frame frame start size = (size == frame_size frame) && (start == frame_start frame)

-- Whether a mapping leads to a frame with rights that differ from these.
abbrev pub is_other : MappedFrame → Rights → Mapping → Bool
is_other frame rights n = is_same_frame frame n.frame n.size && not (same_rights rights n.rights)

-- The first mapping of a frame with rights that differ from these, or None if there is none. It is found by the frame's first
-- mapping and its first one whose rights differ from those of the first.
abbrev pub other_in : {X : Type 0} → Rights → Firsts X → Option Mapping
other_in rights firsts = cond (same_rights rights firsts.first.rights) firsts.other (Some firsts.first)

-- The first mappings of a frame after one more mapping of it: the frame's first mapping, and its first one whose rights differ from
-- those of the first.
abbrev pub noted : {X : Type 0} → Option (Firsts X) → Mapping → Firsts X
noted None m = record { first = m; other = None }
noted (Some firsts) m = record {
  first = firsts.first;
  other = option_or firsts.other (cond (same_rights firsts.first.rights m.rights) None (Some m));
}

-- The first mapping of a frame with rights that differ from these, by the first mappings of all frames, or None if there is none.
abbrev pub other_at : {X : Type 0} → FirstMappings X → MappedFrame → Rights → Option Mapping
other_at firsts frame rights = option_and_then (other_in rights) (get nat_eq firsts.firsts (frame_key frame))

-- ---- after some of the mappings

-- The first mappings of all frames are those among these mappings, each of which leads to a frame.
pub record AreFirstsAfter {X : Type 0} (firsts : FirstMappings X) (ms : List Mapping) : Type 0 where
  pub pages : AllByRecursion MapsAPage ms
  pub others : (frame : MappedFrame) → IsAligned frame → (rights : Rights) → other_at firsts frame rights ≡ find (is_other frame rights) ms

-- The first mappings of all frames change as more mappings are visited: if those before are the first among some mappings, those
-- after are the first among these and more.
abbrev pub TakesFirsts : {X : Type 0} → (old new : FirstMappings X) → (more : List Mapping) → Type 0
TakesFirsts old new more = (ms : List Mapping) → AreFirstsAfter old ms → AreFirstsAfter new (ms ++ more)

-- ---- the first alias

-- A mapping, if there is one and it starts before a position, or else None.
abbrev pub before : (position : ℕ) → Option Mapping → Option Mapping
before p None = None
before p (Some n) = cond (nat_lt n.start p) (Some n) None

-- That of two mappings which starts first, and the mapping m if both start at one position. If one is None, it is the other.
abbrev pub earlier : (m n : Option Mapping) → Option Mapping
earlier None n = n
earlier (Some m) None = Some m
earlier (Some m) (Some n) = cond (nat_lt n.start m.start) (Some n) (Some m)

-- The first alias of a mapping that leads to a frame with rights r and starts at the position p, by the first mappings of all
-- frames: the first mapping with other rights whose frame contains this one, and is larger or starts before p.
abbrev pub alias_by : {X : Type 0} → FirstMappings X → MappedFrame → Rights → (start : ℕ) → Option Mapping
alias_by firsts (Size4KiB f) r p =
    earlier (earlier (before p (other_at firsts (Size4KiB f) r)) (other_at firsts (in_2mib f) r)) (other_at firsts (in_1gib f) r)
alias_by firsts (Size2MiB f) r p = earlier (before p (other_at firsts (Size2MiB f) r)) (other_at firsts (in_1gib f) r)
alias_by firsts (Size1GiB f) r p = before p (other_at firsts (Size1GiB f) r)

-- The frame of the mapping m with two virtual addresses, and the rights at each: the one at which m starts, and the one in its
-- alias n that leads to the frame, taken modulo the size of the address space, so that any two mappings have one.
abbrev pub aliased_by : (L : ℕ) → (m n : Mapping) → Aliased
aliased_by L m n = record {
  frame = m.frame;
  at = record { address = raw L m.start; rights = m.rights };
  other = record { address = raw L ((n.start + (m.frame - n.frame)) % position_count L); rights = n.rights };
}

-- The first mappings of all frames are those among these mappings, which lie one behind the other within the address space of L
-- levels of tables.
pub record AreOfAll {X : Type 0} (L : ℕ) (firsts : FirstMappings X) (ms : List Mapping) : Type 0 where
  pub after : AreFirstsAfter firsts ms
  pub order : InOrder (λ m n. (m.start < n.start) × (m.start + m.size ≤ n.start)) ms
  pub fit : AllByRecursion (λ m. m.start + m.size ≤ position_count L) ms
