-- What a caller hands in: which hierarchy it is, and which status says what is wrong with it.
use Rattle.std.specs.Prelude.{◌≡◌, ℕ, ◌-◌, ◌%◌, ◌^◌, ◌==◌, ◌&&◌, ◌||◌, nat_le, nat_lt, Bool, cond, List, [], ◌∷◌, Option, Some, None}
use Rattle.std.specs.Option.{option_or}
use Rattle.x86_64_model.specs.Hierarchy as mapper
use Rattle.x86_64_model.specs.Memory.{Memory, Places}
use Rattle.x86_64_model.specs.Position.{lower_half, position_count}
use Rattle.x86_64_mappers.specs.Layouts.{owned_at}
use Rattle.x86_64_tables.specs.FrameSegments.{are_in_order, segment_places}
use Rattle.x86_64_tables.specs.LentMemory.{numbered}
use Rattle.x86_64_tables.specs.Shifted.{shifted_places}
use Rattle.x86_64_tables.specs.declared.phys_memory.frame_segment.FrameSegment.{FrameSegment}
use Rattle.x86_64_c.specs.Status as status
use Rattle.x86_64_c.specs.declared.arguments.Hierarchy.{Hierarchy}
use Rattle.x86_64_c.specs.declared.arguments.Located.{Located}
use Rattle.x86_64_c.specs.declared.arguments.AnyPage.{AnyPage}
use Rattle.x86_64_c.specs.declared.arguments.AnyPage.TheVariants.{Of4KiB, Of2MiB, Of1GiB}
use Rattle.x86_64_c.specs.declared.arguments.Page.{Page}

-- The places of frames in an array of tables. Without segments table i is that of the frame of number first + i, and with some each
-- says which tables its frames have.
abbrev pub places_by : (first : ℕ) → List FrameSegment → Places
places_by first [] = shifted_places first
places_by first (segment ∷ others) = segment_places (segment ∷ others)

-- The places of frames in the caller's tables.
abbrev pub places_given : Hierarchy → Places
places_given h = places_by h.first h.segments.now

-- The hierarchy in the caller's tables.
abbrev pub hierarchy_in : Hierarchy → (tables : List (List ℕ)) → mapper.Hierarchy (Unit {0})
hierarchy_in h tables = owned_at h.levels (places_given h) h.root (numbered tables) tt

-- The located hierarchy in a memory, with this number of levels, whose frames lie where these places of its mapping say.
abbrev pub at : {P : Type 0} → (places : P → Places) → (levels : ℕ) → Located P → Memory → mapper.Hierarchy (Unit {0})
at places levels located memory = owned_at levels (places located.mapping) located.root memory tt

-- This status if a test fails, and otherwise none.
abbrev pub unless : (test : Bool) → (status : ℕ) → Option ℕ
unless test s = cond test None (Some s)

-- Whether a frame of a size starts at a physical address.
abbrev pub starts_frame : (size start : ℕ) → Bool
starts_frame size f = nat_lt f (2 ^ 52) && (f % size == 0)

-- Whether the 4KiB frame at an address has one of so many tables.
abbrev pub frame_has_table : Places → (count frame : ℕ) → Bool
frame_has_table places count f = starts_frame 4096 f && (places.covers f && nat_lt (places.place f) count)

-- What is wrong with the address of a root, with these places of frames and so many tables.
abbrev pub wrong_root : Places → (count root : ℕ) → Option ℕ
wrong_root places count root = unless (frame_has_table places count root) status.bad_root

-- What is wrong with segments.
abbrev pub wrong_segments : List FrameSegment → Option ℕ
wrong_segments segments = unless (are_in_order segments) status.bad_segments

-- What is wrong with a hierarchy in an array of so many tables: its number of levels, or else its segments, or else its root.
abbrev pub bad_hierarchy : Hierarchy → (count : ℕ) → Option ℕ
bad_hierarchy h count =
    option_or (unless ((h.levels == 4) || (h.levels == 5)) status.bad_levels)
    (option_or (wrong_segments h.segments.now) (wrong_root (places_given h) count h.root))

-- Whether a raw value of 64 bits is canonical.
abbrev pub is_canonical : (L value : ℕ) → Bool
is_canonical L n = nat_lt n (lower_half L) || nat_le (2 ^ 64 - lower_half L) n

-- What is wrong with a virtual address.
abbrev pub wrong_address : (L address : ℕ) → Option ℕ
wrong_address L a = unless (is_canonical L a) status.bad_address

-- What is wrong with the hierarchy in an array of so many tables, or else with the virtual address, of a call that reads at an
-- address.
abbrev pub bad_read : Hierarchy → (count address : ℕ) → Option ℕ
bad_read h count a = option_or (bad_hierarchy h count) (wrong_address h.levels a)

-- What is wrong with the number of marks of a test. It needs one for each table.
abbrev pub bad_marks : (tables marks : ℕ) → Option ℕ
bad_marks n marks = unless (nat_le n marks) status.bad_array

-- What is wrong with a hierarchy in an array of so many tables, or else with the number of marks, of a test of validity.
abbrev pub wrong_test : Hierarchy → (count marks : ℕ) → Option ℕ
wrong_test h count marks = option_or (bad_hierarchy h count) (bad_marks count marks)

-- What is wrong with a number of free frames in an array with so many entries, or with the number of marks of a test over so many
-- tables.
abbrev pub bad_room : (free capacity tables marks : ℕ) → Option ℕ
bad_room free capacity n marks = unless (nat_le free capacity && nat_le n marks) status.bad_array

-- What is wrong with the arguments of a test of a pool: the hierarchy in an array of so many tables, or else the room for free
-- frames and marks.
abbrev pub bad_fit : Hierarchy → (count capacity free marks : ℕ) → Option ℕ
bad_fit h count capacity free marks = option_or (bad_hierarchy h count) (bad_room free capacity count marks)

-- The position of an address: its lowest 48 bits with four levels, its lowest 57 with five.
abbrev pub position_of : (L address : ℕ) → ℕ
position_of L a = a % position_count L

-- ---- pages

-- Whether pages have this size in bytes: 4KiB, 2MiB or 1GiB.
abbrev pub is_size : (size : ℕ) → Bool
is_size size = (size == 0x1000) || (size == 0x20_0000) || (size == 0x4000_0000)

-- Whether a page of a size starts at an address. Sizes divide 2^48, so the address is a multiple of one if its position is.
abbrev pub starts_page : (L size start : ℕ) → Bool
starts_page L size start = is_canonical L start && (position_of L start % size == 0)

-- What is wrong with a page with L levels: its size, or its start.
abbrev pub wrong_page : (L : ℕ) → Page → Option ℕ
wrong_page L page = unless (is_size page.size && starts_page L page.size page.start) status.bad_page

-- What is wrong with the addresses of the first and the last page of a range, with L levels: each has to be that of a 4KiB page.
abbrev pub wrong_ends : (L first last : ℕ) → Option ℕ
wrong_ends L first last = unless (starts_page L 0x1000 first && starts_page L 0x1000 last) status.bad_page

-- The level of the entries that map pages of a size: one for 4KiB, two for 2MiB, and three for 1GiB.
abbrev pub level_of_page_size : (size : ℕ) → ℕ
level_of_page_size size = cond (size == 0x1000) 1 (cond (size == 0x20_0000) 2 3)

-- The level of the entry that maps a page: one for 4KiB, two for 2MiB, and three for 1GiB.
abbrev pub any_level : {L : Type 0} → AnyPage L → ℕ
any_level (Of4KiB p) = 1
any_level (Of2MiB p) = 2
any_level (Of1GiB p) = 3

-- The position of the start of a page of any size.
abbrev pub any_position : {L : Type 0} → AnyPage L → ℕ
any_position (Of4KiB p) = p
any_position (Of2MiB p) = p
any_position (Of1GiB p) = p

-- An entry of this level maps pages of the size of a page, and this is the position of its start.
pub record IsPageOf (L : ℕ) (page : Page) (level position : ℕ) : Type 0 where
  pub level_is : level ≡ level_of_page_size page.size
  pub position_is : position ≡ position_of L page.start

-- What is wrong with the address of a frame of a size.
abbrev pub wrong_frame : (size frame : ℕ) → Option ℕ
wrong_frame size frame = unless (starts_frame size frame) status.bad_frame
