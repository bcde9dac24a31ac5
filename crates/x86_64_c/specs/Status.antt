-- The statuses that calls return: what was done, or why not. Numbers from 16 on say what is wrong with an argument.
use Rattle.std.specs.Prelude.{ℕ}

-- The call was done, or the test passed.
abbrev pub ok : ℕ
ok = 0

-- The address isn't mapped, or the last entry of a walk lacks PRESENT.
abbrev pub not_mapped : ℕ
not_mapped = 1

-- There are more mappings, or more pages, than the array has room for.
abbrev pub more : ℕ
more = 2

-- The hierarchy isn't valid, or the pool doesn't fit it.
abbrev pub not_valid : ℕ
not_valid = 3

-- The call's condition does not hold, and nothing changed.
abbrev pub not_allowed : ℕ
not_allowed = 4

-- More tables are missing on the way to a page than the pool has free frames, or a new space finds no free frame.
abbrev pub frame_allocation_failed : ℕ
frame_allocation_failed = 5

-- An entry above the page has HUGE_PAGE, or the page's own entry has it or lacks it otherwise than the entries of pages of its
-- size.
abbrev pub parent_entry_huge_page : ℕ
parent_entry_huge_page = 6

-- The entry of a page that is to be mapped isn't 0.
abbrev pub page_already_mapped : ℕ
page_already_mapped = 7

-- There is no page to unmap or to change, or no such entry.
abbrev pub page_not_mapped : ℕ
page_not_mapped = 8

-- The address in a page's entry isn't a multiple of the page's size.
abbrev pub invalid_frame_address : ℕ
invalid_frame_address = 9

-- The access ends in a page fault.
abbrev pub page_fault : ℕ
page_fault = 10

-- The table in a frame on the way to an address isn't in the array.
abbrev pub no_table : ℕ
no_table = 11

-- An entry of the root that isn't shared is used.
abbrev pub space_in_use : ℕ
space_in_use = 12

-- The entry names a table.
abbrev pub has_table : ℕ
has_table = 13

-- The number of levels is neither 4 nor 5, or there is no such level.
abbrev pub bad_levels : ℕ
bad_levels = 16

-- The root isn't the address of a frame with a table in the array.
abbrev pub bad_root : ℕ
bad_root = 17

-- An array is too short: the pool for its free frames, or one for marks or entries.
abbrev pub bad_array : ℕ
bad_array = 18

-- The virtual address isn't canonical.
abbrev pub bad_address : ℕ
bad_address = 19

-- The size of a page isn't one of the three, or its start is no canonical multiple of it, or the pages of a range don't end in one
-- half of the address space.
abbrev pub bad_page : ℕ
bad_page = 20

-- The address of a frame isn't a multiple of the page's size below 2^52, or the frames of a range don't end at 2^52 or below.
abbrev pub bad_frame : ℕ
bad_frame = 21

-- The kind of an access isn't one of the three, or the number of bits of physical addresses isn't from 32 to 52.
abbrev pub bad_access : ℕ
bad_access = 22

-- Shared indices are out of order, or one is above 511.
abbrev pub bad_indices : ℕ
bad_indices = 23

-- The segments are out of order, overlap, have a place twice, or reach 2^64.
abbrev pub bad_segments : ℕ
bad_segments = 24
