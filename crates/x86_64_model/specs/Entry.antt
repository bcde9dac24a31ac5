-- Entries: the words of page tables. Bits 12 to 51 hold an address, and every other bit is a flag.
-- Intel SDM vol. 3A, "Formats of paging-structure entries"; AMD APM vol. 2, "Long-Mode Page Translation".
use Rattle.std.specs.Prelude.{◌≡◌, ℕ, ◌==◌, ◌&&◌, Bool, not, bit_and}

-- Whether an entry has all bits of a mask.
unfoldable pub has : (entry mask : ℕ) → Bool
has entry mask = bit_and entry mask == mask

-- Whether the entry has PRESENT, without which the processor doesn't use it.
abbrev pub present : (entry : ℕ) → Bool
present entry = has entry 0x1

-- Whether the entry has WRITABLE, so that it allows writes.
abbrev pub writable : (entry : ℕ) → Bool
writable entry = has entry 0x2

-- Whether the entry has USER_ACCESSIBLE, so that it allows accesses from user mode.
abbrev pub user : (entry : ℕ) → Bool
user entry = has entry 0x4

-- Whether the entry has HUGE_PAGE, the PS bit, with which an entry above level one maps a page instead of
-- naming a table.
abbrev pub huge : (entry : ℕ) → Bool
huge entry = has entry 0x80

-- Whether the entry has GLOBAL, so that the page that it maps may become a global translation.
abbrev pub global : (entry : ℕ) → Bool
global entry = has entry 0x100

-- Whether the entry has NO_EXECUTE, so that no instruction is fetched through it.
abbrev pub no_execute : (entry : ℕ) → Bool
no_execute entry = has entry 0x8000_0000_0000_0000

-- The address that an entry holds, its bits 12 to 51.
unfoldable pub address : (entry : ℕ) → ℕ
address entry = bit_and entry 0x000f_ffff_ffff_f000

-- The flags of an entry, all its bits but 12 to 51.
unfoldable pub flags : (entry : ℕ) → ℕ
flags entry = bit_and entry 0xfff0_0000_0000_0fff

-- Whether a number is the address of a 4KiB frame: it has no bits but the address bits, 12 to 51.
abbrev pub is_frame : (frame : ℕ) → Bool
is_frame frame = address frame == frame

-- Whether an entry is used, present or not: it is any word but 0, which is the absent entry.
unfoldable pub used : (entry : ℕ) → Bool
used entry = not (entry == 0)

-- Whether an entry is used and lacks HUGE_PAGE. Above level one it names a table then, present or not.
abbrev pub names_table : (entry : ℕ) → Bool
names_table entry = used entry && not (huge entry)

-- Whether flags have no address bits, 12 to 51.
abbrev pub no_address : (flags : ℕ) → Bool
no_address given = address given == 0

-- The flags may be given to an entry above a page: they have no address bits and no HUGE_PAGE.
pub record IsParentFlags (given : ℕ) : Type 0 where
  pub no_address : address given ≡ 0
  pub not_huge : bit_and given 0x80 ≡ 0

-- Two entries lead to the same table or page, with the same rights: they differ at most in ACCESSED, DIRTY,
-- and bits that no page walk reads.
pub record LeadAlike (e f : ℕ) : Type 0 where
  pub same_used : used f ≡ used e
  pub same_present : present f ≡ present e
  pub same_huge : huge f ≡ huge e
  pub same_address : address f ≡ address e
  pub same_write : writable f ≡ writable e
  pub same_user : user f ≡ user e
  pub same_execute : no_execute f ≡ no_execute e
