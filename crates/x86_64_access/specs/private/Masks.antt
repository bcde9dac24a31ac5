-- The bits of the masks of an access, and what they decide.
use Rattle.std.specs.Prelude.{◌≡◌, ◌==◌, ℕ, ◌-◌, ◌^◌, ◌&&◌, ◌||◌, not, Bool, cond, bit_and}
use Rattle.x86_64_model.specs.Access.{Access, Controls, Kind, Read, Write, Fetch, access_allowed, reserved}
use Rattle.x86_64_model.specs.Entry.{present}
use Rattle.x86_64_access.specs.private.Walking.{may_read_on, rights_by}
use Rattle.x86_64_access.specs.declared.masks.Masks.{Masks}

-- The bit NO_EXECUTE if EFER.NXE is off, so that the bit is reserved, and otherwise none.
abbrev pub off_bits : Controls → ℕ
off_bits c = cond c.no_execute 0 0x8000_0000_0000_0000

-- The bit GLOBAL if some levels reserve it, and otherwise none.
abbrev pub global_bits : Controls → ℕ
global_bits c = cond c.global_reserved 0x100 0

-- The address bits of an entry that the processor lacks, by its number of bits of physical addresses.
abbrev pub high_bits : Controls → ℕ
high_bits c = bit_and 0x000f_ffff_ffff_f000 (2 ^ 64 - 2 ^ c.physical_bits)

-- The bit of the right that an access of this kind needs, or none if it needs no right: WRITABLE for a write, or the right to
-- execute, at the place of NO_EXECUTE, for a fetch.
abbrev pub kind_bits : Controls → Access → Kind → ℕ
kind_bits c a Read = 0
kind_bits c a Write = cond (a.user || c.write_protect) 0x2 0
kind_bits c a Fetch = cond c.no_execute 0x8000_0000_0000_0000 0

-- The bit USER_ACCESSIBLE if a user asks, and otherwise none.
abbrev pub user_bits : Bool → ℕ
user_bits user = cond user 0x4 0

-- The bit USER_ACCESSIBLE if a supervisor asks who is kept from users' pages, and otherwise none.
abbrev pub kept_bits : (user kept : Bool) → ℕ
kept_bits user kept = cond (not user && kept) 0x4 0

-- What goes through by masks is what the processor lets through: words of tables, words of pages, and rights.
pub record Decides (c : Controls) (a : Access) (masks : Masks) : Type 0 where
  pub table : (word : ℕ) → (bit_and word masks.table == 1) ≡ may_read_on c word
  pub page : (word : ℕ) → (bit_and word masks.page == 1) ≡ (present word && not (reserved c 1 word))
  pub giant : masks.no_1gib_pages ≡ c.no_1gib_pages
  pub rights : (bits : ℕ) → (bit_and bits masks.asked == masks.needed) ≡ access_allowed c a (rights_by bits)
