-- What a list of mappings says about a segment that is loaded with pages of 4KiB.
use Rattle.std.specs.Prelude.{◌≡◌, ◌+◌, ◌*◌, ◌<◌, ◌≤◌, ℕ, true, false, List, Some}
use Rattle.std.specs.List.{find}
use Rattle.x86_64_loader.specs.declared.segment.Segment.{Segment}
use Rattle.x86_64_model.specs.Entry.{writable, user, no_execute, flags}
use Rattle.x86_64_model.specs.Mappings.{Mapping, has_position}
use Rattle.x86_64_tables.specs.PageTableFlags.{bits_of}

-- The list has the mapping of this 4KiB page to a frame with these flags, which is found at each position of the page. The
-- mapping allows writes and user code if and only if the flags do, and doesn't allow execution if they have NO_EXECUTE.
pub record IsListed (mappings : List Mapping) (page to given : ℕ) : Type 0 where
  pub mapping : Mapping
  pub found : (p : ℕ) → page ≤ p → p < page + 0x1000 → find (has_position p) mappings ≡ Some mapping
  pub start : mapping.start ≡ page
  pub size : mapping.size ≡ 0x1000
  pub frame : mapping.frame ≡ to
  pub flags : mapping.flags ≡ flags given
  pub write : mapping.rights.write ≡ writable given
  pub user : mapping.rights.user ≡ user given
  pub execute : no_execute given ≡ true → mapping.rights.execute ≡ false

-- each page of the segment is listed
abbrev pub AreListed : List Mapping → Segment → Type 0
AreListed mappings s = (k : ℕ) → k < s.pages → IsListed mappings (s.page + k * 0x1000) (s.frame + k * 0x1000) (bits_of s.flags)
