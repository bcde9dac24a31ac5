-- Path maps that are alike: equal except for WRITABLE of table entries, as happens if one of two mappers adds flags to new
-- tables.
use Rattle.std.specs.Prelude.{◌≡◌, ◌⊎◌, ℕ, ◌<◌, ◌&&◌, nat_lt, Bool, true, false, List, length, Option, bit_and}
use Rattle.x86_64_model.specs.Position.{lower_half, page_path}
use Rattle.x86_64_model.specs.Entry.{names_table}
use Rattle.x86_64_model.specs.Path.{path_at}
use Rattle.x86_64_model.specs.PathMap.{PathMap, entry}
use Rattle.x86_64_model.specs.Window.{Window, begins_with}
use Rattle.x86_64_model.specs.Call.{Call, MapTo, MapToWithTableFlags, IdentityMap, Unmap, UpdateFlags, SetFlags, TranslatePage, Translate, TranslateAddress, CleanUp}

-- The entry with its flag WRITABLE cleared.
abbrev pub without_writable : (entry : ℕ) → ℕ
without_writable e = bit_and e 0xffff_ffff_ffff_fffd

-- Both entries name a table, present or not, and they differ at most in WRITABLE.
pub record AlikeTables (e f : ℕ) : Type 0 where
  pub one_names : names_table e ≡ true
  pub other_names : names_table f ≡ true
  pub same_else : without_writable e ≡ without_writable f

-- Two path maps of hierarchies of L levels are alike: at each path the entries are equal, or both name a table and differ at most
-- in WRITABLE.
abbrev pub Alike : (L : ℕ) → PathMap → PathMap → Type 0
Alike L m n = (q : List ℕ) → (entry m q ≡ entry n q) ⊎ ((length q < L) × AlikeTables (entry m q) (entry n q))

-- Whether a call names a page or an address in the recursive window. An identity map does so only if its frame lies below the
-- middle of the address space, and a clean up never does.
abbrev pub names_index : (L : ℕ) → Option Window → Call → Bool
names_index L window (MapTo level page frame given) = begins_with window (path_at L level page)
names_index L window (MapToWithTableFlags level page frame given parent_flags) = begins_with window (path_at L level page)
names_index L window (IdentityMap level frame given) = nat_lt frame (lower_half L) && begins_with window (path_at L level frame)
names_index L window (Unmap level page) = begins_with window (path_at L level page)
names_index L window (UpdateFlags level page given) = begins_with window (path_at L level page)
names_index L window (SetFlags at level page given) = begins_with window (path_at L level page)
names_index L window (TranslatePage level page) = begins_with window (path_at L level page)
names_index L window (Translate p) = begins_with window (page_path L p)
names_index L window (TranslateAddress p) = begins_with window (page_path L p)
names_index L window (CleanUp low high) = false
