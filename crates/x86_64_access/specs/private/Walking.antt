-- An access from a frame's table on, by the rights that the words above it grant.
use Rattle.std.specs.Prelude.{◌≡◌, ◌^◌, ◌&&◌, ◌||◌, not, nat_lt, Bool, ℕ, List, None}
use Rattle.std.specs.List.{last_or}
use Rattle.x86_64_model.specs.Access.{Access, Controls, Outcome, Arrives, reserved, steps_from, ends_by, until}
use Rattle.x86_64_model.specs.Entry.{has, present, huge, global, no_execute, address}
use Rattle.x86_64_model.specs.Mappings.{Rights, maps_page}
use Rattle.x86_64_model.specs.Steps.{rights_in}
use Rattle.x86_64_model.specs.Memory.{Words}
use Rattle.x86_64_tables.specs.Rights.{both}
use Rattle.x86_64_access.specs.Paths.{steps_along}

-- The outcome of an access at position p (the number of an address counted without the non-canonical gap), from a frame's table of
-- a level down, if the words above grant these rights.
unfoldable pub access_on : Controls → Words → (p : ℕ) → Access → (level frame : ℕ) → Rights → Outcome
access_on c T p a level frame r = let steps = steps_from c T p level frame in
    ends_by c a p (both r (rights_in steps)) frame (last_or None steps)

-- The outcome of an access at position p (the number of an address counted without the non-canonical gap), if the processor reads these
-- words one after another, from a frame's table of a level down, and the words above grant these rights.
unfoldable pub along_on : Controls → (p : ℕ) → Access → (level frame : ℕ) → Rights → (words : List ℕ) → Outcome
along_on c p a level frame r words = let steps = until (λ s. reserved c s.level s.word) (steps_along p level frame words) in
    ends_by c a p (both r (rights_in steps)) frame (last_or None steps)

-- Whether the processor reads on in the table that a word of this level names: the word is present, has no reserved bit, and maps
-- no page.
abbrev pub reads_on : Controls → (level word : ℕ) → Bool
reads_on c level e = present e && not (reserved c level e) && not (maps_page level e)

-- Whether the processor reads on in the table that a word names at any level, if the word maps no page: it is present and has no bit
-- that is reserved at some level.
unfoldable pub may_read_on : Controls → (word : ℕ) → Bool
may_read_on c e = (present e && (not (huge e) && (nat_lt (address e) (2 ^ c.physical_bits) && (c.no_execute || not (no_execute e)))))
    && not (c.global_reserved && global e)

-- The rights that a number stands for by its bits: WRITABLE, USER_ACCESSIBLE, and, at the place of NO_EXECUTE, the right to
-- execute.
abbrev pub rights_by : (bits : ℕ) → Rights
rights_by bits = record { write = has bits 0x2; user = has bits 0x4; execute = has bits 0x8000_0000_0000_0000 }

-- For some rights granted by the words above, an access at position p (the number of an address counted without the non-canonical
-- gap) arrives from a frame's table of a level on.
abbrev pub ArrivesFrom : Controls → Words → (p : ℕ) → Access → (level frame : ℕ) → Type 0
ArrivesFrom c T p a level frame = (r : Rights) × (to : ℕ) × (access_on c T p a level frame r ≡ Arrives to)
