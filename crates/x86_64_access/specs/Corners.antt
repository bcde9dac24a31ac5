-- Worked cases of accesses that readers of the manual ask about.
-- Intel SDM vol. 3A, "Access Rights", "Page-Fault Exceptions".
use Rattle.std.specs.Prelude.{◌≡◌, ℕ, ◌≤◌, ◌^◌, ◌==◌, ◌&&◌, ◌||◌, nat_le, Bool, true, false, not, Some, bit_and}
use Rattle.x86_64_model.specs.Access.{Access, Controls, Faults, Fetch, Read, Write, access, access_allowed, code, low_bits, reserved}
use Rattle.x86_64_model.specs.Entry.{address, global, huge, no_execute, present}
use Rattle.x86_64_model.specs.Mappings.{Rights}
use Rattle.x86_64_model.specs.Memory.{Words}
use Rattle.x86_64_model.specs.PageWalk.{read}
use Rattle.x86_64_model.specs.Position.{index}

-- ---- the first word that is read

-- The word e is the one that the processor reads first for position p (the number of an address counted without the non-canonical
-- gap): that of the root's table, which is of level L.
abbrev pub ReadsFirst : (L : ℕ) → Words → (root p word : ℕ) → Type 0
ReadsFirst L T root p e = (1 ≤ L) × (Some e ≡ read T root (index L p))

-- If the first word that is read isn't present, the access faults with P = 0, whatever the words below are.
abbrev pub MissingEntriesFault : Type 0
MissingEntriesFault = (L : ℕ) (c : Controls) (T : Words) (root p e : ℕ) (a : Access)
    → ReadsFirst L T root p e → present e ≡ false → access L c T root p a ≡ Faults (code c a false false) L

-- If the first word that is read is present and has a reserved bit, the access faults with P and RSVD, whatever the words below
-- are.
abbrev pub ReservedBitsFault : Type 0
ReservedBitsFault = (L : ℕ) (c : Controls) (T : Words) (root p e : ℕ) (a : Access)
    → ReadsFirst L T root p e → present e ≡ true → reserved c L e ≡ true → access L c T root p a ≡ Faults (code c a true true) L

-- While EFER.NXE is off, NO_EXECUTE (bit 63) is a reserved bit: if the first word that is read is present and has it, the access
-- faults with P and RSVD, also for a read or a write.
abbrev pub NoExecuteIsReserved : Type 0
NoExecuteIsReserved = (L : ℕ) (c : Controls) (T : Words) (root p e : ℕ) (a : Access)
    → ReadsFirst L T root p e → present e ≡ true → no_execute e ≡ true → c.no_execute ≡ false
    → access L c T root p a ≡ Faults (code c a true true) L

-- Without pages of 1GiB, HUGE_PAGE is a reserved bit at level three: if the first word that is read is of that level, is present and
-- has it, the access faults with P and RSVD.
abbrev pub HugeIsReserved : Type 0
HugeIsReserved = (c : Controls) (T : Words) (root p e : ℕ) (a : Access)
    → ReadsFirst 3 T root p e → present e ≡ true → huge e ≡ true → c.no_1gib_pages ≡ true
    → access 3 c T root p a ≡ Faults (code c a true true) 3

-- To a processor that reserves GLOBAL (bit 8) in the entries of levels four and five, it is a reserved bit there: if the first word
-- that is read is of such a level, is present and has it, the access faults with P and RSVD.
abbrev pub GlobalIsReserved : Type 0
GlobalIsReserved = (L : ℕ) (c : Controls) (T : Words) (root p e : ℕ) (a : Access) → 4 ≤ L
    → ReadsFirst L T root p e → present e ≡ true → global e ≡ true → c.global_reserved ≡ true
    → access L c T root p a ≡ Faults (code c a true true) L

-- To a processor that has pages of 1GiB and that reserves GLOBAL nowhere, reserved are: address bits that it lacks; HUGE_PAGE above
-- level three; the low address bits of a 2MiB or 1GiB page; and NO_EXECUTE while EFER.NXE is off.
abbrev pub OthersAreReserved : Type 0
OthersAreReserved = (c : Controls) (level e : ℕ) → c.no_1gib_pages ≡ false → c.global_reserved ≡ false
    → reserved c level e ≡ (nat_le (2 ^ c.physical_bits) (address e) || (huge e && (nat_le 4 level || not (bit_and e (low_bits level) == 0)))
    || (no_execute e && not c.no_execute))

-- ---- a supervisor's accesses

-- The rights of a page: whether it may be written, is a user's, and may be executed.
abbrev pub rights : (write user execute : Bool) → Rights
rights w u x = record { write = w; user = u; execute = x }

-- A supervisor writes to its own pages that lack WRITABLE if and only if CR0.WP is off.
abbrev pub SupervisorsWrite : Type 0
SupervisorsWrite = (c : Controls) (execute : Bool)
    → access_allowed c (record { kind = Write; user = false }) (rights false false execute) ≡ not c.write_protect

-- With SMAP a supervisor reads a user's pages if and only if EFLAGS.AC is on.
abbrev pub SmapKeepsOut : Type 0
SmapKeepsOut = (c : Controls) (write execute : Bool) → c.smap ≡ true
    → access_allowed c (record { kind = Read; user = false }) (rights write true execute) ≡ c.ac

-- A supervisor fetches from a user's page that may be executed if and only if SMEP is off.
abbrev pub SmepKeepsOut : Type 0
SmepKeepsOut = (c : Controls) (write : Bool)
    → access_allowed c (record { kind = Fetch; user = false }) (rights write true true) ≡ not c.smep
