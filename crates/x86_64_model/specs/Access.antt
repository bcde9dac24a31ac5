-- Accesses: what a processor does with a read, a write or an instruction fetch at an address, over any words.
-- Intel SDM vol. 3A, "Access Rights", "Page-Fault Exceptions"; AMD APM vol. 2, "Page-Protection Checks", "Page-Fault Exception".
-- Reserved bits: Intel SDM vol. 3A, "Linear-Address Translation with 4-Level Paging and 5-Level Paging"; AMD APM vol. 2,
-- "Page-Translation-Table Entry Fields", "1-Gbyte Paging Support".
-- Left out are protection keys, shadow stacks, and the accesses that a processor makes as a supervisor by itself.
use Rattle.std.specs.Prelude.{ℕ, ◌+◌, ◌*◌, ◌^◌, ◌%◌, ◌==◌, ◌&&◌, ◌||◌, nat_le, Bool, true, false, not, cond, List, [], ◌∷◌, Option, Some, None, option_map, unwrap_or, bit_and, bit_or, get_or, slice_set}
use Rattle.std.specs.FinMap.{get, insert}
use Rattle.std.specs.List.{last_or}
use Rattle.x86_64_model.specs.Position.{span}
use Rattle.x86_64_model.specs.Entry.{present, huge, global, no_execute, address}
use Rattle.x86_64_model.specs.Memory.{Memory, Places, Words}
use Rattle.x86_64_model.specs.Mappings.{Rights, maps_page}
use Rattle.x86_64_model.specs.PageWalk.{page_start}
use Rattle.x86_64_model.specs.Steps.{Step, steps, rights_in}

-- ---- what is asked

-- What an access does: it reads data, writes data, or fetches an instruction.
pub data Kind : Type 0 where
  Read : Kind
  Write : Kind
  Fetch : Kind

-- An access to memory: its kind, and whether it is a user's, made at privilege level 3. All others are a supervisor's.
pub record Access : Type 0 where
  pub kind : Kind
  pub user : Bool

-- What a processor is set to, and has: CR0.WP, EFER.NXE, CR4.SMEP, CR4.SMAP, EFLAGS.AC, the bits of its physical addresses
-- (MAXPHYADDR), whether it lacks pages of 1GiB (CPUID 8000_0001H, EDX bit 26, is clear), and whether GLOBAL is reserved at levels
-- four and five, as on AMD's processors.
pub record Controls : Type 0 where
  pub write_protect : Bool
  pub no_execute : Bool
  pub smep : Bool
  pub smap : Bool
  pub ac : Bool
  pub physical_bits : ℕ
  pub no_1gib_pages : Bool
  pub global_reserved : Bool

-- ---- the words that are read

-- The mask of the address bits that must be 0 in the entry of a large page: bits 13 to 29 at level three (1GiB), bits 13 to 20 at
-- level two (2MiB), and none at any other level. Bit 12 is the PAT bit.
abbrev pub low_bits : (level : ℕ) → ℕ
low_bits level = cond (level == 3) 0x3fff_e000 (cond (level == 2) 0x001f_e000 0)

-- Whether a word of a level has a bit set that only some processors reserve: HUGE_PAGE at level three if there are no pages of 1GiB,
-- or GLOBAL at level four or five if the processor reserves it there. Below, it is ignored in entries that name tables.
abbrev pub reserved_by_some : Controls → (level word : ℕ) → Bool
reserved_by_some c level e = (c.no_1gib_pages && (level == 3) && huge e) || (c.global_reserved && nat_le 4 level && global e)

-- Whether a word of a level has a bit set that is reserved, and so must be 0 in a present word: one that only some processors
-- reserve, an address bit that the processor lacks, HUGE_PAGE above level three, a low address bit of a 2MiB or 1GiB page, or
-- NO_EXECUTE while EFER.NXE is off.
unfoldable pub reserved : Controls → (level word : ℕ) → Bool
reserved c level e = reserved_by_some c level e
    || nat_le (2 ^ c.physical_bits) (address e) || (huge e && (nat_le 4 level || not (bit_and e (low_bits level) == 0)))
    || (no_execute e && not c.no_execute)

-- The front of the list up to its first element that passes the test, this one included, or the whole list if none does.
abbrev pub until : {X : Type 0} → (X → Bool) → List X → List X
until test [] = []
until test (x ∷ xs) = x ∷ cond (test x) [] (until test xs)

-- The words that the processor reads for an access at position p (the number of an address counted without the non-canonical gap),
-- from a frame's table of a level down: those that a page walk reads, up to the first that has a reserved bit set.
unfoldable pub steps_from : Controls → Words → (p level frame : ℕ) → List Step
steps_from c T p level frame = until (λ s. reserved c s.level s.word) (steps T p level frame)

-- ---- what comes of it

-- What comes of an access: it arrives at a physical address, it faults with the error code of a page fault and the level of the
-- last word that was read, or it needs the table in a frame that isn't in memory, which is no fault of a processor.
pub data Outcome : Type 0 where
  Arrives : (address : ℕ) → Outcome
  Faults : (code level : ℕ) → Outcome
  NoMemory : (frame : ℕ) → Outcome

-- Whether a page with these rights may be read, written or executed, apart from whether it is a user's. A supervisor may write to
-- pages without WRITABLE unless CR0.WP is set, and NO_EXECUTE keeps nobody from fetching while EFER.NXE is off.
abbrev pub kind_allowed : Controls → Access → Rights → Kind → Bool
kind_allowed c a r Read = true
kind_allowed c a r Write = r.write || (not a.user && not c.write_protect)
kind_allowed c a r Fetch = r.execute || not c.no_execute

-- Whether a supervisor is kept from users' pages: by SMEP from fetching, and by SMAP from reading and writing unless EFLAGS.AC is
-- set.
abbrev pub kept_out : Controls → Kind → Bool
kept_out c Fetch = c.smep
kept_out c kind = c.smap && not c.ac

-- Whether a page with these rights allows an access: it allows the access's kind, a user needs a user's page, and SMEP or SMAP may
-- keep a supervisor from users' pages.
abbrev pub access_allowed : Controls → Access → Rights → Bool
access_allowed c a r = kind_allowed c a r a.kind && cond a.user r.user (not (r.user && kept_out c a.kind))

-- The bit that stands for a truth value: 1 for true, 0 for false.
abbrev pub bit_of : Bool → ℕ
bit_of b = cond b 1 0

-- Whether the kind of an access is a write.
abbrev pub is_write : Kind → Bool
is_write Write = true
is_write kind = false

-- Whether the kind of an access is an instruction fetch.
abbrev pub is_fetch : Kind → Bool
is_fetch Fetch = true
is_fetch kind = false

-- The error code of a page fault. Bit 0 says that the last word that was read is present, bit 1 that the access is a write, bit 2
-- that it is a user's, bit 3 that a reserved bit is set, and bit 4 that it is a fetch, if EFER.NXE or CR4.SMEP is on.
abbrev pub code : Controls → Access → (present reserved : Bool) → ℕ
code c a here bad = bit_of here + 2 * bit_of (is_write a.kind) + 4 * bit_of a.user + 8 * bit_of bad + 16 * bit_of (is_fetch a.kind && (c.no_execute || c.smep))

-- The outcome of an access at position p if this word is the last one that the processor reads, and all words that it reads grant
-- these rights together.
abbrev pub ends_at : Controls → Access → (p : ℕ) → Rights → Step → Outcome
ends_at c a p r s =
    cond (not (present s.word)) (Faults (code c a false false) s.level)
    (cond (reserved c s.level s.word) (Faults (code c a true true) s.level)
    (cond (not (maps_page s.level s.word)) (NoMemory (address s.word))
    (cond (not (access_allowed c a r)) (Faults (code c a true false) s.level)
    (Arrives (page_start s.level s.word + p % span s.level)))))

-- The outcome of an access at position p by the last word that the processor reads, if there is one, and the rights that all words
-- grant. If none is read, the root's table isn't in memory.
abbrev pub ends_by : Controls → Access → (p : ℕ) → Rights → (root : ℕ) → Option Step → Outcome
ends_by c a p r root None = NoMemory root
ends_by c a p r root (Some s) = ends_at c a p r s

-- The outcome of an access at position p for which the processor reads these words, from the root's table down.
abbrev pub outcome : Controls → Access → (p root : ℕ) → List Step → Outcome
outcome c a p root steps = ends_by c a p (rights_in steps) root (last_or None steps)

-- What a processor does with an access at position p (the number of an address counted without the non-canonical gap), by L levels
-- of tables below a root.
unfoldable pub access : (L : ℕ) → Controls → Words → (root p : ℕ) → Access → Outcome
access L c T root p a = outcome c a p root (steps_from c T p L root)

-- ---- what it leaves

-- The bits that the processor sets in a word of a level over which an access arrives: ACCESSED, and DIRTY too if the access is a
-- write and the word maps its page.
abbrev pub bits_to_set : Kind → (level word : ℕ) → ℕ
bits_to_set kind level e = cond (is_write kind && maps_page level e) 0x60 0x20

-- The memory after the bits of a mask are set in the word at an index of a frame.
abbrev pub set_bits : Places → (frame index bits : ℕ) → Memory → Memory
set_bits places frame i bits m = let k = places.place frame in
    unwrap_or (option_map (λ table. insert m k (slice_set table i (bit_or (get_or table i 0) bits))) (get m k)) m

-- The memory after an access of this kind has arrived over these words: each has ACCESSED, and the one that maps the page of a
-- write has DIRTY too.
unfoldable pub marked : Places → Kind → List Step → Memory → Memory
marked places kind [] m = m
marked places kind (s ∷ steps) m = set_bits places s.frame s.index (bits_to_set kind s.level s.word) (marked places kind steps m)

-- The memory after an access of this kind with this outcome, for which the processor read these words. Only an access that arrives
-- changes it.
abbrev pub memory_after : Places → Kind → List Step → Outcome → Memory → Memory
memory_after places kind steps (Arrives to) m = marked places kind steps m
memory_after places kind steps outcome m = m
