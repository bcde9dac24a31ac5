-- What an access is asked for, and what comes of it.
use Rattle.std.specs.Prelude.{◌≡◌, ℕ, ◌==◌, ◌&&◌, nat_le, nat_lt, Bool, cond, List, Option}
use Rattle.std.specs.Option.{option_or}
use Rattle.x86_64_model.specs.Access as model
use Rattle.x86_64_model.specs.Access.{Access, Kind, Read, Write, Fetch, Arrives, Faults, NoMemory}
use Rattle.x86_64_model.specs.Hierarchy.{Hierarchy, PoolFits, words}
use Rattle.x86_64_model.specs.Memory.{Memory}
use Rattle.x86_64_c.specs.Arguments.{unless, bad_hierarchy, wrong_address, position_of}
use Rattle.x86_64_c.specs.Status as status
use Rattle.x86_64_c.specs.declared.accesses.AccessRequest.{AccessRequest}
use Rattle.x86_64_c.specs.declared.accesses.Controls.{Controls}
use Rattle.x86_64_c.specs.declared.accesses.Outcome.{Outcome}
use Rattle.x86_64_c.specs.declared.arguments.Hierarchy.{Hierarchy as Given}

-- ---- what is asked

-- The kind of an access for its number: 0 a read, 1 a write, 2 a fetch.
abbrev pub access_kind_of : (number : ℕ) → Kind
access_kind_of number = cond (number == 0) Read (cond (number == 1) Write Fetch)

-- The access that a request is about: its kind, and whether user code makes it.
abbrev pub access_asked : AccessRequest → Access
access_asked request = record { kind = access_kind_of request.kind; user = request.user }

-- What a processor is set to, as the caller describes it.
abbrev pub given_controls : Controls → model.Controls
given_controls c = record {
  write_protect = c.write_protect;
  no_execute = c.no_execute;
  smep = c.smep;
  smap = c.smap;
  ac = c.ac;
  physical_bits = c.physical_bits;
  no_1gib_pages = c.no_1gib_pages;
  global_reserved = c.global_reserved;
}

-- What is wrong with the kind of an access, or with the number of bits of physical addresses.
abbrev pub wrong_access : Controls → AccessRequest → Option ℕ
wrong_access c request = unless (nat_lt request.kind 3 && (nat_le 32 c.physical_bits && nat_le c.physical_bits 52)) status.bad_access

-- What is wrong with the kind of an access or the bits of physical addresses, or else with the virtual address, with L levels.
abbrev pub wrong_access_request : (L : ℕ) → Controls → AccessRequest → Option ℕ
wrong_access_request L c request = option_or (wrong_access c request) (wrong_address L request.address)

-- What is wrong with any of the arguments of an access: the hierarchy in an array of so many tables, or else the request.
abbrev pub wrong_access_call : Given → (count : ℕ) → Controls → AccessRequest → Option ℕ
wrong_access_call h count c request = option_or (bad_hierarchy h count) (wrong_access_request h.levels c request)

-- ---- what comes of it

-- What comes of an access at a position: a processor with these controls arrives, faults, or misses a table.
abbrev pub outcome_at : Hierarchy (Unit {0}) → Controls → (position : ℕ) → Access → model.Outcome
outcome_at h c p a = model.access h.layout.levels (given_controls c) (words h) h.layout.root p a

-- The memory after an access at a position: with the marks ACCESSED and DIRTY that the processor leaves, if these are asked for.
abbrev pub memory_at : Hierarchy (Unit {0}) → Controls → (position : ℕ) → Access → (mark : Bool) → Memory
memory_at h c p a mark = let steps = model.steps_from (given_controls c) (words h) p h.layout.levels h.layout.root in
    cond mark (model.memory_after h.layout.places a.kind steps (outcome_at h c p a) h.memory) h.memory

-- The status of what comes of an access.
abbrev pub outcome_status : model.Outcome → ℕ
outcome_status (Arrives address) = status.ok
outcome_status (Faults code level) = status.page_fault
outcome_status (NoMemory frame) = status.no_table

-- What comes of an access, as it is written for C.
abbrev pub outcome_written : model.Outcome → Outcome
outcome_written (Arrives address) = record { address = address; code = 0; level = 0 }
outcome_written (Faults code level) = record { address = 0; code = code; level = level }
outcome_written (NoMemory frame) = record { address = frame; code = 0; level = 0 }

-- What comes of the access that a request asks for.
abbrev pub access_outcome : Hierarchy (Unit {0}) → Controls → AccessRequest → model.Outcome
access_outcome h c request = outcome_at h c (position_of h.layout.levels request.address) (access_asked request)

-- The memory after the access that a request asks for: with the marks of the processor, if the request asks for these.
abbrev pub memory_accessed : Hierarchy (Unit {0}) → Controls → AccessRequest → Memory
memory_accessed h c request = memory_at h c (position_of h.layout.levels request.address) (access_asked request) request.mark

-- What came of an access was written, and the status is that of it.
abbrev pub WritesOutcome : model.Outcome → (status : ℕ) → (after : Outcome) → Type 0
WritesOutcome outcome s after = (s ≡ outcome_status outcome) × (after ≡ outcome_written outcome)

-- Each pool that fitted the hierarchy before fits it afterwards. So if it was valid, it still is: the empty pool fits.
abbrev pub StillFits : (before after : Hierarchy (Unit {0})) → Type 0
StillFits before after = (serves : ℕ → Bool) (pool : List ℕ) → PoolFits before serves pool → PoolFits after serves pool
