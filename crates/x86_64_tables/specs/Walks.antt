-- Where a page walk arrives, as code represents it.
use Rattle.std.specs.Prelude.{ℕ, ◌+◌, ◌%◌, ◌&&◌, Bool, cond, nat_le, Option, Some, None}
use Rattle.x86_64_model.specs.Entry.{present}
use Rattle.x86_64_model.specs.Mappings.{maps_page}
use Rattle.x86_64_model.specs.Position.{span}
use Rattle.x86_64_model.specs.Steps.{Step}
use Rattle.x86_64_model.specs.PageWalk.{page_start, Walked as Arrival}
use Rattle.x86_64_tables.specs.declared.phys_memory.walk.Walked.{Walked}

-- The model's arrival for the result of a page walk in code: the same address, and the same rights.
abbrev pub walked_of : Walked → Arrival
walked_of w = record { address = w.address; write = w.write; user = w.user }

-- Where the page walk of a position arrives, with the given rights, in the page that an entry of a level maps.
abbrev pub arrival : (level position : ℕ) → (write user : Bool) → (entry : ℕ) → Arrival
arrival level p w u e = record { address = page_start level e + p % span level; write = w; user = u }

-- Where the page walk of a position arrives, with the given rights, if an entry of a level ends it: in the page that the entry
-- maps. None above level three, since no entry maps a page there.
abbrev pub ends : (level position : ℕ) → (write user : Bool) → (entry : ℕ) → Option Arrival
ends level p w u e = cond (nat_le level 3) (Some (arrival level p w u e)) None

-- The physical address of position p in the page that a word of a page walk maps. None if it maps none.
abbrev pub address_by : (p : ℕ) → Step → Option ℕ
address_by p s = cond (present s.word && maps_page s.level s.word) (Some (page_start s.level s.word + p % span s.level)) None
