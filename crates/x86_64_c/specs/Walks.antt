-- What a page walk tells with all rights.
use Rattle.std.specs.Prelude.{ℕ, Bool, Option, option_and_then, option_map}
use Rattle.x86_64_model.specs.Hierarchy.{Hierarchy, walk, words}
use Rattle.x86_64_model.specs.Mappings.{Rights}
use Rattle.x86_64_model.specs.PageWalk.{Walked}
use Rattle.x86_64_model.specs.Steps.{Step, rights_in, steps}
use Rattle.x86_64_tables.specs.Walks.{address_by}
use Rattle.x86_64_c.specs.Arguments.{position_of}
use Rattle.x86_64_c.specs.declared.walk.WalkResult.{WalkResult}

-- Whether no entry that the page walk to a position reads has NO_EXECUTE.
abbrev pub may_execute : Hierarchy (Unit {0}) → (position : ℕ) → Bool
may_execute h p = (rights_in (steps (words h) p h.layout.levels h.layout.root)).execute

-- An arrival of a page walk at an address with these rights, as it is written for C.
abbrev pub result_written : (address : ℕ) → Rights → WalkResult
result_written address r = record { address = address; write = r.write; user = r.user; execute = r.execute }

-- The arrival of a page walk to position p as it is written for C, by the last word that it reads and the rights that all words
-- of the walk grant.
abbrev pub told_by : (p : ℕ) → Rights → Option Step → Option WalkResult
told_by p r last = option_map (λ to. result_written to r) (option_and_then (address_by p) last)

-- An arrival of a page walk as it is written for C, with this right to execute.
abbrev pub result_of_walk : (execute : Bool) → Walked → WalkResult
result_of_walk x w = record { address = w.address; write = w.write; user = w.user; execute = x }

-- Where the page walk of a position arrives, with all rights, as it is written for C.
abbrev pub walked_at : Hierarchy (Unit {0}) → (position : ℕ) → Option WalkResult
walked_at h p = option_map (result_of_walk (may_execute h p)) (walk h p)

-- Where the page walk of a virtual address arrives, with all rights, as it is written for C.
abbrev pub result_walked : Hierarchy (Unit {0}) → (address : ℕ) → Option WalkResult
result_walked h a = walked_at h (position_of h.layout.levels a)
