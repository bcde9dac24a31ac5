-- Wanted mappings of a table. A table of level n is the root of a hierarchy of n levels.
use Rattle.std.specs.Prelude.{ℕ, ◌+◌, ◌&&◌, nat_le, nat_lt, Bool, true, List, filter, Option, Some, None}
use Rattle.x86_64_model.specs.Memory.{Memory, Places, Words, words_of}
use Rattle.x86_64_model.specs.Mappings.{Mapping, mappings_of}
use Rattle.x86_64_model.specs.Regions.{Region, regions_in}

-- Whether a mapping leads to a physical address: the address lies in the frame that it maps, of the mapping's size.
abbrev pub leads_to : (address : ℕ) → Mapping → Bool
leads_to a m = nat_le m.frame a && nat_lt a (m.frame + m.size)

-- Whether a mapping is wanted: it leads to the wanted physical address, or none is given, so that all mappings are.
abbrev pub is_wanted : (wanted : Option ℕ) → Mapping → Bool
is_wanted None m = true
is_wanted (Some a) m = leads_to a m

-- The mappings below a frame's table, taken as the root of a hierarchy of `level` levels, in order of their starts, which count
-- from the start of the table's span. If a physical address is wanted, only those that lead to it are listed.
abbrev pub wanted_mappings : (wanted : Option ℕ) → (level : ℕ) → Words → (frame : ℕ) → List Mapping
wanted_mappings wanted level T frame = filter (is_wanted wanted) (mappings_of level T frame)

-- A query about mappings: the words of a memory, and the physical address to which wanted mappings lead. Without such an address
-- all mappings are wanted.
pub record Asked : Type 0 where
  pub words : Words
  pub wanted : Option ℕ

-- The mappings that a query asks for below a frame's table, taken as the root of a hierarchy of `level` levels, in order of their
-- starts, which count from the start of the table's span.
abbrev pub asked_mappings : Asked → (level frame : ℕ) → List Mapping
asked_mappings asked level frame = wanted_mappings asked.wanted level asked.words frame

-- The regions formed by the mappings that a query asks for below a frame's table, taken as the root of a hierarchy of `level`
-- levels.
abbrev pub asked_regions : Asked → (level frame : ℕ) → List Region
asked_regions asked level frame = regions_in level (asked_mappings asked level frame)

-- A query about the mappings in a memory: the memory, how frames are mapped to places in it, and the physical address to which
-- wanted mappings lead. Without such an address all mappings are wanted.
pub record Asking (T P : Type 0) : Type 0 where
  pub memory : T
  pub mapping : P
  pub wanted : Option ℕ

-- The query of a memory as one of the memory's words. `tables` says which tables a memory holds at which places, and `places` at
-- which place each frame lies.
abbrev pub asked_of : {T P : Type 0} → (tables : T → Memory) → (places : P → Places) → Asking T P → Asked
asked_of tables places a = record { words = words_of (tables a.memory) (places a.mapping); wanted = a.wanted }
