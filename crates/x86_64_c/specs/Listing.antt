-- What a listing of mappings writes.
use Rattle.std.specs.Prelude.{◌≡◌, ℕ, List, [], ◌∷◌, ◌++◌, length, map, take, drop, Option, Some, None}
use Rattle.x86_64_model.specs.Hierarchy.{Hierarchy, words}
use Rattle.x86_64_model.specs.Mappings as model
use Rattle.x86_64_model.specs.Position.{raw}
use Rattle.x86_64_c.specs.Arguments.{position_of}
use Rattle.x86_64_c.specs.Status as status
use Rattle.x86_64_c.specs.declared.listing.Mapping.{Mapping}

-- All mappings below the root of a hierarchy whose last address is not below an address, in order.
abbrev pub mappings_from_address : Hierarchy (Unit {0}) → (address : ℕ) → List model.Mapping
mappings_from_address h a = model.mappings_from (position_of h.layout.levels a) (model.mappings_of h.layout.levels (words h) h.layout.root)

-- A mapping as it is written for C: it starts at an address, not at a position.
abbrev pub mapping_written : (L : ℕ) → model.Mapping → Mapping
mapping_written L m = record {
  start = raw L m.start;
  size = m.size;
  frame = m.frame;
  flags = m.flags;
  write = m.rights.write;
  user = m.rights.user;
  execute = m.rights.execute;
}

-- The address of the first of some mappings with L levels, if there is one.
abbrev pub next_of : (L : ℕ) → List model.Mapping → Option ℕ
next_of L [] = None
next_of L (m ∷ ms) = Some (raw L m.start)

-- If there are no more mappings, the status is OK, and nothing is written. Otherwise the status is MORE, and the address of the
-- next mapping is written.
abbrev pub WritesNext : (more : Option ℕ) → (status before next : ℕ) → Type 0
WritesNext None s before next = (s ≡ status.ok) × (next ≡ before)
WritesNext (Some start) s before next = (s ≡ status.more) × (next ≡ start)

-- The array gets as many of all mappings as it has room for, from its start on, and keeps what it holds behind them.
pub record WritesMappings (all : List model.Mapping) (L : ℕ) (before after : List Mapping) (count : ℕ) : Type 0 where
  pub number : count ≡ length (take (length before) all)
  pub array : after ≡ map (mapping_written L) (take (length before) all) ++ drop count before

-- As many mappings as the array has room for are written, with their number. The status says whether these are all, and if not, the
-- address of the next one is written.
abbrev pub Lists : (all : List model.Mapping) (L : ℕ) (before : List Mapping) (status : ℕ) (after : List Mapping) (count was next : ℕ) → Type 0
Lists all L before s after count was next = WritesMappings all L before after count × WritesNext (next_of L (drop (length before) all)) s was next
