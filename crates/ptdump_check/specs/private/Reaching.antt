-- Reaching: a search for frames, after some of the mappings.
use Rattle.std.specs.Prelude.{◌≡◌, ◌<◌, ◌+◌, ◌-◌, ◌*◌, ◌%◌, ◌++◌, ◌&&◌, ◌||◌, ℕ, Bool, true, false, not, IfSome, nat_le, nat_lt, List, map, filter, find, nat_eq, Option, None, Some, option_map}
use Rattle.std.specs.HashMap.{get}
use Rattle.std.specs.HashSet.{contains}
use Rattle.std.specs.List.Sorted.{IsNonDecreasingBy}
use Rattle.x86_64_mappings.specs.Wanted.{Asked, asked_mappings, leads_to}
use Rattle.x86_64_mappings.specs.private.Placed.{placed}
use Rattle.x86_64_model.specs.Mappings.{Mapping, Rights, mappings_of}
use Rattle.x86_64_model.specs.Memory.{Words, identity_places, words_of}
use Rattle.x86_64_model.specs.Position.{position_count, raw, span}
use Rattle.x86_64_mappings.specs.Selections.{includes}
use Rattle.ptdump_check.specs.declared.reached.positions.Positions.{Positions}
use Rattle.ptdump_check.specs.declared.reached.search.Found.{Found}
use Rattle.ptdump_check.specs.declared.reached.search.Search.{Search}
use Rattle.ptdump_check.specs.declared.reached.search.Visit.{Visit}

-- ---- addresses

-- The virtual address in a mapping that leads to a physical address, taken modulo the size of the address space of L levels of
-- tables, so that any mapping has one.
abbrev pub address_leading_to : (L physical : ℕ) → Mapping → ℕ
address_leading_to L a m = raw L ((m.start + (a - m.frame)) % position_count L)

-- For each of some frames, the virtual address in the first mapping that leads to it, or None if none does.
abbrev pub first_address_of_each : (L : ℕ) → (frames : List ℕ) → List Mapping → List (Option ℕ)
first_address_of_each L frames ms = map (λ f. option_map (address_leading_to L f) (find (leads_to f) ms)) frames

-- ---- mappings

-- The mappings that have at least the needed rights, in order.
abbrev pub kept : (needed : Rights) → List Mapping → List Mapping
kept needed ms = filter (λ m. includes m.rights needed) ms

-- The positions of a mapping, from its first to its last one.
abbrev pub positions_of : Mapping → Positions
positions_of m = record { first = m.start; last = m.start + m.size - 1 }

-- The positions in the span of a table that a search visits.
abbrev pub span_of_table : Visit → Positions
span_of_table visit = record { first = visit.start; last = visit.start + (512 * span visit.level - 1) }

-- Whether all of some positions are among those that are left out. It is false if none are left out.
abbrev pub are_left_out : (left_out : Option Positions) → Positions → Bool
are_left_out None p = false
are_left_out (Some out) p = nat_le out.first p.first && nat_le p.last out.last

-- Whether none of some positions is among those that are left out. It is true if none are left out.
abbrev pub are_apart : (left_out : Option Positions) → Positions → Bool
are_apart None p = true
are_apart (Some out) p = nat_lt p.last out.first || nat_lt out.last p.first

-- The mappings that have at least the needed rights, and whose positions aren't all left out, in order.
abbrev pub sought_by : (needed : Rights) → (left_out : Option Positions) → List Mapping → List Mapping
sought_by needed left_out ms = filter (λ m. not (are_left_out left_out (positions_of m))) (kept needed ms)

-- Whether a search looks for a mapping: it has at least the needed rights, and its positions aren't all left out.
abbrev pub is_sought : Search → Mapping → Bool
is_sought search m = includes m.rights search.needed && not (are_left_out search.left_out (positions_of m))

-- The mappings for which a search looks, in order: those that have at least the needed rights, and whose positions aren't all left
-- out.
abbrev pub sought : Search → List Mapping → List Mapping
sought search ms = sought_by search.needed search.left_out ms

-- The virtual address that leads to a physical address in the first mapping below a root that does so, has at least the needed
-- rights, and whose positions aren't all left out. It is None if there is no such mapping.
abbrev pub first_sought : (L : ℕ) → Words → (root : ℕ) → (needed : Rights) → (left_out : Option Positions) → (physical : ℕ) → Option ℕ
first_sought L T root needed left_out a = option_map (λ m. raw L (m.start + (a - m.frame))) (find (leads_to a) (sought_by needed left_out (mappings_of L T root)))

-- Each physical address to which one of the mappings `others` leads is one to which one of the mappings `ms` leads.
abbrev pub Cover : (ms others : List Mapping) → Type 0
Cover ms others = (a : ℕ) → find (leads_to a) ms ≡ None → find (leads_to a) others ≡ None

-- Whether a physical address is in a frame with this start and this size in bytes.
abbrev pub address_is_within : (start size address : ℕ) → Bool
address_is_within start size a = nat_le start a && nat_lt a (start + size)

-- The query of a search: the words of its memory, with all mappings wanted.
abbrev pub searched : Search → Asked
searched search = record { words = words_of search.memory.now identity_places; wanted = None }

-- The mappings with at least the rights that a search needs, below a frame's table, taken as the root of a hierarchy of `level`
-- levels.
abbrev pub kept_below : Search → (level frame : ℕ) → List Mapping
kept_below search level frame = kept search.needed (asked_mappings (searched search) level frame)

-- The mappings for which a search looks in a table that it visits, with their positions and rights below the root.
abbrev pub sought_in : Search → Visit → List Mapping
sought_in search visit = sought search (map (placed visit.start visit.above) (asked_mappings (searched search) visit.level visit.frame))

-- ---- the search

-- The search went through some mappings, and found for each frame the first of them that leads to it. Whatever the tables and pages
-- lead to that it needn't visit again, some of these mappings lead to.
pub record IsFoundAfter (L : ℕ) (search : Search) (found : Found) (ms : List Mapping) : Type 0 where
  pub ascend : IsNonDecreasingBy (λ f. f) search.frames.now
  pub firsts : found.firsts.items ≡ first_address_of_each L search.frames.now ms
  pub visited : (level frame : ℕ) → level < 4096 → frame % 4096 ≡ 0 → contains nat_eq found.visited (frame + level) ≡ true → Cover ms (kept_below search level frame)
  pub pages : (start : ℕ) → IfSome (get nat_eq found.pages start) (λ size. (a : ℕ) → find (leads_to a) ms ≡ None → address_is_within start size a ≡ false)

-- The search went through more mappings: if its state before is that after some mappings, its state after is that after these and
-- more.
abbrev pub TakesFound : (L : ℕ) → Search → (old new : Found) → (more : List Mapping) → Type 0
TakesFound L search old new more = (ms : List Mapping) → IsFoundAfter L search old ms → IsFoundAfter L search new (ms ++ more)
