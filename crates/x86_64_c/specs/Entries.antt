-- The calls that read the entries of a page walk, with the status that says why it ends.
use Rattle.std.specs.Prelude.{◌≡◌, ℕ, nat_le, List, Option}
use Rattle.std.specs.Option.{option_or}
use Rattle.x86_64_model.specs.Hierarchy.{Hierarchy, words}
use Rattle.x86_64_model.specs.Steps.{Step, steps}
use Rattle.x86_64_mappings.specs.WalkEntries as walk
use Rattle.x86_64_mappings.specs.declared.walk_entries.WalkEnd.{WalkEnd}
use Rattle.x86_64_mappings.specs.declared.walk_entries.WalkEnd.TheVariants.{Page, NotPresent, HugePage, NoTable}
use Rattle.x86_64_mappings.specs.declared.walk_entries.WalkEntry.{WalkEntry}
use Rattle.x86_64_c.specs.Arguments.{unless, bad_hierarchy, wrong_address, position_of}
use Rattle.x86_64_c.specs.Status as status
use Rattle.x86_64_c.specs.declared.arguments.Hierarchy.{Hierarchy as Given}

-- What is wrong with the room for entries of a walk, or else with a virtual address. There must be room for an entry of each of L
-- levels.
abbrev pub wrong_walk : (L room address : ℕ) → Option ℕ
wrong_walk L room a = option_or (unless (nat_le L room) status.bad_array) (wrong_address L a)

-- What is wrong with a hierarchy in an array of so many tables, or else with the room for entries of a walk, or with a virtual
-- address.
abbrev pub wrong_entries_call : Given → (count room address : ℕ) → Option ℕ
wrong_entries_call h count room a = option_or (bad_hierarchy h count) (wrong_walk h.levels room a)

-- The words that the page walk of a virtual address reads, with their places in the tables: the root's first.
abbrev pub steps_walked : Hierarchy (Unit {0}) → (address : ℕ) → List Step
steps_walked h a = steps (words h) (position_of h.layout.levels a) h.layout.levels h.layout.root

-- The status that says why a page walk ends.
abbrev pub walk_end_status : WalkEnd → ℕ
walk_end_status Page = status.ok
walk_end_status NotPresent = status.not_mapped
walk_end_status HugePage = status.parent_entry_huge_page
walk_end_status NoTable = status.no_table

-- The words of a page walk are written from the start of the array, with their number, and the status says why the walk ends.
abbrev pub WritesEntries : (steps : List Step) (before : List WalkEntry) (status : ℕ) (after : List WalkEntry) (count : ℕ) → Type 0
WritesEntries steps before s after count = walk.Writes steps before after count × (s ≡ walk_end_status (walk.end_of steps))
