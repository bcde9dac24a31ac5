-- The mappings by what an entry leads to: none, the page that it maps, or the placed mappings of the table it names.
use Rattle.std.specs.Prelude.{ℕ, ◌+◌, ◌-◌, List, [], ◌∷◌, ◌++◌, map, filter}
use Rattle.x86_64_model.specs.Memory.{Words}
use Rattle.x86_64_model.specs.Position.{span}
use Rattle.x86_64_model.specs.Mappings.{Rights, Mapping, mappings_of, granted}
use Rattle.x86_64_model.specs.private.Found.{page_from}
use Rattle.x86_64_tables.specs.EntryTargets.{target_of}
use Rattle.x86_64_tables.specs.declared.page_table.target.EntryTarget.{EntryTarget}
use Rattle.x86_64_tables.specs.declared.page_table.target.EntryTarget.TheVariants.{Nothing, Page, Table}
use Rattle.x86_64_mappings.specs.declared.summaries.reached_table.ReachedTable.{ReachedTable}
use Rattle.x86_64_mappings.specs.Selections.{is_mapping_selected}
use Rattle.x86_64_mappings.specs.Wanted.{Asked, is_wanted, asked_mappings}
use Rattle.x86_64_mappings.specs.declared.selection.Selection.{Selection}
use Rattle.x86_64_mappings.specs.private.Placed.{placed}

-- The mappings by an entry of a level, by its target: none, the page that it maps, or those of the table that it names. The entry's
-- span starts at the position `start`, and the words above it grant rights r.
abbrev pub mappings_at : Words → (level start : ℕ) → Rights → (entry : ℕ) → EntryTarget → List Mapping
mappings_at T level s r e Nothing = []
mappings_at T level s r e Page = page_from s level r e ∷ []
mappings_at T level s r e (Table frame) = map (placed s (granted r e)) (mappings_of (level - 1) T frame)

-- The mappings that a query asks for by an entry of a level whose span starts at the position `start`, below words that grant
-- rights r.
abbrev pub asked_by : Asked → (level start : ℕ) → Rights → (entry : ℕ) → List Mapping
asked_by asked level s r e = filter (is_wanted asked.wanted) (mappings_at asked.words level s r e (target_of level e))

-- The mappings that a query asks for by entries of a level, one after the other, below words that grant rights r. The span of the
-- first entry starts at the position `start`.
abbrev pub asked_on : Asked → (level start : ℕ) → Rights → (entries : List ℕ) → List Mapping
asked_on asked level s r [] = []
asked_on asked level s r (e ∷ rest) = asked_by asked level s r e ++ asked_on asked level (s + span level) r rest

-- The mappings that a query asks for in a table that a walk from a root reaches, with their positions and rights below the root.
abbrev pub asked_in : Asked → ReachedTable → List Mapping
asked_in asked table = map (placed table.start table.above) (asked_mappings asked table.level table.frame)

-- The mappings that a query asks for and a selection selects in a table that a walk from a root with L levels of tables reaches,
-- with their positions and rights below the root.
abbrev pub selected_in : (L : ℕ) → Selection → Asked → ReachedTable → List Mapping
selected_in L s asked table = filter (is_mapping_selected L s) (asked_in asked table)
