-- Checked: the lines of a check of loaded tables, which are in order.
use Rattle.std.specs.Prelude.{ℕ, ◌++◌, if◌then◌else◌, List, [], filter, map, Option, option_map}
use Rattle.x86_64_model.specs.Memory.{identity_places, words_of}
use Rattle.x86_64_model.specs.Mappings.{Mapping, mappings_of}
use Rattle.x86_64_model.specs.Regions.{regions_of}
use Rattle.ptdump_check.specs.Aliasing.{alias_by, aliased_by}
use Rattle.ptdump_check.specs.Findings.{findings_by}
use Rattle.ptdump_check.specs.Loaded.{words_loaded}
use Rattle.x86_64_mappings.specs.Selections.{is_selected}
use Rattle.x86_64_mappings.specs.Views.{frame_at}
use Rattle.ptdump_check.specs.declared.findings.flaw.Flaw.TheVariants.{WritableAndExecutable, UserInUpperHalf}
use Rattle.ptdump_check.specs.declared.first_mappings.FirstMappings.{FirstMappings}
use Rattle.ptdump_check.specs.declared.loaded.Loaded.{Loaded}
use Rattle.ptdump_engine.specs.CheckReports.{alias_lines, flawed_lines, said_of, said_of_aliased}
use Rattle.ptdump_engine.specs.Said.{Said}
use Rattle.ptdump_engine.specs.declared.check.subject.Subject.{Subject}

-- The text and the JSON object of the mapping m and its first alias by the first mappings of all frames, or None if it has no alias
-- by these.
abbrev pub said_by_firsts : {X : Type 0} → (L : ℕ) → FirstMappings X → Mapping → Option Said
said_by_firsts L firsts m = option_map (λ n. said_of_aliased (aliased_by L m n)) (alias_by firsts (frame_at m.size m.frame) m.rights m.start)

-- The lines for mappings in loaded tables that have an alias, or none if a check doesn't look for these.
abbrev pub aliases_by : {X : Type 0} → (L : ℕ) → Loaded X → Subject → List Said
aliases_by L loaded subject = if subject.aliases then alias_lines L subject.selection (mappings_of L (words_loaded loaded) loaded.root) else []

-- The lines of a check of loaded tables, in order: for regions with flaws, for findings in the tables, and for mappings with an
-- alias if these are looked for.
abbrev pub finding_lines_by : {X : Type 0} → (L : ℕ) → Loaded X → Subject → List Said
finding_lines_by L loaded subject = let regions = filter (is_selected L subject.selection) (regions_of L (words_loaded loaded) loaded.root) in
    flawed_lines L WritableAndExecutable regions ++ flawed_lines L UserInUpperHalf regions
    ++ map said_of (findings_by subject.processor (words_of subject.memory.now identity_places) subject.root subject.tables.now subject.names.now ++ subject.reached.now)
    ++ aliases_by L loaded subject
