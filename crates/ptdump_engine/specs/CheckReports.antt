-- CheckReports: what a check reports of words, with L levels of tables below a root: a line for each finding, and their number.
use Rattle.std.specs.Prelude.{ℕ, ◌-◌, ◌^◌, ◌==◌, ◌++◌, Bool, if◌then◌else◌, min, List, [], filter, map, length, Option, option_map}
use Rattle.std.specs.List.{filter_map, flat_map}
use Rattle.x86_64_mappings.specs.Kinds.{distinct}
use Rattle.x86_64_mappings.specs.Selections.{is_mapping_selected, is_selected}
use Rattle.x86_64_mappings.specs.declared.selection.Selection.{Selection}
use Rattle.x86_64_model.specs.Mappings.{Mapping, mappings_of}
use Rattle.x86_64_model.specs.Memory.{Words}
use Rattle.x86_64_model.specs.Regions.{Region, regions_of}
use Rattle.ptdump_check.specs.Aliases.{alias_in, aliased}
use Rattle.ptdump_check.specs.Findings.{has_flaw, table_findings}
use Rattle.ptdump_check.specs.FindingTexts.{aliased_text, count_text, finding_text, flawed_text}
use Rattle.ptdump_check.specs.declared.checking.Checking.{Checking}
use Rattle.ptdump_check.specs.declared.findings.aliased.Aliased.{Aliased}
use Rattle.ptdump_check.specs.declared.findings.finding.Finding.{Finding}
use Rattle.ptdump_check.specs.declared.findings.flaw.Flaw.{Flaw}
use Rattle.ptdump_check.specs.declared.findings.flaw.Flaw.TheVariants.{WritableAndExecutable, UserInUpperHalf}
use Rattle.ptdump_json.specs.FindingObjects.{json_of_aliased, json_of_count, json_of_finding, json_of_flawed}
use Rattle.ptdump_engine.specs.Said.{Said, line_of}
use Rattle.ptdump_json.specs.declared.options.Form.{Form}

-- ---- regions

-- The text and the JSON object of a region with a flaw.
abbrev pub said_of_flawed : (L : ℕ) → Flaw → Region → Said
said_of_flawed L flaw r = record { text = flawed_text L flaw r; object = json_of_flawed L flaw r }

-- A line for each of the regions that has this flaw, in order.
abbrev pub flawed_lines : (L : ℕ) → Flaw → List Region → List Said
flawed_lines L flaw rs = map (said_of_flawed L flaw) (filter (has_flaw L flaw) rs)

-- ---- mappings

-- The text and the JSON object of a frame that is mapped with different rights at two virtual addresses.
abbrev pub said_of_aliased : Aliased → Said
said_of_aliased a = record { text = aliased_text a; object = json_of_aliased a }

-- The text and the JSON object of the mapping m and its first alias among some mappings, or None if it has no alias there.
abbrev pub said_of_mapping : (L : ℕ) → List Mapping → Mapping → Option Said
said_of_mapping L ms m = option_map (λ n. said_of_aliased (aliased L m n)) (alias_in ms m)

-- A line for each frame, size and rights, in order: at the first selected mapping of that kind, if that has an alias among all
-- mappings.
abbrev pub alias_lines : (L : ℕ) → Selection → List Mapping → List Said
alias_lines L selection ms = filter_map (said_of_mapping L ms) (distinct (filter (is_mapping_selected L selection) ms))

-- ---- the report

-- The text and the JSON object of a finding in tables.
abbrev pub said_of : Finding → Said
said_of finding = record { text = finding_text finding; object = json_of_finding finding }

-- The lines for mappings that have an alias, or none if the check doesn't look for these.
abbrev pub aliases_asked : Checking → (L : ℕ) → List Mapping → List Said
aliases_asked checking L ms = if checking.aliases then alias_lines L checking.selection ms else []

-- A line for each finding of a check: in the regions that are selected, in all tables, and in the mappings that are selected.
unfoldable pub finding_lines : Checking → (L : ℕ) → Words → (root : ℕ) → List Said
finding_lines checking L T root = let regions = filter (is_selected L checking.selection) (regions_of L T root) in
    flawed_lines L WritableAndExecutable regions ++ flawed_lines L UserInUpperHalf regions ++ map said_of (table_findings checking L T root)
    ++ aliases_asked checking L (mappings_of L T root)

-- The number of lines, or 2^64 - 1 if there are more.
abbrev pub line_count : List Said → ℕ
line_count lines = min (length lines) (2 ^ 64 - 1)

-- The text and the JSON object of the number of findings.
abbrev pub said_of_count : (findings : ℕ) → Said
said_of_count findings = record { text = count_text findings; object = json_of_count findings }

-- The report of a check in a form: a line for each finding, and a line with their number.
unfoldable pub check_text : Form → Checking → (L : ℕ) → Words → (root : ℕ) → List ℕ
check_text form checking L T root = let lines = finding_lines checking L T root in
    flat_map (line_of form) lines ++ line_of form (said_of_count (line_count lines))

-- Whether a check has no findings.
abbrev pub finds_nothing : Checking → (L : ℕ) → Words → (root : ℕ) → Bool
finds_nothing checking L T root = length (finding_lines checking L T root) == 0
