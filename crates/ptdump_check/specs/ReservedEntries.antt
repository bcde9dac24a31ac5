-- ReservedEntries: entries below a root with reserved bits, at which a processor faults, and how many there are.
use Rattle.std.specs.Prelude.{ℕ, ◌-◌, ◌^◌, ◌++◌, min, List, length}
use Rattle.x86_64_dump.specs.Tables.{tables_by_level}
use Rattle.x86_64_model.specs.Memory.{Words}
use Rattle.ptdump_check.specs.Findings.{flawed_entries, processor, tables_from_level}
use Rattle.ptdump_check.specs.declared.findings.entry.Table.{Table}
use Rattle.ptdump_check.specs.declared.findings.finding.Finding.{Finding}
use Rattle.ptdump_check.specs.declared.findings.finding.EntryFlaw.TheVariants as flaws

-- The findings of those entries of these tables that have PRESENT and a reserved bit, first those with HUGE_PAGE above level
-- three.
abbrev pub reserved_entries : Words → List Table → List Finding
reserved_entries T tables = flawed_entries flaws.HugePage T tables ++ flawed_entries (flaws.ReservedBits processor) T tables

-- The number of words with reserved bits in the tables that a root leads to, with L levels of tables, or 2^64 - 1 if there are
-- more. A word counts once for each level at which its table is.
unfoldable pub reserved_count : (L : ℕ) → Words → (root : ℕ) → ℕ
reserved_count L T root = min (length (reserved_entries T (tables_from_level 1 (tables_by_level L T root)))) (2 ^ 64 - 1)
