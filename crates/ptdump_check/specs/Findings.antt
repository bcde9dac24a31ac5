-- Findings: what a check finds in words, with L levels of tables below a root, and in which order.
use Rattle.std.specs.Prelude.{ℕ, ◌≤◌, ◌+◌, ◌==◌, ◌++◌, ◌&&◌, Bool, true, false, not, cond, if◌then◌else◌, min, nat_le, nat_lt, List, [], ◌∷◌, filter, map, length, Option, Some, None, is_some, option_map, option_and_then, ⊤}
use Rattle.std.specs.List.{dedup, filter_map, flat_map}
use Rattle.x86_64_dump.specs.Tables.{tables_by_level}
use Rattle.x86_64_model.specs.Entry.{present, huge, address}
use Rattle.x86_64_model.specs.Memory.{Words}
use Rattle.x86_64_model.specs.PageWalk.{read}
use Rattle.x86_64_model.specs.Path.{indices}
use Rattle.x86_64_model.specs.Position.{lower_half}
use Rattle.x86_64_model.specs.Regions.{Region}
use Rattle.ptdump_check.specs.InOrder.{in_order}
use Rattle.ptdump_check.specs.ReachedTables.{all_reached}
use Rattle.ptdump_check.specs.WritableTables.{all_writable}
use Rattle.ptdump_check.specs.declared.findings.entry.Entry.{Entry}
use Rattle.ptdump_check.specs.declared.findings.entry.Slot.{Slot}
use Rattle.ptdump_check.specs.declared.findings.entry.Table.{Table}
use Rattle.ptdump_check.specs.declared.findings.finding.Finding.{Finding}
use Rattle.ptdump_check.specs.declared.findings.finding.Finding.TheVariants.{NamedOften, NotInDump, HugePage, ReservedBits}
use Rattle.ptdump_check.specs.declared.findings.finding.EntryFlaw.{EntryFlaw}
use Rattle.ptdump_check.specs.declared.findings.finding.EntryFlaw.TheVariants as flaws
use Rattle.ptdump_check.specs.declared.findings.flaw.Flaw.{Flaw}
use Rattle.ptdump_check.specs.declared.findings.flaw.Flaw.TheVariants.{WritableAndExecutable, UserInUpperHalf}
use Rattle.ptdump_check.specs.declared.findings.names.Name.{Name}
use Rattle.ptdump_check.specs.declared.checking.Checking.{Checking}
use Rattle.x86_64_access.specs.Accesses.{controls_of}
use Rattle.x86_64_access.specs.declared.controls.Controls.{Controls}
use Rattle.x86_64_model.specs.Access.{reserved}

-- ---- regions

-- Whether a region has this flaw: it can be both written and executed, or user code reaches it in the upper half.
abbrev pub has_flaw : (L : ℕ) → Flaw → Region → Bool
has_flaw L WritableAndExecutable r = r.rights.write && r.rights.execute
has_flaw L UserInUpperHalf r = r.rights.user && nat_le (lower_half L) r.first

-- ---- tables and entries

-- The tables in these frames, which are lists of frames by level. The first list is of this level, and each next one of the level
-- above.
abbrev pub tables_from_level : (level : ℕ) → List (List ℕ) → List Table
tables_from_level level [] = []
tables_from_level level (frames ∷ above) = map (λ f. record { frame = f; level = level }) frames ++ tables_from_level (level + 1) above

-- The tables in these frames, by address, where the first list of frames is of level one. A frame that has tables of several
-- levels comes once for each of them, the lowest first.
unfoldable pub tables_by_address : List (List ℕ) → List Table
tables_by_address levels = in_order (λ t. t.frame) (tables_from_level 1 levels)

-- The entry at an index of a table, or None if T doesn't have the table.
abbrev pub entry_in_table : Words → Table → (index : ℕ) → Option Entry
entry_in_table T t i = option_map (λ e. record { slot = record { table = t.frame; index = i }; level = t.level; word = e }) (read T t.frame i)

-- The entries of a table, in the order of their indices.
unfoldable pub entries_in : Words → Table → List Entry
entries_in T t = filter_map (entry_in_table T t) indices

-- ---- tables that are named

-- The name in the word of a slot: the frame of the table that it names, if it has PRESENT and lacks HUGE_PAGE.
abbrev pub name_by : Slot → (word : ℕ) → Option Name
name_by slot e = cond (present e && not (huge e)) (Some (record { frame = address e; by = slot })) None

-- The names in the table in a frame, which is above level one, in the order of their indices.
unfoldable pub names_in : Words → (frame : ℕ) → List Name
names_in T f = filter_map (λ i. option_and_then (name_by (record { table = f; index = i })) (read T f i)) indices

-- The frames of those tables that are above level one, each once, if the tables are in the order of their frames.
abbrev pub frames_above : List Table → List ℕ
frames_above tables = dedup (λ f g. f == g) (map (λ t. t.frame) (filter (λ t. nat_lt 1 t.level) tables))

-- The names in these tables, by the frames that they name, and those of one frame in the order of their slots.
unfoldable pub names_in_order : Words → List Table → List Name
names_in_order T tables = in_order (λ n. n.frame) (flat_map (names_in T) (frames_above tables))

-- How often a frame is named as a table: by so many names, and once more if it is the root.
abbrev pub times : List Name → (root frame : ℕ) → ℕ
times names root f = length (filter (λ n. n.frame == f) names) + (if f == root then 1 else 0)

-- The finding of a frame that is named as a table `count` times, if that is more than once.
abbrev pub often : (frame count : ℕ) → Option Finding
often f count = cond (nat_lt 1 count) (Some (NamedOften f count)) None

-- The findings of the frames that are named as a table more than once, if the names are in the order of their frames.
unfoldable pub all_named_often : List Name → (root : ℕ) → List Finding
all_named_often names root = filter_map (λ f. often f (times names root f)) (dedup (λ f g. f == g) (map (λ n. n.frame) names))

-- The finding of a name whose table isn't in the dump, or None if it is.
abbrev pub missing : Words → Name → Option Finding
missing T name = cond (is_some (T name.frame)) None (Some (NotInDump name.frame name.by))

-- ---- entries that are wrong by themselves

-- The finding of an entry with PRESENT and HUGE_PAGE above level three, where no entry maps a page.
abbrev pub huge_page : Entry → Option Finding
huge_page e = cond (present e.word && (nat_lt 3 e.level && huge e.word)) (Some (HugePage e.slot e.level)) None

-- The finding of an entry with PRESENT and a bit that a processor with these controls reserves. An entry with HUGE_PAGE above
-- level three has none, since that is a finding of its own.
abbrev pub reserved_bits : Controls → Entry → Option Finding
reserved_bits c e = cond (present e.word && not (nat_lt 3 e.level && huge e.word) && reserved (controls_of c) e.level e.word) (Some (ReservedBits e)) None

-- The finding of an entry with this flaw, or None if the entry doesn't have it.
abbrev pub flaw_in : EntryFlaw → Entry → Option Finding
flaw_in flaws.HugePage e = huge_page e
flaw_in (flaws.ReservedBits c) e = reserved_bits c e

-- The processor for which a flaw of entries is looked for, if it depends on one, has at most 52 bits of physical addresses.
abbrev pub HasBits : EntryFlaw → Type 0
HasBits flaws.HugePage = ⊤
HasBits (flaws.ReservedBits c) = c.physical_bits ≤ 52

-- The findings of those entries of these tables that have this flaw.
abbrev pub flawed_entries : EntryFlaw → Words → List Table → List Finding
flawed_entries flaw T tables = flat_map (λ t. filter_map (flaw_in flaw) (entries_in T t)) tables

-- The processor whose reserved bits are looked for: it has all 52 bits of physical addresses, so that it lacks no address bit,
-- NO_EXECUTE is on, it has pages of 1GiB, and it reserves GLOBAL nowhere.
abbrev pub processor : Controls
processor = record {
  write_protect = true;
  no_execute = true;
  smep = true;
  smap = true;
  ac = false;
  physical_bits = 52;
  no_1gib_pages = false;
  global_reserved = false;
}

-- The processor whose reserved bits a check looks for. It has as many bits of physical addresses as the check states, but at most
-- 52.
abbrev pub processor_of : Checking → Controls
processor_of checking = record processor { physical_bits = min checking.physical_bits 52 }

-- ---- all tables

-- The findings in these tables, by the names in them: frames that are named more than once, tables that aren't in the dump,
-- HUGE_PAGE above level three, and other reserved bits.
abbrev pub findings_by : Controls → Words → (root : ℕ) → List Table → List Name → List Finding
findings_by processor T root tables names = all_named_often names root ++ filter_map (missing T) names
    ++ flawed_entries flaws.HugePage T tables ++ flawed_entries (flaws.ReservedBits processor) T tables

-- The findings of a check in the tables that a root leads to, with L levels of tables. Those of tables to which mappings lead
-- come last.
unfoldable pub table_findings : Checking → (L : ℕ) → Words → (root : ℕ) → List Finding
table_findings checking L T root = let tables = tables_by_address (tables_by_level L T root) in
    findings_by (processor_of checking) T root tables (names_in_order T tables)
    ++ (all_reached L T root tables ++ all_writable L T root checking.direct_map tables)
