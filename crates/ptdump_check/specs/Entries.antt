-- Entries: their meaning at the level of their table.
use Rattle.std.specs.Prelude.{Bool, ◌&&◌, ◌||◌, not, nat_lt}
use Rattle.x86_64_model.specs.Entry.{huge, present, used}
use Rattle.ptdump_check.specs.declared.findings.entry.Entry.{Entry}

-- Whether an entry that isn't 0 has no meaning, since it is above level one and lacks PRESENT.
abbrev pub is_left_out : Entry → Bool
is_left_out entry = used entry.word && nat_lt 1 entry.level && not (present entry.word)

-- Whether an entry names a table: it is above level one, has PRESENT and maps no page. Above level three no entry maps a page,
-- even with HUGE_PAGE.
abbrev pub entry_names_table : Entry → Bool
entry_names_table entry = present entry.word && nat_lt 1 entry.level && (nat_lt 3 entry.level || not (huge entry.word))
