-- The entries that a page walk reads, and why it ends.
use Rattle.std.specs.Prelude.{◌≡◌, ℕ, ◌++◌, cond, List, length, map, drop, Option, Some, None}
use Rattle.std.specs.List.{last_or}
use Rattle.x86_64_model.specs.Entry.{present, huge}
use Rattle.x86_64_model.specs.Mappings.{maps_page}
use Rattle.x86_64_model.specs.Steps.{Step}
use Rattle.x86_64_mappings.specs.declared.walk_entries.WalkEnd.{WalkEnd}
use Rattle.x86_64_mappings.specs.declared.walk_entries.WalkEnd.TheVariants.{Page, NotPresent, HugePage, NoTable}
use Rattle.x86_64_mappings.specs.declared.walk_entries.WalkEntry.{WalkEntry}

-- A word that a page walk reads, in the form in which it is written to the caller's array.
abbrev pub written : Step → WalkEntry
written s = record { level = s.level; table = s.frame; index = s.index; word = s.word }

-- Why a page walk ends at a word of a level: the word lacks PRESENT, maps a page, or has HUGE_PAGE where it maps none. Otherwise
-- the table that it names isn't there.
abbrev pub end_at : (level word : ℕ) → WalkEnd
end_at level e = cond (present e) (cond (maps_page level e) Page (cond (huge e) HugePage NoTable)) NotPresent

-- Why a page walk ends, by the last word that it reads. If it reads none, the root's table isn't there.
abbrev pub end_by : Option Step → WalkEnd
end_by None = NoTable
end_by (Some s) = end_at s.level s.word

-- Why a page walk ends, by the words that it reads, from the root's on.
abbrev pub end_of : List Step → WalkEnd
end_of steps = end_by (last_or None steps)

-- The words that a page walk reads are written in order, from the array's start on, and counted. The array keeps what it holds
-- behind them.
pub record Writes (steps : List Step) (before after : List WalkEntry) (count : ℕ) : Type 0 where
  pub number : count ≡ length steps
  pub array : after ≡ map written steps ++ drop count before
