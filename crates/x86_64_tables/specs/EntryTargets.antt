-- What an entry leads to.
use Rattle.std.specs.Prelude.{ℕ, cond}
use Rattle.x86_64_model.specs.Entry.{present, huge, address}
use Rattle.x86_64_model.specs.Mappings.{maps_page}
use Rattle.x86_64_tables.specs.declared.page_table.target.EntryTarget.{EntryTarget}
use Rattle.x86_64_tables.specs.declared.page_table.target.EntryTarget.TheVariants.{Nothing, Page, Table}

-- What an entry leads to in a table of a level: the page that it maps, or the table that it names. Nothing if it isn't present,
-- or is huge at a level at which no entry maps a page.
abbrev pub target_of : (level entry : ℕ) → EntryTarget
target_of level e = cond (present e) (cond (maps_page level e) Page (cond (huge e) Nothing (Table (address e)))) Nothing

-- The target of an entry is a table.
abbrev pub NamesTable : EntryTarget → Type 0
NamesTable (Table frame) = Unit {0}
NamesTable _ = ⊥
