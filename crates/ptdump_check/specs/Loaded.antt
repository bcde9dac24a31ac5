-- Loaded: the data for reports.
use Rattle.std.specs.Prelude.{◌≡◌, ℕ, None}
use Rattle.x86_64_dump.specs.Loaded.{frames_in, loaded_words}
use Rattle.x86_64_dump.specs.Tables.{tables_by_level}
use Rattle.x86_64_model.specs.Memory.{Words}
use Rattle.ptdump_check.specs.declared.loaded.Loaded.{Loaded}

-- The words of the tables that were loaded for reports, by their frames.
abbrev pub words_loaded : {L : Type 0} → Loaded L → Words
words_loaded loaded = loaded_words loaded.tables.now

-- The summaries are those of the loaded tables, for all mappings.
pub record IsLoadedDump {L : Type 0} (loaded : Loaded L) : Type 0 where
  pub memory : loaded.summaries.now.memory ≡ loaded.tables.now.memory
  pub all : loaded.summaries.now.wanted ≡ None

-- The loaded tables are all that their root leads to in their words, with this number of levels of tables.
abbrev pub HasAllTables : {L : Type 0} → (levels : ℕ) → Loaded L → Type 0
HasAllTables levels loaded = frames_in loaded.tables.now ≡ tables_by_level levels (words_loaded loaded) loaded.root
