-- TablesRead: the tables of a dump that were read so far.
use Rattle.std.specs.Prelude.{◌≡◌, ℕ, nat_eq, IsSome}
use Rattle.std.specs.HashMap.{get}
use Rattle.std.specs.Option.{option_map}
use Rattle.x86_64_model.specs.Memory.{Words}
use Rattle.x86_64_dump.specs.declared.tables.tables_read.TablesRead.{TablesRead}

-- The words of the tables that were read so far, by their frames.
abbrev pub words_read : TablesRead → Words
words_read read frame = option_map (λ table. table.value) (get nat_eq read.tables frame)

-- The tables that were read so far have the words of W.
abbrev pub AreOf : Words → TablesRead → Type 0
AreOf W read = (frame : ℕ) → IsSome (words_read read frame) → words_read read frame ≡ W frame
