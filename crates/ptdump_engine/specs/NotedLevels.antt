-- Noted levels: the number of levels of tables that the dump says where it says the root.
use Rattle.std.specs.Prelude.{ℕ, List, [], codes, Option, Some}
use Rattle.x86_64_addr.specs.declared.level_count.Levels.{Levels}
use Rattle.x86_64_addr.specs.declared.level_count.Levels.TheVariants.{Four, Five}
use Rattle.ptdump_json.specs.Walks.{line}

-- The line that the dump has another number of levels than the request, or nothing if one is missing or they are equal.
abbrev pub noted_levels_text : (given noted : Option Levels) → List ℕ
noted_levels_text (Some Four) (Some Five) = line (codes "the levels are 4, as --levels says, though the dump says 5")
noted_levels_text (Some Five) (Some Four) = line (codes "the levels are 5, as --levels says, though the dump says 4")
noted_levels_text given noted = []
