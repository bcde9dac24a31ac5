-- Reserved: what standard error says of words with reserved bits.
use Rattle.std.specs.Prelude.{ℕ, Bool, ◌==◌, ◌++◌, if◌then◌else◌, true, false, List, [], codes, decimal}
use Rattle.x86_64_model.specs.Memory.{Words}
use Rattle.ptdump_check.specs.ReservedEntries.{reserved_count}
use Rattle.ptdump_json.specs.Walks.{line}
use Rattle.ptdump_engine.specs.declared.request.Command.{Command}
use Rattle.ptdump_engine.specs.declared.request.Command.TheVariants as commands

-- The line with the number of words that have reserved bits, or nothing if it is 0.
abbrev pub reserved_line : (count : ℕ) → List ℕ
reserved_line count = if count == 0 then [] else line (codes "words with reserved bits, at which a processor faults: " ++ decimal count)

-- Whether a command lists what is mapped, as regions or as pages.
abbrev pub lists_mappings : Command → Bool
lists_mappings (commands.Regions selection) = true
lists_mappings (commands.Pages selection has_names) = true
lists_mappings command = false

-- The line with the number of words below a root that have reserved bits, if there are any and the command lists what is mapped.
abbrev pub reserved_note : Command → (L : ℕ) → Words → (root : ℕ) → List ℕ
reserved_note command L T root = if lists_mappings command then reserved_line (reserved_count L T root) else []
