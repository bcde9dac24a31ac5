-- Processors: where the page walks of each processor begin, by QEMU's notes, and which processors have the same tables.
use Rattle.std.specs.Prelude.{ℕ, ◌+◌, ◌++◌, ◌==◌, ◌&&◌, Bool, true, false, not, nat_lt, if◌then◌else◌, List, [], ◌∷◌, map, filter, slice_get, Option, None, Some, Result, Ok, codes, decimal}
use Rattle.std.specs.List.{flat_map, join_by, list_any}
use Rattle.x86_64_addr.specs.declared.level_count.Levels.{Levels}
use Rattle.x86_64_addr.specs.declared.level_count.Levels.TheVariants.{Four, Five}
use Rattle.x86_64_dump.specs.declared.note.Note.{Note}
use Rattle.text.specs.Numbers.{hexadecimal}
use Rattle.ptdump_json.specs.InfoTexts.{mode_told}
use Rattle.ptdump_json.specs.Json.{json_of_group, json_line}
use Rattle.ptdump_json.specs.Paging.{mode_of, registers_of}
use Rattle.ptdump_engine.specs.Start.{start_by_processor}
use Rattle.ptdump_engine.specs.Steps.{and_then, of_dump}
use Rattle.ptdump_json.specs.Walks.{line}
use Rattle.ptdump_engine.specs.declared.failure.Failure.{Failure}
use Rattle.ptdump_engine.specs.declared.failure.Failure.TheVariants as failures
use Rattle.ptdump_json.specs.declared.mode.Mode.{Mode}
use Rattle.ptdump_json.specs.declared.mode.Mode.TheVariants.{Paging64}
use Rattle.ptdump_engine.specs.declared.processors.Processor.{Processor}
use Rattle.ptdump_json.specs.declared.registers.Registers.{Registers}
use Rattle.ptdump_json.specs.declared.options.Form.{Form}
use Rattle.ptdump_json.specs.declared.options.Form.TheVariants.{Text, Json}

-- ---- each processor

-- The processor with this number and these control registers. A number of levels in the request goes before that by CR4.
abbrev pub processor_with : (given : Option Levels) → (cpu : ℕ) → Registers → Processor
processor_with given cpu r = record {
  cpu = cpu;
  mode = mode_of r.cr0 r.cr4;
  start = start_by_processor given r;
}

-- The processors of notes in order, numbered from `cpu` on, or why one of the notes can't be read.
abbrev pub processors_from : (file : List ℕ) → (given : Option Levels) → (cpu : ℕ) → List Note
    → Result (List Processor) Failure
processors_from file given cpu [] = Ok []
processors_from file given cpu (note ∷ notes) = and_then (of_dump (registers_of file note)) (λ registers.
    and_then (processors_from file given (cpu + 1) notes)
    (λ others. Ok (processor_with given cpu registers ∷ others)))

-- Whether the mode is 64-bit paging.
abbrev pub is_64_bit : Mode → Bool
is_64_bit Paging64 = true
is_64_bit mode = false

-- Whether a processor is in 64-bit paging, and so has tables that are read here.
abbrev pub has_tables : Processor → Bool
has_tables p = is_64_bit p.mode

-- The failure that no processor has tables, by the first of the processors, if there is one.
abbrev pub mode_failure : Option Processor → Failure
mode_failure None = failures.NoProcessors
mode_failure (Some p) = failures.WrongMode p.cpu p.mode

-- The failure that none of the processors has tables, or None if one has.
abbrev pub modes_failure : List Processor → Option Failure
modes_failure ps = if list_any has_tables ps then None else Some (mode_failure (slice_get ps 0))

-- ---- those with the same tables

-- Whether two numbers of levels are equal.
abbrev pub are_same_levels : Levels → Levels → Bool
are_same_levels Four Four = true
are_same_levels Five Five = true
are_same_levels a b = false

-- Whether the processor `other` has tables, with the root and the number of levels of `one`.
abbrev pub shares : (one other : Processor) → Bool
shares p q = has_tables q && p.start.root == q.start.root && are_same_levels p.start.levels q.start.levels

-- Whether one of the processors has a lower number and the same tables as this one.
abbrev pub is_later : List Processor → Processor → Bool
is_later ps p = list_any (λ q. nat_lt q.cpu p.cpu && shares p q) ps

-- Whether a processor has tables, and none of the processors with a lower number has the same.
abbrev pub is_first : List Processor → Processor → Bool
is_first ps p = has_tables p && not (is_later ps p)

-- The first of the processors with each root and number of levels, in order.
abbrev pub firsts_of : List Processor → List Processor
firsts_of ps = filter (is_first ps) ps

-- The numbers of those processors that have the tables of this one, in order.
abbrev pub cpus_with : List Processor → Processor → List ℕ
cpus_with ps p = map (λ q. q.cpu) (filter (shares p) ps)

-- ---- what is said of them

-- The text that processor `cpu` is left out, with its mode of paging.
abbrev pub left_out_told : (cpu : ℕ) → Mode → List ℕ
left_out_told cpu mode =
    codes "processor " ++ decimal cpu ++ codes " " ++ mode_told mode ++ codes ": it is left out"

-- The line that a processor is left out, or nothing if it has tables.
abbrev pub left_out_line : Processor → List ℕ
left_out_line p = if has_tables p then [] else line (left_out_told p.cpu p.mode)

-- A line for each of the processors that has no tables.
abbrev pub left_out_text : List Processor → List ℕ
left_out_text ps = flat_map left_out_line ps

-- The line above the report on a root, in a form: the numbers of the processors that have it, and its address.
abbrev pub heading_text : Form → (cpus : List ℕ) → (root : ℕ) → List ℕ
heading_text Text cpus root =
    line (codes "cpu " ++ join_by decimal (codes ",") cpus ++ codes " root " ++ hexadecimal root)
heading_text Json cpus root = json_line (json_of_group cpus root)
