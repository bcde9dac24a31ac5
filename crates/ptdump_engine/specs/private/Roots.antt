-- Roots: the parts of reports on the tables of all processors.
use Rattle.std.specs.Prelude.{◌≡◌, ℕ, ◌==◌, ◌++◌, if◌then◌else◌, List, Option, String, codes, decimal}
use Rattle.std.specs.Io.KnownBytes.{Appends}
use Rattle.std.specs.declared.alloc.Global.{Global}
use Rattle.x86_64_model.specs.Memory.{Words}
use Rattle.ptdump_engine.specs.Processors.{firsts_of, left_out_text}
use Rattle.ptdump_engine.specs.Program.{EndsByTotalsOf}
use Rattle.ptdump_engine.specs.Steps.{InTurn}
use Rattle.ptdump_engine.specs.declared.output.Output.{Output}
use Rattle.ptdump_engine.specs.declared.processors.Processor.{Processor}
use Rattle.ptdump_engine.specs.declared.request.Command.{Command}

-- The text of a number in a list, by its index: its decimal digits, behind a comma if it isn't the first.
abbrev pub number_at : (index n : ℕ) → List ℕ
number_at i n = if i == 0 then decimal n else codes "," ++ decimal n

-- The notes on the tables of all processors were written to an output: which processors have no tables, and then for each root how
-- many words have reserved bits, if the command wants that, and the totals of its tables.
abbrev pub AreNoted : {W : Type 0} → (contents : W → Option (List ℕ)) → Command → Words → List Processor → (old new : Output W (String Global)) → Type 0
AreNoted contents command T ps old new = (new.writer.ghost_name ≡ old.writer.ghost_name)
    × (between : Option (List ℕ)) × Appends (contents old.writer.now) between (left_out_text ps)
    × InTurn (EndsByTotalsOf command T) (firsts_of ps) between (contents new.writer.now)
