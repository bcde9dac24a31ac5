-- Paging: what control registers say of paging: its mode, and the number of levels of tables.
-- Intel SDM vol. 3A, "Control Registers": bit 31 of CR0 is PG, bits 5 and 12 of CR4 are PAE and LA57.
use Rattle.std.specs.Prelude.{ℕ, not, if◌then◌else◌, List, Result, Ok}
use Rattle.x86_64_addr.specs.declared.level_count.Levels.{Levels}
use Rattle.x86_64_addr.specs.declared.level_count.Levels.TheVariants.{Four, Five}
use Rattle.x86_64_dump.specs.Notes.{register_of}
use Rattle.x86_64_dump.specs.Steps.{and_then}
use Rattle.x86_64_dump.specs.declared.error.Fault.{Fault}
use Rattle.x86_64_dump.specs.declared.note.Note.{Note}
use Rattle.x86_64_model.specs.Entry.{has}
use Rattle.ptdump_json.specs.declared.mode.Mode.{Mode}
use Rattle.ptdump_json.specs.declared.mode.Mode.TheVariants.{NoPaging, Paging32, Paging64}
use Rattle.ptdump_json.specs.declared.registers.Registers.{Registers}

-- The mode of paging by the bits PG of CR0 and PAE of CR4.
abbrev pub mode_of : (cr0 cr4 : ℕ) → Mode
mode_of cr0 cr4 = if not (has cr0 0x8000_0000) then NoPaging else if not (has cr4 0x20) then Paging32 else Paging64

-- The control registers of a processor by its note, or the fault that the note is too short.
unfoldable pub registers_of : (file : List ℕ) → Note → Result Registers Fault
registers_of file note = and_then (register_of file note 416) (λ cr3.
    and_then (register_of file note 392) (λ cr0.
    and_then (register_of file note 424) (λ cr4. Ok (record { cr0 = cr0; cr3 = cr3; cr4 = cr4 }))))

-- The number of levels of tables, 4 or 5.
abbrev pub level_count : Levels → ℕ
level_count Four = 4
level_count Five = 5

-- The number of levels by CR4: five if LA57 is on, and four otherwise.
abbrev pub levels_by_cr4 : (cr4 : ℕ) → Levels
levels_by_cr4 cr4 = if has cr4 0x1000 then Five else Four
