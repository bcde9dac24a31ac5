-- Noted controls: what QEMU's note of a processor says of the controls that decide accesses.
-- Intel SDM vol. 3A, "Control Registers": bit 16 of CR0 is WP, bits 20 and 21 of CR4 are SMEP and SMAP.
use Rattle.std.specs.Prelude.{ℕ, List, slice_get, Option, None, Some, unwrap_or, Result, Ok, Err}
use Rattle.std.specs.Option.{option_or}
use Rattle.x86_64_access.specs.declared.controls.Controls.{Controls}
use Rattle.x86_64_dump.specs.Dump.{Contents}
use Rattle.x86_64_dump.specs.Notes.{processors_of}
use Rattle.x86_64_dump.specs.declared.error.Fault.{Fault}
use Rattle.x86_64_dump.specs.declared.note.Note.{Note}
use Rattle.x86_64_model.specs.Entry.{has}
use Rattle.ptdump_json.specs.Paging.{mode_of, registers_of}
use Rattle.ptdump_json.specs.declared.mode.Mode.{Mode}
use Rattle.ptdump_json.specs.declared.mode.Mode.TheVariants.{Paging64}
use Rattle.ptdump_json.specs.declared.registers.Registers.{Registers}
use Rattle.ptdump_engine.specs.declared.request.Command.{Command}
use Rattle.ptdump_engine.specs.declared.request.Command.TheVariants as commands
use Rattle.ptdump_json.specs.declared.options.ControlsSource.{ControlsSource}
use Rattle.ptdump_json.specs.declared.options.ControlsSource.TheVariants.{Noted, Assumed}
use Rattle.ptdump_engine.specs.declared.request.Request.{Request}
use Rattle.ptdump_json.specs.declared.options.WalkOptions.{WalkOptions}

-- The registers if the mode is 64-bit paging, or else None.
abbrev pub registers_if : Mode → Registers → Option Registers
registers_if Paging64 r = Some r
registers_if mode r = None

-- The registers that were read, if they are those of a processor in 64-bit paging, or else None.
abbrev pub registers_in : Result Registers Fault → Option Registers
registers_in (Ok r) = registers_if (mode_of r.cr0 r.cr4) r
registers_in (Err fault) = None

-- The registers in a processor's note, if there is one and the processor is in 64-bit paging, or else None.
abbrev pub registers_of_note : (file : List ℕ) → Option Note → Option Registers
registers_of_note file None = None
registers_of_note file (Some note) = registers_in (registers_of file note)

-- The registers in the note of processor `cpu`, if the dump has one and the processor is in 64-bit paging, or else None.
abbrev pub noted_registers : (cpu : ℕ) → Contents → Option Registers
noted_registers cpu dump = registers_of_note dump.file (slice_get (processors_of dump) cpu)

-- The registers that were read already, or else those in the note of processor `cpu`.
abbrev pub registers_for : (read : Option Registers) → (cpu : ℕ) → Contents → Option Registers
registers_for read cpu dump = option_or read (noted_registers cpu dump)

-- The controls, but with WP, SMEP and SMAP by the registers.
abbrev pub controls_by : Registers → Controls → Controls
controls_by r c = record c { write_protect = has r.cr0 0x1_0000; smep = has r.cr4 0x10_0000; smap = has r.cr4 0x20_0000 }

-- The options of a walk, with controls by the registers in place of assumed ones if the registers are known.
abbrev pub options_by : ControlsSource → Option Registers → WalkOptions → WalkOptions
options_by Assumed (Some r) options = record options { controls = controls_by r options.controls; source = Noted }
options_by source registers options = options

-- The command, in which a walk has controls by the registers in place of assumed ones if the registers are known.
abbrev pub command_by : Option Registers → Command → Command
command_by registers (commands.Walk addresses options) = commands.Walk addresses (options_by options.source registers options)
command_by registers command = command

-- The request, in which a walk has controls by its processor's registers in place of assumed ones. The registers are those that
-- were read already, or else those in the note.
abbrev pub with_noted_controls : Request → Contents → (read : Option Registers) → Request
with_noted_controls request dump read = record request { command = command_by (registers_for read (unwrap_or request.cpu 0) dump) request.command }
