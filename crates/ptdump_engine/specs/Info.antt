-- Info: what `ptdump info` tells of a dump: its format, its memory, its processors, its kernel, and the root that other commands
-- take. Each of them is a line, of text or of JSON.
use Rattle.std.specs.Prelude.{ℕ, ◌++◌, ◌==◌, ◌&&◌, not, if◌then◌else◌, List, [], Option, None, Some, Result, Ok, Err, unwrap_or}
use Rattle.std.specs.List.{enumerate_from, flat_map}
use Rattle.x86_64_dump.specs.Dump.{Contents}
use Rattle.x86_64_dump.specs.FaultTexts.{dump_fault_text}
use Rattle.x86_64_dump.specs.Notes.{processors_of}
use Rattle.x86_64_dump.specs.Segments.{has_address}
use Rattle.x86_64_dump.specs.VmCoreInfo.{kernel_in}
use Rattle.x86_64_dump.specs.declared.error.Fault.{Fault}
use Rattle.x86_64_dump.specs.declared.formats.Format.{Format}
use Rattle.x86_64_dump.specs.declared.note.Note.{Note}
use Rattle.x86_64_dump.specs.declared.segment.Segment.{Segment}
use Rattle.x86_64_dump.specs.declared.vmcoreinfo.Kernel.{Kernel}
use Rattle.ptdump_engine.specs.FailureTexts.{failure_text}
use Rattle.ptdump_json.specs.InfoObjects.{json_of_format, json_of_kernel, json_of_memory, json_of_no_kernel, json_of_no_root, json_of_processor, json_of_root, json_of_unplaced}
use Rattle.ptdump_json.specs.InfoTexts.{format_text, kernel_text, memory_text, no_kernel_text, no_root_text, processor_text, root_text, unplaced_text}
use Rattle.ptdump_json.specs.Lines.{line_in}
use Rattle.ptdump_engine.specs.MemoryRanges.{last_address}
use Rattle.ptdump_json.specs.Paging.{registers_of}
use Rattle.ptdump_engine.specs.declared.failure.Failure.{Failure}
use Rattle.ptdump_json.specs.declared.registers.Registers.{Registers}
use Rattle.ptdump_json.specs.declared.options.Form.{Form}
use Rattle.ptdump_json.specs.declared.start.Start.{Start}

-- The line of the dump's format, in a form.
abbrev pub format_line : Form → Format → List ℕ
format_line form format = line_in form (format_text format) (json_of_format format)

-- The line of memory that has physical addresses, by its segment.
abbrev pub placed_line : Form → Segment → List ℕ
placed_line form s = line_in form (memory_text s.address (last_address s) s.size) (json_of_memory s.address (last_address s) s.size)

-- The line of memory of `size` bytes whose physical address the file doesn't have.
abbrev pub unplaced_line : Form → (size : ℕ) → List ℕ
unplaced_line form size = line_in form (unplaced_text size) (json_of_unplaced size)

-- The line of a segment, or nothing if its kind isn't memory or it has no bytes.
abbrev pub memory_line : Form → Segment → List ℕ
memory_line form s =
    if s.kind == 1 && not (s.size == 0) then if has_address s then placed_line form s else unplaced_line form s.size else []

-- ---- processors

-- The registers that were read from a note, or None if the note is too short.
abbrev pub known_registers : Result Registers Fault → Option Registers
known_registers (Ok registers) = Some registers
known_registers (Err fault) = None

-- The line of processor `cpu`, with its registers if they are known.
abbrev pub processor_line : Form → (cpu : ℕ) → Option Registers → List ℕ
processor_line form cpu registers = line_in form (processor_text cpu registers) (json_of_processor cpu registers)

-- A line for each processor, in the order of the notes.
abbrev pub processor_lines : Form → (file : List ℕ) → List Note → List ℕ
processor_lines form file notes =
    flat_map (λ (cpu, note). processor_line form cpu (known_registers (registers_of file note))) (enumerate_from 0 notes)

-- ---- roots

-- The line that VMCOREINFO describes no kernel, and why.
abbrev pub no_kernel_line : Form → (error : List ℕ) → List ℕ
no_kernel_line form error = line_in form (no_kernel_text error) (json_of_no_kernel error)

-- The line of the kernel that VMCOREINFO describes, or of why it describes none, or nothing without VMCOREINFO.
abbrev pub kernel_line : Form → Result (Option Kernel) Fault → List ℕ
kernel_line form (Ok None) = []
kernel_line form (Ok (Some kernel)) = line_in form (kernel_text kernel) (json_of_kernel kernel)
kernel_line form (Err fault) = no_kernel_line form (unwrap_or (dump_fault_text fault) [])

-- The line that other commands find no root, and why.
abbrev pub no_root_line : Form → (error : List ℕ) → List ℕ
no_root_line form error = line_in form (no_root_text error) (json_of_no_root error)

-- The line of the root that other commands take if processor `cpu` is requested, or of why they find none.
abbrev pub root_line : Form → (cpu : ℕ) → Result Start Failure → List ℕ
root_line form cpu (Ok start) = line_in form (root_text cpu start) (json_of_root cpu start)
root_line form cpu (Err failure) = no_root_line form (unwrap_or (failure_text failure) [])

-- The report of `ptdump info`, where `found` is the root that other commands take if processor `cpu` is requested, or why they
-- find none.
unfoldable pub info_in : Form → (cpu : ℕ) → Contents → Result Start Failure → List ℕ
info_in form cpu dump found = format_line form dump.format
    ++ flat_map (memory_line form) dump.segments
    ++ processor_lines form dump.file (processors_of dump)
    ++ kernel_line form (kernel_in dump)
    ++ root_line form cpu found
