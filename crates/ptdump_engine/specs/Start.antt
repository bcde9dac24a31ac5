-- Start: the root and the number of levels, from the request, QEMU's note of a processor or Linux's VMCOREINFO.
-- Intel SDM vol. 3A, "Control Registers": bits 12 to 51 of CR3 are the address of the root's table.
use Rattle.std.specs.Prelude.{ℕ, ◌&&◌, ◌||◌, if◌then◌else◌, List, [], ◌∷◌, length, slice_get, Option, None, Some, is_none, Result, Ok, Err}
use Rattle.std.specs.Option.{option_map_or, unwrap_or}
use Rattle.x86_64_dump.specs.Dump.{Contents}
use Rattle.x86_64_dump.specs.Notes.{is_of_virtualbox, processors_of, register_of}
use Rattle.x86_64_dump.specs.VmCoreInfo.{kernel_in}
use Rattle.x86_64_dump.specs.declared.kernel_text.KernelText.{KernelText}
use Rattle.x86_64_dump.specs.declared.note.Note.{Note}
use Rattle.x86_64_dump.specs.declared.vmcoreinfo.Kernel.{Kernel}
use Rattle.x86_64_model.specs.Entry.{address}
use Rattle.ptdump_engine.specs.declared.failure.Failure.{Failure}
use Rattle.ptdump_engine.specs.declared.failure.Failure.TheVariants as failures
use Rattle.x86_64_addr.specs.declared.level_count.Levels.{Levels}
use Rattle.x86_64_addr.specs.declared.level_count.Levels.TheVariants.{Four}
use Rattle.ptdump_json.specs.declared.mode.Mode.{Mode}
use Rattle.ptdump_json.specs.Paging.{levels_by_cr4, mode_of, registers_of}
use Rattle.ptdump_json.specs.declared.mode.Mode.TheVariants.{Paging64}
use Rattle.ptdump_json.specs.declared.registers.Registers.{Registers}
use Rattle.ptdump_engine.specs.declared.request.Request.{Request}
use Rattle.ptdump_json.specs.declared.start.Origin.{Origin}
use Rattle.ptdump_json.specs.declared.start.Origin.TheVariants.{ByRequest, ByProcessor, ByKernel, ByText}
use Rattle.ptdump_json.specs.declared.start.Start.{Start}
use Rattle.ptdump_engine.specs.Steps.{and_then, of_dump}

-- The note of processor `cpu`, counted from 0, None if the file has no notes of processors at all, or a failure if it has others.
abbrev pub note_of : (cpu : ℕ) → (notes : List Note) → Result (Option Note) Failure
note_of cpu [] = Ok None
note_of cpu (note ∷ notes) = option_map_or (λ n. Ok (Some n)) (slice_get (note ∷ notes) cpu) (Err (failures.NoProcessor cpu (length (note ∷ notes))))

-- The note of the requested processor, or None if it isn't needed. It is needed if the request has no CR3 or no number of levels,
-- and no text of VMCOREINFO.
abbrev pub note_needed : Request → Contents → Result (Option Note) Failure
note_needed request dump =
    if (is_none request.cr3 || is_none request.levels) && is_none request.vmcoreinfo then note_of (unwrap_or request.cpu 0) (processors_of dump) else Ok None

-- The registers if the mode is 64-bit paging, or else the failure that processor `cpu` has another mode.
abbrev pub in_64_bit : (cpu : ℕ) → Registers → Mode → Result Registers Failure
in_64_bit cpu r Paging64 = Ok r
in_64_bit cpu r mode = Err (failures.WrongMode cpu mode)

-- The control registers of processor `cpu` by its note, or why they can't be read or aren't those of 64-bit paging.
unfoldable pub paging_registers : (file : List ℕ) → (cpu : ℕ) → Note → Result Registers Failure
paging_registers file cpu note = and_then (of_dump (registers_of file note)) (λ r. in_64_bit cpu r (mode_of r.cr0 r.cr4))

-- The number of levels in the request, or else that by the CR4 in a processor's note, or four without a note.
abbrev pub levels_in_file : (file : List ℕ) → (given : Option Levels) → Option Note → Result Levels Failure
levels_in_file file (Some levels) _ = Ok levels
levels_in_file file None None = Ok Four
levels_in_file file None (Some note) = and_then (of_dump (register_of file note 424)) (λ cr4. Ok (levels_by_cr4 cr4))

-- The start of page walks at the root in the request's CR3, with these levels.
abbrev pub start_by_request : (cr3 : ℕ) → Levels → Start
start_by_request cr3 levels = record { root = address cr3; levels = levels; origin = ByRequest; noted_levels = None; registers = None }

-- The start of page walks at the root of a processor with these registers. A number of levels in the request goes before that by
-- CR4.
abbrev pub start_by_processor : (given : Option Levels) → Registers → Start
start_by_processor given r = record {
  root = address r.cr3;
  levels = unwrap_or given (levels_by_cr4 r.cr4);
  origin = ByProcessor;
  noted_levels = Some (levels_by_cr4 r.cr4);
  registers = Some r;
}

-- The origin of the kernel's root: the first of the texts of VMCOREINFO in memory, or if there are none the note.
abbrev pub origin_by : (first : Option KernelText) → Origin
origin_by (Some text) = ByText text.offset
origin_by None = ByKernel

-- The origin of the kernel's root in a dump: the first of its texts of VMCOREINFO in memory, or if it has none its note.
abbrev pub origin_of : Contents → Origin
origin_of dump = origin_by (slice_get dump.texts 0)

-- The start of page walks at a kernel's root, or the failure that there is no kernel. A number of levels in the request goes
-- before the kernel's.
abbrev pub start_by : Contents → (levels : Option Levels) → Option Kernel → Result Start Failure
start_by dump levels (Some kernel) = Ok (record {
  root = kernel.root;
  levels = unwrap_or levels kernel.levels;
  origin = origin_of dump;
  noted_levels = Some kernel.levels;
  registers = None;
})
start_by dump levels None = Err (if is_of_virtualbox dump then failures.VirtualBox else failures.NoCr3)

-- The start of page walks at the root of the kernel that VMCOREINFO describes, or why there is none.
unfoldable pub kernel_start : Contents → (levels : Option Levels) → Result Start Failure
kernel_start dump levels = and_then (of_dump (kernel_in dump)) (start_by dump levels)

-- The start of page walks at the root in the request's CR3, or else at that in a processor's note, or else at the kernel's.
abbrev pub start_with : Request → Contents → (given : Option ℕ) → Option Note → Result Start Failure
start_with request dump (Some cr3) note = and_then (levels_in_file dump.file request.levels note) (λ levels. Ok (start_by_request cr3 levels))
start_with request dump None (Some note) = and_then (paging_registers dump.file (unwrap_or request.cpu 0) note) (λ r.
    Ok (start_by_processor request.levels r))
start_with request dump None None = kernel_start dump request.levels

-- The start of page walks in a dump for a request, or why no root is found.
unfoldable pub start_of : Request → Contents → Result Start Failure
start_of request dump = and_then (note_needed request dump) (start_with request dump request.cr3)
