-- InfoTexts: what `ptdump info` tells of a dump, as text.
use Rattle.std.specs.Prelude.{ℕ, ◌++◌, ◌==◌, if◌then◌else◌, List, [], Option, None, Some, codes, decimal}
use Rattle.x86_64_addr.specs.declared.level_count.Levels.{Levels}
use Rattle.x86_64_addr.specs.declared.level_count.Levels.TheVariants.{Four, Five}
use Rattle.x86_64_dump.specs.Formats.{format_name}
use Rattle.x86_64_dump.specs.declared.formats.Format.{Format}
use Rattle.x86_64_dump.specs.declared.kernel_text.KernelText.{KernelText}
use Rattle.x86_64_dump.specs.declared.vmcoreinfo.Kernel.{Kernel}
use Rattle.text.specs.Numbers.{hexadecimal}
use Rattle.text.specs.Sizes.{size_text}
use Rattle.ptdump_json.specs.Paging.{levels_by_cr4, mode_of}
use Rattle.ptdump_json.specs.declared.mode.Mode.{Mode}
use Rattle.ptdump_json.specs.declared.mode.Mode.TheVariants.{NoPaging, Paging32, Paging64}
use Rattle.ptdump_json.specs.declared.registers.Registers.{Registers}
use Rattle.ptdump_json.specs.declared.start.Origin.{Origin}
use Rattle.ptdump_json.specs.declared.start.Origin.TheVariants.{ByRequest, ByProcessor, ByKernel, ByText}
use Rattle.ptdump_json.specs.declared.start.Start.{Start}

-- The text of a dump's format.
abbrev pub format_text : Format → List ℕ
format_text format = codes "format: " ++ format_name format

-- The text of a number of levels of tables.
abbrev pub levels_text : Levels → List ℕ
levels_text Four = codes "4 levels"
levels_text Five = codes "5 levels"

-- The text "memory FIRST-LAST SIZE" of memory with physical addresses.
unfoldable pub memory_text : (first last size : ℕ) → List ℕ
memory_text first last size =
    codes "memory " ++ hexadecimal first ++ codes "-" ++ hexadecimal last ++ codes " " ++ size_text size

-- The text "memory without a physical address SIZE".
abbrev pub unplaced_text : (size : ℕ) → List ℕ
unplaced_text size = codes "memory without a physical address " ++ size_text size

-- ---- processors

-- The text of a register: its name and its value.
unfoldable pub register_text : (name : List ℕ) → (value : ℕ) → List ℕ
register_text name value = name ++ codes " " ++ hexadecimal value

-- The text of the values of CR0, CR3 and CR4.
unfoldable pub values_text : Registers → List ℕ
values_text r =
    register_text (codes "CR0") r.cr0 ++ codes ", " ++ register_text (codes "CR3") r.cr3 ++ codes ", "
    ++ register_text (codes "CR4") r.cr4

-- The name of a mode of paging.
abbrev pub mode_name : Mode → List ℕ
mode_name NoPaging = codes "no paging"
mode_name Paging32 = codes "32-bit paging"
mode_name Paging64 = codes "64-bit paging"

-- The text of a mode of paging, with the bit of CR0 or CR4 that shows it unless it is 64-bit paging.
abbrev pub mode_told : Mode → List ℕ
mode_told NoPaging = codes "has no paging, as bit 31 of its CR0 is 0"
mode_told Paging32 = codes "has 32-bit paging, as bit 5 of its CR4 is 0"
mode_told Paging64 = codes "has 64-bit paging"

-- The text of a mode of paging, and for 64-bit paging of the number of levels by CR4.
abbrev pub paging_text : (cr4 : ℕ) → Mode → List ℕ
paging_text cr4 NoPaging = mode_name NoPaging
paging_text cr4 Paging32 = mode_name Paging32
paging_text cr4 Paging64 = mode_name Paging64 ++ codes ", " ++ levels_text (levels_by_cr4 cr4)

-- The text of a processor's control registers, and of its mode of paging.
unfoldable pub registers_text : Registers → List ℕ
registers_text r = values_text r ++ codes ", " ++ paging_text r.cr4 (mode_of r.cr0 r.cr4)

-- The text of the reason why the registers of a processor aren't known.
abbrev pub cut_text : List ℕ
cut_text = codes "its note ends before CR4 does"

-- The text of processor `cpu`, with its registers if they are known, or else with the reason why they aren't.
abbrev pub processor_text : (cpu : ℕ) → Option Registers → List ℕ
processor_text cpu (Some registers) =
    codes "processor " ++ decimal cpu ++ codes ": " ++ registers_text registers
processor_text cpu None = codes "processor " ++ decimal cpu ++ codes ": " ++ cut_text

-- ---- roots

-- The text "ROOT, LEVELS" of a root and its number of levels.
unfoldable pub root_place_text : (root : ℕ) → Levels → List ℕ
root_place_text root levels = hexadecimal root ++ codes ", " ++ levels_text levels

-- The text of the bits by which the kernel marks encrypted memory, or nothing if there are no such bits.
abbrev pub mask_text : (mask : ℕ) → List ℕ
mask_text mask = if mask == 0 then [] else codes ", encryption mask " ++ hexadecimal mask

-- The text of the kernel that VMCOREINFO describes: its root, its levels, and its encryption mask.
abbrev pub kernel_text : Kernel → List ℕ
kernel_text kernel =
    codes "kernel (VMCOREINFO): root " ++ root_place_text kernel.root kernel.levels
    ++ mask_text kernel.encryption_mask

-- The text of the offset in the file at which a text of VMCOREINFO begins.
unfoldable pub text_place : (offset : ℕ) → List ℕ
text_place offset = codes "VMCOREINFO at byte " ++ (decimal offset ++ codes " of the file: root ")

-- The text of where a text of VMCOREINFO begins, and of the kernel that it describes.
unfoldable pub text_told : KernelText → List ℕ
text_told text =
    text_place text.offset ++ root_place_text text.kernel.root text.kernel.levels
    ++ mask_text text.kernel.encryption_mask

-- The text of the reason why VMCOREINFO describes no kernel.
abbrev pub no_kernel_text : (error : List ℕ) → List ℕ
no_kernel_text error = codes "kernel (VMCOREINFO): " ++ error

-- The text of where a root comes from, where `cpu` is the processor that is requested.
abbrev pub origin_text : (cpu : ℕ) → Origin → List ℕ
origin_text cpu ByRequest = codes "as --cr3 says"
origin_text cpu ByProcessor = codes "of processor " ++ decimal cpu
origin_text cpu ByKernel = codes "of the kernel"
origin_text cpu (ByText offset) =
    codes "of the kernel, as the text at byte " ++ decimal offset ++ codes " says"

-- The text of the root that other commands take if processor `cpu` is requested.
abbrev pub root_text : (cpu : ℕ) → Start → List ℕ
root_text cpu start =
    codes "root: " ++ root_place_text start.root start.levels ++ codes ", " ++ origin_text cpu start.origin

-- The text of the reason why other commands find no root.
abbrev pub no_root_text : (error : List ℕ) → List ℕ
no_root_text error = codes "root: none: " ++ error
