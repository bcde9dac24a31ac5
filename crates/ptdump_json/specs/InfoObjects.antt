-- InfoObjects: what `ptdump info` tells of a dump, as JSON objects: each has one member, which is named after what is told.
use Rattle.std.specs.Prelude.{ℕ, List, Option, None, Some, codes}
use Rattle.serde_json.specs.Data.{Data, string, object, Members, member, no_members}
use Rattle.x86_64_addr.specs.declared.level_count.Levels.{Levels}
use Rattle.x86_64_dump.specs.declared.formats.Format.{Format}
use Rattle.x86_64_dump.specs.declared.vmcoreinfo.Kernel.{Kernel}
use Rattle.x86_64_dump.specs.Formats.{format_name}
use Rattle.ptdump_json.specs.InfoTexts.{cut_text, mode_name}
use Rattle.ptdump_json.specs.Json.{json_count, hexadecimal_string}
use Rattle.ptdump_json.specs.Paging.{level_count, levels_by_cr4, mode_of}
use Rattle.ptdump_json.specs.declared.mode.Mode.{Mode}
use Rattle.ptdump_json.specs.declared.mode.Mode.TheVariants.{NoPaging, Paging32, Paging64}
use Rattle.ptdump_json.specs.declared.registers.Registers.{Registers}
use Rattle.ptdump_json.specs.declared.start.Origin.{Origin}
use Rattle.ptdump_json.specs.declared.start.Origin.TheVariants.{ByRequest, ByProcessor, ByKernel, ByText}
use Rattle.ptdump_json.specs.declared.start.Start.{Start}

-- The object with this member alone.
abbrev pub named_member : (name : List ℕ) → Data → Data
named_member name value = object (member name value no_members)

-- The object of the reason why something isn't known.
abbrev pub json_of_error : (error : List ℕ) → Data
json_of_error error = named_member (codes "error") (string error)

-- The object of a dump's format.
abbrev pub json_of_format : Format → Data
json_of_format format = named_member (codes "format") (string (format_name format))

-- The object of memory with physical addresses: its number of bytes, and its first and last address.
abbrev pub json_of_memory : (first last size : ℕ) → Data
json_of_memory first last size = named_member (codes "memory") (object (
    member (codes "bytes") (json_count size)
    (member (codes "first") (hexadecimal_string first)
    (member (codes "last") (hexadecimal_string last) no_members))))

-- The object of memory without a physical address: its number of bytes.
abbrev pub json_of_unplaced : (size : ℕ) → Data
json_of_unplaced size = named_member (codes "unplaced_memory") (named_member (codes "bytes") (json_count size))

-- ---- processors

-- The members of a mode of paging, and for 64-bit paging of the number of levels by CR4.
abbrev pub paging_members : (cr4 : ℕ) → Mode → Members
paging_members cr4 NoPaging = member (codes "mode") (string (mode_name NoPaging)) no_members
paging_members cr4 Paging32 = member (codes "mode") (string (mode_name Paging32)) no_members
paging_members cr4 Paging64 =
    member (codes "levels") (json_count (level_count (levels_by_cr4 cr4))) (member (codes "mode") (string (mode_name Paging64)) no_members)

-- The object of processor `cpu`: its number, its control registers, and its mode of paging.
abbrev pub json_of_registers : (cpu : ℕ) → Registers → Mode → Data
json_of_registers cpu r mode = object (
    member (codes "cpu") (json_count cpu)
    (member (codes "cr0") (hexadecimal_string r.cr0)
    (member (codes "cr3") (hexadecimal_string r.cr3)
    (member (codes "cr4") (hexadecimal_string r.cr4)
    (paging_members r.cr4 mode)))))

-- The object of processor `cpu`, with its registers if they are known, or else with the reason why they aren't.
abbrev pub json_of_processor : (cpu : ℕ) → Option Registers → Data
json_of_processor cpu (Some r) = named_member (codes "processor") (json_of_registers cpu r (mode_of r.cr0 r.cr4))
json_of_processor cpu None = named_member (codes "processor") (object (
    member (codes "cpu") (json_count cpu)
    (member (codes "error") (string cut_text) no_members)))

-- ---- roots

-- The object of the kernel that VMCOREINFO describes: its root, its levels, and its encryption mask.
abbrev pub json_of_kernel : Kernel → Data
json_of_kernel kernel = named_member (codes "kernel") (object (
    member (codes "encryption_mask") (hexadecimal_string kernel.encryption_mask)
    (member (codes "levels") (json_count (level_count kernel.levels))
    (member (codes "root") (hexadecimal_string kernel.root) no_members))))

-- The object of the reason why VMCOREINFO describes no kernel.
abbrev pub json_of_no_kernel : (error : List ℕ) → Data
json_of_no_kernel error = named_member (codes "kernel") (json_of_error error)

-- The members of a root: its address, the number of levels, and its origin. This is --cr3, a processor, which is named, the
-- kernel's note, or a text at an offset of the file.
abbrev pub root_members : (cpu root : ℕ) → Levels → Origin → Members
root_members cpu root levels ByRequest =
    member (codes "address") (hexadecimal_string root)
    (member (codes "levels") (json_count (level_count levels))
    (member (codes "origin") (string (codes "--cr3")) no_members))
root_members cpu root levels ByProcessor =
    member (codes "address") (hexadecimal_string root)
    (member (codes "cpu") (json_count cpu)
    (member (codes "levels") (json_count (level_count levels))
    (member (codes "origin") (string (codes "processor")) no_members)))
root_members cpu root levels ByKernel =
    member (codes "address") (hexadecimal_string root)
    (member (codes "levels") (json_count (level_count levels))
    (member (codes "origin") (string (codes "kernel")) no_members))
root_members cpu root levels (ByText offset) =
    member (codes "address") (hexadecimal_string root)
    (member (codes "levels") (json_count (level_count levels))
    (member (codes "offset") (json_count offset)
    (member (codes "origin") (string (codes "memory")) no_members)))

-- The object of the root that other commands take if processor `cpu` is requested.
abbrev pub json_of_root : (cpu : ℕ) → Start → Data
json_of_root cpu start = named_member (codes "root") (object (root_members cpu start.root start.levels start.origin))

-- The object of the reason why other commands find no root.
abbrev pub json_of_no_root : (error : List ℕ) → Data
json_of_no_root error = named_member (codes "root") (json_of_error error)
