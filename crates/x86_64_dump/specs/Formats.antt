-- Formats: the formats of files, by the magic numbers that they begin with. System V ABI, "ELF Identification"; LiME, "lime.h";
-- AVML, "image.rs"; makedumpfile, "makedumpfile.h", "diskdump_mod.h"; VMware's states as crash reads them, "vmware_vmss.h"; VirtualBox,
-- "SSM.cpp"; QEMU, "savevm.h"; libvirt, "qemu_saveimage.h"; Windows' hibernation files as Volatility reads them; RFC 1952, RFC 8878.
pub mod Elf
pub mod Lime
use Rattle.std.specs.Prelude.{ℕ, Bool, true, false, List, [], ◌∷◌, ◌++◌, codes, drop, nat_eq, length, option_map, unwrap_or, Result, Err}
use Rattle.std.specs.List.{find, starts_with}
use Rattle.x86_64_dump.specs.Formats.Elf.{elf_segments, header_of}
use Rattle.x86_64_dump.specs.Formats.Lime.{lime_segments}
use Rattle.x86_64_dump.specs.Placement.{raw_segments, refuse_stated}
use Rattle.x86_64_dump.specs.Steps.{and_then}
use Rattle.x86_64_dump.specs.declared.placement.Placement.{Placement}
use Rattle.x86_64_dump.specs.declared.segment.Segment.{Segment}
use Rattle.x86_64_dump.specs.declared.error.Fault.{Fault}
use Rattle.x86_64_dump.specs.declared.error.Fault.TheVariants as faults
use Rattle.x86_64_dump.specs.declared.formats.Format.{Format}
use Rattle.x86_64_dump.specs.declared.formats.Format.TheVariants as formats
use Rattle.x86_64_dump.specs.declared.formats.UnreadFormat.{UnreadFormat}
use Rattle.x86_64_dump.specs.declared.formats.UnreadFormat.TheVariants as unread

-- A row of the table of formats: a magic number, the offset of its first byte, and the format of files that have it.
pub record Row : Type 0 where
  pub offset : ℕ
  pub magic : List ℕ
  pub format : Format

-- The row with this offset, magic number and format.
abbrev pub row : (offset : ℕ) → (magic : List ℕ) → Format → Row
row offset magic format = record { offset = offset; magic = magic; format = format }

-- The row of a magic number whose format isn't read.
abbrev pub unread_row : (offset : ℕ) → (magic : List ℕ) → UnreadFormat → Row
unread_row offset magic format = row offset magic (formats.Unread format)

-- The table of formats. If a file has the magic numbers of several rows, the first of these rows counts.
abbrev pub rows : List Row
rows =
    row 0 (0x7f ∷ codes "ELF") formats.Elf
    ∷ row 0 (codes "EMiL") formats.Lime
    ∷ unread_row 0 (codes "AVML") unread.Avml
    ∷ unread_row 0 (codes "makedumpfile" ++ 0 ∷ 0 ∷ 0 ∷ 0 ∷ []) unread.Flattened
    ∷ unread_row 0 (codes "KDUMP   ") unread.Kdump
    ∷ unread_row 0 (codes "DISKDUMP") unread.Kdump
    ∷ unread_row 0 (codes "PAGEDU64") unread.WindowsCrash
    ∷ unread_row 0 (codes "PAGEDUMP") unread.WindowsCrash
    ∷ unread_row 0 (codes "HIBR") unread.WindowsHibernation
    ∷ unread_row 0 (codes "hibr") unread.WindowsHibernation
    ∷ unread_row 0 (codes "WAKE") unread.WindowsHibernation
    ∷ unread_row 0 (codes "wake") unread.WindowsHibernation
    ∷ unread_row 0 (0xd0 ∷ 0xbe ∷ 0xd0 ∷ 0xbe ∷ []) unread.VmwareState
    ∷ unread_row 0 (0xd0 ∷ 0xbe ∷ 0xd2 ∷ 0xbe ∷ []) unread.VmwareState
    ∷ unread_row 0 (0xd2 ∷ 0xbe ∷ 0xd2 ∷ 0xbe ∷ []) unread.VmwareState
    ∷ unread_row 0 (0xd3 ∷ 0xbe ∷ 0xd3 ∷ 0xbe ∷ []) unread.VmwareState
    ∷ unread_row 0 (0xd1 ∷ 0xba ∷ 0xd1 ∷ 0xba ∷ []) unread.VmwareState
    ∷ unread_row 0 (0x7f ∷ codes "VirtualBox SavedState V") unread.VirtualBoxState
    ∷ unread_row 0 (codes "QEVM") unread.QemuState
    ∷ unread_row 0 (codes "LibvirtQemudSave") unread.QemuState
    ∷ unread_row 0 (codes "LibvirtQemudPart") unread.QemuState
    ∷ unread_row 0 (0x1f ∷ 0x8b ∷ []) unread.Gzip
    ∷ unread_row 0 (0xfd ∷ codes "7zXZ" ++ 0 ∷ []) unread.Xz
    ∷ unread_row 0 (0x28 ∷ 0xb5 ∷ 0x2f ∷ 0xfd ∷ []) unread.Zstd
    ∷ unread_row 0 (0x04 ∷ 0x22 ∷ 0x4d ∷ 0x18 ∷ []) unread.Lz4
    ∷ unread_row 0 (0x02 ∷ 0x21 ∷ 0x4c ∷ 0x18 ∷ []) unread.Lz4
    ∷ unread_row 0 (codes "BZh") unread.Bzip2
    ∷ unread_row 0 (codes "PK" ++ 0x03 ∷ 0x04 ∷ []) unread.Zip
    ∷ []

-- Whether a file has the magic number of a row at the row's offset.
abbrev pub has_magic : (file : List ℕ) → Row → Bool
has_magic file row = starts_with nat_eq (drop row.offset file) row.magic

-- The format of a file: that of the first row whose magic number it has, or else raw.
unfoldable pub format_of : (file : List ℕ) → Format
format_of file = unwrap_or (option_map (λ row. row.format) (find (has_magic file) rows)) formats.Raw

-- Whether the format is raw: the bytes of the file are those of physical memory.
abbrev pub is_raw : Format → Bool
is_raw formats.Raw = true
is_raw format = false

-- The name of a format that is read, or the text for one that isn't.
abbrev pub format_name : Format → List ℕ
format_name formats.Raw = codes "raw"
format_name formats.Elf = codes "ELF core"
format_name formats.Lime = codes "LiME"
format_name (formats.Unread format) = codes "none that is read"

-- The segments of a file of a format, or why it isn't a dump. Only a raw file may have a placement.
abbrev pub segments_of : Format → (file : List ℕ) → Placement → Result (List Segment) Fault
segments_of formats.Raw file placement = raw_segments (length file) placement
segments_of formats.Elf file placement = and_then (refuse_stated placement) (λ _. elf_segments file (header_of file))
segments_of formats.Lime file placement = and_then (refuse_stated placement) (λ _. lime_segments file)
segments_of (formats.Unread format) file placement = Err (faults.Unread format)
