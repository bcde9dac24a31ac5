-- Areas: the areas of Linux's address space and where they lie, as far as it is known.
-- Linux, "Memory Management" in its documentation of x86-64 (Documentation/arch/x86/x86_64/mm.rst): the tables for four and for five levels.
use Rattle.std.specs.Prelude.{ℕ, ◌+◌, ◌-◌, ◌*◌, ◌^◌, ◌&&◌, Bool, false, codes, if◌then◌else◌, min, List, [], ◌∷◌, nat_le, nat_lt, Option, None, Some, option_map}
use Rattle.std.specs.List.{find}
use Rattle.std.specs.Option.{option_and_then}
use Rattle.x86_64_dump.specs.VmCoreInfo.{value_in}
use Rattle.x86_64_addr.specs.declared.level_count.Levels.{Levels}
use Rattle.x86_64_addr.specs.declared.level_count.Levels.TheVariants.{Four, Five}
use Rattle.linux_areas.specs.declared.area.Area.{Area}
use Rattle.linux_areas.specs.declared.area.Area.TheVariants.{User, LdtRemap, DirectMap, Vmalloc, Vmemmap, CpuEntryArea, EspFixup, Efi, KernelText, Modules, KernelTextOrModules, Fixmap, Vsyscall}
use Rattle.linux_areas.specs.declared.layout.Bounds.{Bounds}
use Rattle.linux_areas.specs.declared.layout.Layout.{Layout}

-- The name of an area, as text.
abbrev pub area_name : Area → List ℕ
area_name User = codes "user"
area_name LdtRemap = codes "LDT remap"
area_name DirectMap = codes "direct map"
area_name Vmalloc = codes "vmalloc"
area_name Vmemmap = codes "vmemmap"
area_name CpuEntryArea = codes "cpu entry area"
area_name EspFixup = codes "ESP fixup"
area_name Efi = codes "EFI"
area_name KernelText = codes "kernel text"
area_name Modules = codes "modules"
area_name KernelTextOrModules = codes "kernel text or modules"
area_name Fixmap = codes "fixmap"
area_name Vsyscall = codes "vsyscall"

-- All areas of Linux's address space, in the order of their addresses.
abbrev pub areas : List Area
areas = User ∷ LdtRemap ∷ DirectMap ∷ Vmalloc ∷ Vmemmap ∷ CpuEntryArea ∷ EspFixup ∷ Efi ∷ KernelText ∷ Modules ∷ KernelTextOrModules ∷ Fixmap ∷ Vsyscall ∷ []

-- The 64-bit word behind a key in the first line of VMCOREINFO's text that begins with the key. It is None if there is no text, no
-- such line, or no number behind the key.
abbrev pub number_after : (text : Option (List ℕ)) → (key : List ℕ) → Option ℕ
number_after text key = option_and_then (λ bytes. value_in bytes key) text

-- What VMCOREINFO's text, if there is one, says of where a kernel's areas lie, for a kernel whose page tables have this number of
-- levels.
abbrev pub area_layout : (vmcoreinfo : Option (List ℕ)) → Levels → Layout
area_layout vmcoreinfo levels = record {
  levels = levels;
  page_offset_base = number_after vmcoreinfo (codes "NUMBER(page_offset_base)=");
  vmalloc_base = number_after vmcoreinfo (codes "NUMBER(vmalloc_base)=");
  vmemmap_base = number_after vmcoreinfo (codes "NUMBER(vmemmap_base)=");
  kernel_image_size = number_after vmcoreinfo (codes "NUMBER(KERNEL_IMAGE_SIZE)=");
}

-- ---- places that are fixed

-- The bounds of an area from a first to a last address, both included.
abbrev pub bounds_between : (first last : ℕ) → Option Bounds
bounds_between first last = Some (record { first = first; last = last })

-- The bounds of the memory of a process: the lower half of the address space of four or five levels of page tables.
abbrev pub user_area : Levels → Option Bounds
user_area Four = bounds_between 0 0x7fff_ffff_ffff
user_area Five = bounds_between 0 0xff_ffff_ffff_ffff

-- The bounds of the remap of the local descriptor table, for page table isolation: 512GiB with four levels of page tables, 256TiB
-- with five.
abbrev pub ldt_remap : Levels → Option Bounds
ldt_remap Four = bounds_between 0xffff_8800_0000_0000 0xffff_887f_ffff_ffff
ldt_remap Five = bounds_between 0xff10_0000_0000_0000 0xff10_ffff_ffff_ffff

-- ---- places that the kernel chooses

-- The greatest size in bytes of the direct map of all physical memory: 64TiB with four levels of page tables, 32PiB with five.
abbrev pub direct_map_size : Levels → ℕ
direct_map_size Four = 64 * 2 ^ 40
direct_map_size Five = 32 * 2 ^ 50

-- The greatest size in bytes of the area of `vmalloc`: 32TiB with four levels of page tables, 12.5PiB with five.
abbrev pub vmalloc_size : Levels → ℕ
vmalloc_size Four = 32 * 2 ^ 40
vmalloc_size Five = 12800 * 2 ^ 40

-- The greatest size in bytes of the array of the pages' descriptors: 1TiB with four levels of page tables, 512TiB with five.
abbrev pub vmemmap_size : Levels → ℕ
vmemmap_size Four = 2 ^ 40
vmemmap_size Five = 512 * 2 ^ 40

-- The last address of an area from a base to a last address, if the area has to end before another base. That changes nothing if
-- the other base isn't known or isn't above the area's own.
abbrev pub last_before : (other : Option ℕ) → (base last : ℕ) → ℕ
last_before None base last = last
last_before (Some other) base last = if nat_lt base other then min last (other - 1) else last

-- The last address of an area with this base and this size in bytes, below 2^64. The area ends before the next base of the direct
-- map, `vmalloc` or the pages' descriptors that the layout knows.
abbrev pub last_in_area : Layout → (base size : ℕ) → ℕ
last_in_area l base size = last_before l.vmemmap_base base (last_before l.vmalloc_base base (last_before l.page_offset_base base
    (min (base + (size - 1)) (2 ^ 64 - 1))))

-- The bounds of an area of at most this size in bytes at its base, up to the next base that the layout knows. It is None if the
-- area's own base isn't known.
abbrev pub based : Layout → (base : Option ℕ) → (size : ℕ) → Option Bounds
based l base size = option_map (λ first. record { first = first; last = last_in_area l first size }) base

-- ---- the kernel's code and data, and its modules

-- The address at which modules begin, if `size` bytes are kept in front of them for the kernel's code and data. More than
-- 0x7f000000 bytes count as that many.
abbrev pub modules_start : (size : ℕ) → ℕ
modules_start size = 0xffff_ffff_8000_0000 + min size 0x7f00_0000

-- The bounds of the kernel's code and data, by the number of bytes that are kept for them, or None if that isn't known.
abbrev pub text_area : (size : Option ℕ) → Option Bounds
text_area None = None
text_area (Some size) = bounds_between 0xffff_ffff_8000_0000 (modules_start size - 1)

-- The bounds of the kernel's modules, by the number of bytes that are kept for its code and data, or None if that isn't known.
abbrev pub module_area : (size : Option ℕ) → Option Bounds
module_area None = None
module_area (Some size) = bounds_between (modules_start size) 0xffff_ffff_feff_ffff

-- The bounds of the kernel's code and data and its modules together, if the number of bytes that are kept for its code and data
-- isn't known. It is None if that is known, since the two can then be told apart.
abbrev pub text_or_modules : (size : Option ℕ) → Option Bounds
text_or_modules None = bounds_between 0xffff_ffff_8000_0000 0xffff_ffff_feff_ffff
text_or_modules (Some size) = None

-- ---- the area of addresses

-- The first and the last address of an area, or None if the layout doesn't say where it lies. The kernel's code and data and its
-- modules have bounds as one area if it isn't known where the modules begin, and otherwise as two.
abbrev pub bounds_of : Layout → Area → Option Bounds
bounds_of l User = user_area l.levels
bounds_of l LdtRemap = ldt_remap l.levels
bounds_of l DirectMap = based l l.page_offset_base (direct_map_size l.levels)
bounds_of l Vmalloc = based l l.vmalloc_base (vmalloc_size l.levels)
bounds_of l Vmemmap = based l l.vmemmap_base (vmemmap_size l.levels)
bounds_of l CpuEntryArea = bounds_between 0xffff_fe00_0000_0000 0xffff_fe7f_ffff_ffff
bounds_of l EspFixup = bounds_between 0xffff_ff00_0000_0000 0xffff_ff7f_ffff_ffff
bounds_of l Efi = bounds_between 0xffff_ffef_0000_0000 0xffff_fffe_ffff_ffff
bounds_of l KernelText = text_area l.kernel_image_size
bounds_of l Modules = module_area l.kernel_image_size
bounds_of l KernelTextOrModules = text_or_modules l.kernel_image_size
bounds_of l Fixmap = bounds_between 0xffff_ffff_ff00_0000 0xffff_ffff_ff5f_ffff
bounds_of l Vsyscall = bounds_between 0xffff_ffff_ff60_0000 0xffff_ffff_ff60_0fff

-- Whether the bounds of an area are known, and all addresses from a first to a last one lie within them.
abbrev pub lie_in : (first last : ℕ) → Option Bounds → Bool
lie_in first last None = false
lie_in first last (Some area) = nat_le area.first first && nat_le last area.last

-- The area in which all addresses from a first to a last one lie: the first such area in the order of addresses, or None if they
-- lie in none whose place is known.
unfoldable pub area_at : Layout → (first last : ℕ) → Option Area
area_at l first last = find (λ area. lie_in first last (bounds_of l area)) areas
