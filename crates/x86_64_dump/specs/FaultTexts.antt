-- Texts: why notes don't say what is needed of them.
use Rattle.std.specs.Prelude.{ℕ, ◌++◌, List, Option, None, Some, codes, decimal}
use Rattle.x86_64_dump.specs.VmCoreInfo.{key_name}
use Rattle.x86_64_dump.specs.declared.error.Fault.{Fault}
use Rattle.x86_64_dump.specs.declared.error.Fault.TheVariants as faults
use Rattle.x86_64_dump.specs.declared.vmcoreinfo.KernelFault.{KernelFault}
use Rattle.x86_64_dump.specs.declared.vmcoreinfo.KernelFault.TheVariants.{Missing, NoNumber, NoFrame, Differ}

-- The text of the fault that two texts of VMCOREINFO in memory, at these offsets of the file, describe different kernels.
unfoldable pub differ_text : (first other : ℕ) → List ℕ
differ_text first other = codes "the texts of VMCOREINFO at bytes " ++ (decimal first ++ (codes " and " ++ (decimal other
    ++ codes " of the file differ: give --vmcoreinfo and one of these numbers, or --cr3")))

-- The text of the reason why VMCOREINFO describes no kernel.
abbrev pub kernel_fault_text : KernelFault → List ℕ
kernel_fault_text (Missing key) = codes "VMCOREINFO has no line " ++ key_name key ++ codes ": give --cr3"
kernel_fault_text (NoNumber key) = codes "VMCOREINFO has no number below 2^64 behind " ++ key_name key ++ codes ": give --cr3"
kernel_fault_text NoFrame =
    codes "SYMBOL(swapper_pg_dir) - 0xffffffff80000000 + NUMBER(phys_base) of VMCOREINFO is no frame's address: give --cr3"
kernel_fault_text (Differ first other) = differ_text first other

-- The front part of the text of a cut note: the offset of its descriptor in the file, and the descriptor's size in bytes.
unfoldable pub note_text : (offset size : ℕ) → List ℕ
note_text offset size = codes "QEMU's note at byte " ++ decimal offset ++ codes " has " ++ decimal size ++ codes " bytes"

-- The back part of the text of a cut note: the number of bytes that its descriptor should have.
unfoldable pub needed_text : (needed : ℕ) → List ℕ
needed_text needed = codes ", and the register ends at its byte " ++ decimal needed
    ++ codes ", or the file ends before: give the register's value, or another processor"

-- The text of the fault that a note of QEMU, or the file, ends before a register does.
abbrev pub note_cut_text : (offset size needed : ℕ) → List ℕ
note_cut_text offset size needed = note_text offset size ++ needed_text needed

-- The text of the fault of a note, or None for the fault of a file that isn't opened, whose text isn't specified.
abbrev pub dump_fault_text : Fault → Option (List ℕ)
dump_fault_text (faults.NoteCut offset size needed) = Some (note_cut_text offset size needed)
dump_fault_text (faults.VmCoreInfo fault) = Some (kernel_fault_text fault)
dump_fault_text fault = None
