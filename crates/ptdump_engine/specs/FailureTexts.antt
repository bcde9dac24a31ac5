-- Texts: why no root is found.
use Rattle.std.specs.Prelude.{ℕ, ◌++◌, List, Option, None, Some, codes, decimal}
use Rattle.x86_64_dump.specs.FaultTexts.{dump_fault_text}
use Rattle.text.specs.Numbers.{hexadecimal}
use Rattle.ptdump_engine.specs.declared.failure.Failure.{Failure}
use Rattle.ptdump_engine.specs.declared.failure.Failure.TheVariants.{NoCr3, VirtualBox, NoProcessor, NoProcessors, WrongMode, NoRoot, Dump}
use Rattle.ptdump_json.specs.InfoTexts.{mode_told}
use Rattle.ptdump_json.specs.declared.mode.Mode.{Mode}

-- The text of the failure that the file has no note of processor `cpu`, but `count` notes of processors.
unfoldable pub no_processor_text : (cpu count : ℕ) → List ℕ
no_processor_text cpu count = codes "no note of processor " ++ decimal cpu ++ codes " in the file"
    ++ (codes ", which has " ++ decimal count ++ codes ": give a smaller --cpu, or --cr3 and --levels")

-- The text of the failure that processor `cpu` isn't in 64-bit paging.
unfoldable pub wrong_mode_text : (cpu : ℕ) → Mode → List ℕ
wrong_mode_text cpu mode = codes "processor " ++ decimal cpu ++ codes " " ++ mode_told mode
    ++ codes ": give another --cpu, or --cr3 and --levels to go on"

-- The text of a failure to find the root, or None for other failures, whose texts aren't specified.
abbrev pub failure_text : Failure → Option (List ℕ)
failure_text NoCr3 = Some (codes "no CR3 and no VMCOREINFO in the file: give --cr3, 0x and the digits that QEMU's `info registers` prints; on Linux `ptdump info /proc/kcore` shows it")
failure_text VirtualBox = Some (codes "the file is a core of VirtualBox, of which no CR3 is read: give --cr3")
failure_text (NoProcessor cpu count) = Some (no_processor_text cpu count)
failure_text NoProcessors = Some (codes "no notes of processors in the file, which --all-cpus needs: leave it out, and give --cr3 if it is needed")
failure_text (WrongMode cpu mode) = Some (wrong_mode_text cpu mode)
failure_text (NoRoot root) = Some (codes "the root's table " ++ hexadecimal root
    ++ codes " is not in the dump: give another --cr3, or --base or --range for a raw file")
failure_text (Dump fault) = dump_fault_text fault
failure_text failure = None
