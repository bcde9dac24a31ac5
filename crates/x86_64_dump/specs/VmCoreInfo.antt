-- VMCOREINFO: what Linux's note of this name says of its kernel. Its descriptor is text, whose lines are KEY=VALUE.
-- Linux, "VMCOREINFO" in the documentation of kdump.
use Rattle.std.specs.Prelude.{ℕ, ◌+◌, ◌-◌, ◌%◌, ◌^◌, ◌++◌, ◌==◌, ◌&&◌, Bool, true, false, not, codes, if◌then◌else◌, min, List, [], ◌∷◌, drop, length, nat_le, nat_lt, Option, None, Some, option_map, slice_get, take, Result, Ok, Err}
use Rattle.std.specs.Char.{is_digit}
use Rattle.std.specs.List.{find, list_all, slice_split}
use Rattle.std.specs.Option.{ok_or, option_and_then, option_map_or, unwrap_or}
use Rattle.std.specs.Str.{bytes_eq}
use Rattle.std.specs.Str.Parse.{digits_value}
use Rattle.x86_64_addr.specs.declared.level_count.Levels.{Levels}
use Rattle.x86_64_addr.specs.declared.level_count.Levels.TheVariants.{Four, Five}
use Rattle.std.specs.Result.{result_map_both}
use Rattle.x86_64_dump.specs.Dump.{Contents}
use Rattle.x86_64_dump.specs.Notes.{notes_of}
use Rattle.x86_64_dump.specs.Source.{bytes_at}
use Rattle.x86_64_dump.specs.Steps.{and_then}
use Rattle.x86_64_dump.specs.declared.error.Fault.{Fault}
use Rattle.x86_64_dump.specs.declared.error.Fault.TheVariants as faults
use Rattle.x86_64_dump.specs.declared.note.NoteKind.TheVariants.{VmCoreInfo}
use Rattle.x86_64_dump.specs.declared.kernel_text.KernelText.{KernelText}
use Rattle.x86_64_dump.specs.declared.note.Note.{Note}
use Rattle.x86_64_dump.specs.declared.vmcoreinfo.Key.{Key}
use Rattle.x86_64_dump.specs.declared.vmcoreinfo.Key.TheVariants.{SwapperPgDir, PhysBase, FiveLevels, SmeMask}
use Rattle.x86_64_dump.specs.declared.vmcoreinfo.Kernel.{Kernel}
use Rattle.x86_64_dump.specs.declared.vmcoreinfo.KernelFault.{KernelFault}
use Rattle.x86_64_dump.specs.declared.vmcoreinfo.Shift.{Shift}
use Rattle.x86_64_dump.specs.declared.vmcoreinfo.Shift.TheVariants.{Up, Down}
use Rattle.x86_64_dump.specs.declared.vmcoreinfo.KernelFault.TheVariants.{Missing, NoNumber, NoFrame, Differ}

-- A note's descriptor, or its first 65536 bytes if it is longer.
abbrev pub descriptor_of : (file : List ℕ) → Note → List ℕ
descriptor_of file note = bytes_at file note.offset (min note.size 0x1_0000)

-- The text of a note: its descriptor, cut after 65536 bytes. If it isn't cut, a line feed follows, since the last line may lack
-- its own.
abbrev pub text_of : (file : List ℕ) → Note → List ℕ
text_of file note = descriptor_of file note ++ (if nat_lt 0x1_0000 note.size then [] else 10 ∷ [])

-- The list without its last element. The empty list stays empty.
abbrev pub all_but_last : List (List ℕ) → List (List ℕ)
all_but_last [] = []
all_but_last (part ∷ []) = []
all_but_last (part ∷ next ∷ parts) = part ∷ all_but_last (next ∷ parts)

-- The lines of a text, each ended by a line feed. What is behind the last line feed is no line.
abbrev pub text_lines : (text : List ℕ) → List (List ℕ)
text_lines text = all_but_last (slice_split (λ byte. byte == 10) text)

-- The name of a key, as the text of VMCOREINFO has it.
abbrev pub key_name : Key → List ℕ
key_name SwapperPgDir = codes "SYMBOL(swapper_pg_dir)"
key_name PhysBase = codes "NUMBER(phys_base)"
key_name FiveLevels = codes "NUMBER(pgtable_l5_enabled)"
key_name SmeMask = codes "NUMBER(sme_mask)"

-- The name of a key with `=` behind it, with which its line begins.
abbrev pub key_bytes : Key → List ℕ
key_bytes key = key_name key ++ codes "="

-- Whether the first bytes of a line are those of a prefix.
abbrev pub has_prefix : (line prefix : List ℕ) → Bool
has_prefix line prefix = bytes_eq (take (length prefix) line) prefix

-- What is behind a prefix in the first line of the text that begins with it, or None if no line does.
unfoldable pub value_of : (text prefix : List ℕ) → Option (List ℕ)
value_of text prefix = option_map (drop (length prefix)) (find (λ line. has_prefix line prefix) (text_lines text))

-- The number that one or more digits of a radix denote, if it is below 2^64 and there is nothing else.
unfoldable pub number_in_radix : (radix : ℕ) → (digits : List ℕ) → Option ℕ
number_in_radix radix digits =
    if not (length digits == 0) && list_all (λ digit. is_digit digit radix) digits && nat_lt (digits_value radix digits) (2 ^ 64)
    then Some (digits_value radix digits) else None

-- The shift by a number in decimal digits below 2^64: down if a minus is in front of it, and up otherwise. None if it is no such
-- number.
unfoldable pub shift_of : (digits : List ℕ) → Option Shift
shift_of digits = if has_prefix digits (codes "-") then option_map Down (number_in_radix 10 (drop 1 digits)) else option_map Up (number_in_radix 10 digits)

-- The number by which a shift moves, as a 64-bit word modulo 2^64. It may be negative down to -2^63.
abbrev pub word_by : Shift → Option ℕ
word_by (Up n) = Some n
word_by (Down n) = if nat_le n (2 ^ 63) then Some ((2 ^ 64 - n) % 2 ^ 64) else None

-- The 64-bit word that a value denotes: hexadecimal digits behind 0x, or decimal digits, perhaps behind a minus.
unfoldable pub word_of : (value : List ℕ) → Option ℕ
word_of value = if has_prefix value (codes "0x") then number_in_radix 16 (drop 2 value) else option_and_then word_by (shift_of value)

-- The 64-bit word behind a key in the first line that begins with it, or None if there is no such line or no such word.
abbrev pub value_in : (text key : List ℕ) → Option ℕ
value_in text key = option_and_then word_of (value_of text key)

-- The value of a key as `parse` reads it, None if no line has the key, or a fault if `parse` can't read it.
abbrev pub parsed : {A : Type 0} → (parse : List ℕ → Option A) → Key → (value : Option (List ℕ)) → Result (Option A) KernelFault
parsed parse key None = Ok None
parsed parse key (Some value) = option_map_or (λ a. Ok (Some a)) (parse value) (Err (NoNumber key))

-- The number in digits of a radix that is the value of a key, None if no line has the key, or a fault if its value is no such
-- number.
abbrev pub number_for_key : (text : List ℕ) → (radix : ℕ) → Key → Result (Option ℕ) KernelFault
number_for_key text radix key = parsed (number_in_radix radix) key (value_of text (key_bytes key))

-- The shift that is the value of a key, None if no line has the key, or a fault if its value is no shift.
abbrev pub shift_for_key : (text : List ℕ) → Key → Result (Option Shift) KernelFault
shift_for_key text key = parsed shift_of key (value_of text (key_bytes key))

-- The address, moved up or down by a number, or None if it would be negative.
abbrev pub moved : (address : ℕ) → Shift → Option ℕ
moved address (Up n) = Some (address + n)
moved address (Down n) = if nat_lt address n then None else Some (address - n)

-- The address if it is that of a 4KiB frame, a multiple of 4096 below 2^52, or else None.
abbrev pub frame_at_address : (address : ℕ) → Option ℕ
frame_at_address address = if nat_lt address (2 ^ 52) && address % 4096 == 0 then Some address else None

-- The physical address of a symbol of the kernel: its virtual address - 0xffffffff80000000 + phys_base, if that is a frame's.
unfoldable pub physical : (symbol : ℕ) → Shift → Option ℕ
physical symbol shift = if nat_lt symbol 0xffff_ffff_8000_0000 then None else option_and_then frame_at_address (moved (symbol - 0xffff_ffff_8000_0000) shift)

-- The number of levels by the value of `pgtable_l5_enabled`: five if it is 1, and four otherwise.
abbrev pub levels_by : (five : ℕ) → Levels
levels_by five = if five == 1 then Five else Four

-- The root, the levels and the encryption mask that a text describes, or why it doesn't describe them.
unfoldable pub kernel_of : (text : List ℕ) → Result Kernel KernelFault
kernel_of text = and_then (number_for_key text 16 SwapperPgDir) (λ symbol.
    and_then (ok_or symbol (Missing SwapperPgDir)) (λ symbol.
    and_then (shift_for_key text PhysBase) (λ shift.
    and_then (ok_or shift (Missing PhysBase)) (λ shift.
    and_then (number_for_key text 10 FiveLevels) (λ five.
    and_then (number_for_key text 10 SmeMask) (λ mask.
    and_then (ok_or (physical symbol shift) NoFrame) (λ root.
    Ok (record { root = root; levels = levels_by (unwrap_or five 0); encryption_mask = unwrap_or mask 0 }))))))))

-- The text of the first of the notes VMCOREINFO in a dump, if there is one.
abbrev pub noted_text : Contents → Option (List ℕ)
noted_text dump = option_map (text_of dump.file) (slice_get (notes_of VmCoreInfo dump) 0)

-- The kernel that a note VMCOREINFO describes, None without a note, or why the note describes none.
abbrev pub kernel_by : (file : List ℕ) → (note : Option Note) → Result (Option Kernel) Fault
kernel_by file None = Ok None
kernel_by file (Some note) = result_map_both Some faults.VmCoreInfo (kernel_of (text_of file note))

-- The kernel that the first of the notes VMCOREINFO in a dump describes, None without such a note, or why it describes none.
abbrev pub noted_kernel : Contents → Result (Option Kernel) Fault
noted_kernel dump = kernel_by dump.file (slice_get (notes_of VmCoreInfo dump) 0)

-- ---- texts in memory, see KernelTexts

-- The text of at most 4096 bytes at an offset of the file, with the kernel that it describes, or why it describes none.
abbrev pub text_at : (file : List ℕ) → (offset : ℕ) → Result KernelText Fault
text_at file offset = result_map_both (λ kernel. record { offset = offset; kernel = kernel }) faults.VmCoreInfo (kernel_of (bytes_at file offset 4096))

-- The bytes of the first text in memory, at most 4096, or without one the text of the first of the notes VMCOREINFO.
abbrev pub text_or : Contents → (first : Option KernelText) → Option (List ℕ)
text_or dump (Some text) = Some (bytes_at dump.file text.offset 4096)
text_or dump None = noted_text dump

-- The text of VMCOREINFO in a dump: the first of those in memory, or if there are none that of the first of the notes.
abbrev pub vmcoreinfo_of : Contents → Option (List ℕ)
vmcoreinfo_of dump = text_or dump (slice_get dump.texts 0)

-- Whether two numbers of levels are equal.
abbrev pub same_levels : (one other : Levels) → Bool
same_levels Four Four = true
same_levels Five Five = true
same_levels one other = false

-- Whether two kernels have equal roots, levels and encryption masks.
abbrev pub same_kernel : (one other : Kernel) → Bool
same_kernel k m = k.root == m.root && same_levels k.levels m.levels && k.encryption_mask == m.encryption_mask

-- The text, or a fault if there is another one with another kernel.
abbrev pub unless_other : KernelText → (other : Option KernelText) → Result (Option KernelText) KernelFault
unless_other text None = Ok (Some text)
unless_other text (Some other) = Err (Differ text.offset other.offset)

-- The first text, or a fault if one of the texts describes another kernel. None without a first text.
abbrev pub agreed_with : (first : Option KernelText) → (texts : List KernelText) → Result (Option KernelText) KernelFault
agreed_with None texts = Ok None
agreed_with (Some first) texts = unless_other first (find (λ text. not (same_kernel text.kernel first.kernel)) texts)

-- The first of some texts, or a fault if another one describes another kernel. None without texts.
abbrev pub agreed_text : List KernelText → Result (Option KernelText) KernelFault
agreed_text texts = agreed_with (slice_get texts 0) texts

-- The kernel that the texts in a dump's memory describe, from the text on which they agree. Without texts, it is that of the
-- first of the notes VMCOREINFO.
abbrev pub kernel_by_text : Contents → Result (Option KernelText) KernelFault → Result (Option Kernel) Fault
kernel_by_text dump (Ok (Some text)) = Ok (Some text.kernel)
kernel_by_text dump (Ok None) = noted_kernel dump
kernel_by_text dump (Err fault) = Err (faults.VmCoreInfo fault)

-- The kernel that the texts in a dump's memory describe, or if there are none that of the first of the notes VMCOREINFO. None if
-- there is neither, and a fault if no kernel is described or the texts differ.
abbrev pub kernel_in : Contents → Result (Option Kernel) Fault
kernel_in dump = kernel_by_text dump (agreed_text dump.texts)

-- The encryption mask of a kernel, or 0 if there is no kernel.
abbrev pub mask_by : Result (Option Kernel) Fault → ℕ
mask_by (Ok (Some kernel)) = kernel.encryption_mask
mask_by kernel = 0

-- The dump, in each of whose words the bits are cleared by which the kernel marks encrypted memory, as far as VMCOREINFO has
-- them.
abbrev pub decrypted : Contents → Contents
decrypted dump = record dump { cleared = mask_by (kernel_in dump) }
