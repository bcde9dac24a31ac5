-- The texts that the program prints, for each reply and each fault.
use Rattle.std.specs.Prelude.{ℕ, Bool, if◌then◌else◌, List, [], ◌∷◌, ◌++◌, flat_map, codes, decimal, Option, Some, None, Ok, Err}
use Rattle.text.specs.Numbers.{hexadecimal}
use Rattle.x86_64_model.specs.PageWalk.{Walked}
use Rattle.x86_64_tables.specs.PageTableFlags.{bits_of}
use Rattle.x86_64_tables.specs.Translations.{frame_start}
use Rattle.x86_64_tables.specs.declared.errors.FlagUpdateError.{FlagUpdateError}
use Rattle.x86_64_tables.specs.declared.errors.FlagUpdateError.TheVariants as update
use Rattle.x86_64_tables.specs.declared.errors.MapToError.{MapToError}
use Rattle.x86_64_tables.specs.declared.errors.MapToError.TheVariants as map_to
use Rattle.x86_64_tables.specs.declared.translation.MappedFrame.{MappedFrame}
use Rattle.x86_64_tables.specs.declared.translation.MappedFrame.TheVariants.{Size4KiB, Size2MiB, Size1GiB}
use Rattle.x86_64_tables.specs.declared.errors.TranslateError.{TranslateError}
use Rattle.x86_64_tables.specs.declared.errors.TranslateError.TheVariants as page_frame
use Rattle.x86_64_tables.specs.declared.translation.TranslateResult.{TranslateResult}
use Rattle.x86_64_tables.specs.declared.translation.TranslateResult.TheVariants.{Mapped, NotMapped, InvalidFrameAddress}
use Rattle.x86_64_tables.specs.declared.errors.UnmapError.{UnmapError}
use Rattle.x86_64_tables.specs.declared.errors.UnmapError.TheVariants as unmap
use Rattle.x86_64.specs.declared.call_values.MapperReply.{MapperReply}
use Rattle.x86_64.specs.declared.call_values.MapperReply.TheVariants as call
use Rattle.x86_64.specs.declared.call_values.PageReply.{PageReply}
use Rattle.x86_64.specs.declared.call_values.PageReply.TheVariants.{Map, Unmap, Update, TableFlags, Frame}
use Rattle.pagetab_engine.specs.Reply.{Reply, Answered, Arrival, Word, Pool}
use Rattle.pagetab_engine.specs.declared.ending.Fault.{Fault}
use Rattle.pagetab_engine.specs.declared.ending.Fault.TheVariants.{BadLine, InvalidHierarchy, OutOfMemory, Input, Output, Usage}

-- The number 1 for true, and 0 for false.
abbrev pub bit : Bool → ℕ
bit holds = if holds then 1 else 0

-- ---- the replies to calls on a page

-- The text of the error for a page that isn't mapped.
abbrev pub page_not_mapped_text : List ℕ
page_not_mapped_text = codes "page not mapped"

-- The text of the error for a page below an entry that maps a larger page.
abbrev pub parent_entry_huge_page_text : List ℕ
parent_entry_huge_page_text = codes "parent entry huge page"

-- The text of the error for a page whose entry names no frame of the page's size, with the address in the entry.
abbrev pub invalid_frame_address_text : (address : ℕ) → List ℕ
invalid_frame_address_text address = codes "invalid frame address " ++ hexadecimal address

-- The text of the error of a map.
abbrev pub map_error_text : {S : Type 0} → MapToError S → List ℕ
map_error_text map_to.FrameAllocationFailed = codes "frame allocation failed"
map_error_text map_to.ParentEntryHugePage = parent_entry_huge_page_text
map_error_text (map_to.PageAlreadyMapped frame) = codes "page already mapped " ++ hexadecimal frame

-- The text of the error of an `unmap`.
abbrev pub unmap_error_text : UnmapError → List ℕ
unmap_error_text unmap.PageNotMapped = page_not_mapped_text
unmap_error_text unmap.ParentEntryHugePage = parent_entry_huge_page_text
unmap_error_text (unmap.InvalidFrameAddress address) = invalid_frame_address_text address

-- The text of the error of a change of flags.
abbrev pub flags_error_text : FlagUpdateError → List ℕ
flags_error_text update.PageNotMapped = page_not_mapped_text
flags_error_text update.ParentEntryHugePage = parent_entry_huge_page_text

-- The text of the error of a `translate_page`.
abbrev pub frame_error_text : TranslateError → List ℕ
frame_error_text page_frame.PageNotMapped = page_not_mapped_text
frame_error_text page_frame.ParentEntryHugePage = parent_entry_huge_page_text
frame_error_text (page_frame.InvalidFrameAddress address) = invalid_frame_address_text address

-- The text of the reply to a call on a page: `ok`, the start of the frame that it returns, or the error.
abbrev pub page_text : {P S : Type 0} → PageReply P S → List ℕ
page_text (Map (Ok page)) = codes "ok"
page_text (Map (Err why)) = map_error_text why
page_text (Unmap (Ok (frame, page))) = hexadecimal frame
page_text (Unmap (Err why)) = unmap_error_text why
page_text (Update (Ok page)) = codes "ok"
page_text (Update (Err why)) = flags_error_text why
page_text (TableFlags (Ok done)) = codes "ok"
page_text (TableFlags (Err why)) = flags_error_text why
page_text (Frame (Ok frame)) = hexadecimal frame
page_text (Frame (Err why)) = frame_error_text why

-- ---- the replies to calls

-- The size of a mapped frame, as it is printed.
abbrev pub size_name : MappedFrame → List ℕ
size_name (Size4KiB start) = codes "4KiB"
size_name (Size2MiB start) = codes "2MiB"
size_name (Size1GiB start) = codes "1GiB"

-- The text of the result of `translate`: size and start of the frame, offset and flags, or that the address isn't mapped.
abbrev pub translation_text : TranslateResult → List ℕ
translation_text (Mapped frame offset flags) =
    codes "mapped " ++ size_name frame ++ codes " " ++ hexadecimal (frame_start frame)
    ++ codes " " ++ hexadecimal offset ++ codes " " ++ hexadecimal (bits_of flags)
translation_text NotMapped = codes "not mapped"
translation_text (InvalidFrameAddress address) = codes "not mapped"

-- The text of a translated address, or `none`.
abbrev pub address_text : Option ℕ → List ℕ
address_text (Some address) = hexadecimal address
address_text None = codes "none"

-- The text of the reply to a mapper's call.
abbrev pub call_text : {P Q R S T U : Type 0} → MapperReply (PageReply P S) (PageReply Q T) (PageReply R U) → List ℕ
call_text (call.Of4KiB answer) = page_text answer
call_text (call.Of2MiB answer) = page_text answer
call_text (call.Of1GiB answer) = page_text answer
call_text (call.Translate translation) = translation_text translation
call_text (call.Address address) = address_text address
call_text call.Cleaned = codes "ok"
call_text call.NotAllowed = codes "not allowed"

-- ---- the replies to commands

-- The text of where a page walk arrives: the physical address, and the rights to write and of user mode, or `none`.
abbrev pub walked_text : Option Walked → List ℕ
walked_text (Some walked) =
    hexadecimal walked.address ++ codes " write=" ++ decimal (bit walked.write) ++ codes " user=" ++ decimal (bit walked.user)
walked_text None = codes "none"

-- The text of one free frame: a space and its start address.
abbrev pub free_text : (frame : ℕ) → List ℕ
free_text frame = codes " " ++ hexadecimal frame

-- The text of the free frames, in order.
abbrev pub pool_text : (frames : List ℕ) → List ℕ
pool_text frames = codes "pool" ++ flat_map free_text frames

-- The text of the reply to a command, without a line feed.
abbrev pub reply_text : Reply → List ℕ
reply_text (Answered answer) = call_text answer
reply_text (Arrival walked) = walked_text walked
reply_text (Word word) = hexadecimal word
reply_text (Pool frames) = pool_text frames

-- The line of a reply: its text and a line feed.
abbrev pub reply_line : Reply → List ℕ
reply_line reply = reply_text reply ++ 10 ∷ []

-- ---- faults

-- The text that names a fault, without a line feed.
abbrev pub fault_text : Fault → List ℕ
fault_text (BadLine number) = codes "bad line " ++ decimal number
fault_text InvalidHierarchy = codes "invalid hierarchy"
fault_text OutOfMemory = codes "out of memory"
fault_text Input = codes "input or output failed"
fault_text Output = codes "input or output failed"
fault_text Usage = codes "usage: pagetab direct N | offset N OFF | recursive N R | pair N R | direct5 N | recursive5 N R | pair5 N R"
