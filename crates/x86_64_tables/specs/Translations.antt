-- The results of `translate`, as translations of the model.
use Rattle.std.specs.Prelude.{◌+◌, ◌^◌, ◌<◌, ℕ, Option, Some, None, option_and_then}
use Rattle.x86_64_model.specs.Translation.{Translated, NotMapped as Nowhere, Mapped as At, present_to}
use Rattle.x86_64_tables.specs.PageTableFlags.{bits_of}
use Rattle.x86_64_tables.specs.declared.translation.MappedFrame.{MappedFrame}
use Rattle.x86_64_tables.specs.declared.translation.MappedFrame.TheVariants.{Size4KiB, Size2MiB, Size1GiB}
use Rattle.x86_64_tables.specs.declared.translation.TranslateResult.{TranslateResult}
use Rattle.x86_64_tables.specs.declared.translation.TranslateResult.TheVariants.{Mapped, NotMapped, InvalidFrameAddress}

-- The start address of the frame to which a page is mapped.
abbrev pub frame_start : MappedFrame → ℕ
frame_start (Size4KiB start) = start
frame_start (Size2MiB start) = start
frame_start (Size1GiB start) = start

-- The size in bytes of the frame to which a page is mapped.
abbrev pub frame_size : MappedFrame → ℕ
frame_size (Size4KiB start) = 0x1000
frame_size (Size2MiB start) = 0x20_0000
frame_size (Size1GiB start) = 0x4000_0000

-- The model's translation for a result of `translate`. None if the result is an invalid frame address, which the model doesn't
-- have.
abbrev pub translation_of : TranslateResult → Option Translated
translation_of (Mapped frame offset flags) = Some (At (frame_size frame) (frame_start frame) offset (bits_of flags))
translation_of NotMapped = Some Nowhere
translation_of (InvalidFrameAddress address) = None

-- The physical address that a result of `translate` leads to, if the entry that maps the page has PRESENT. None otherwise.
abbrev pub reaches : TranslateResult → Option ℕ
reaches answer = option_and_then present_to (translation_of answer)

-- If the translation is a mapping, it leads to an address below 2^52, the limit of physical addresses.
abbrev pub StaysBelow : Option Translated → Type 0
StaysBelow (Some (At size frame offset given)) = frame + offset < 2 ^ 52
StaysBelow _ = Unit {0}
