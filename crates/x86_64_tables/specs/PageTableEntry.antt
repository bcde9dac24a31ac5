-- The frame that an entry names.
use Rattle.std.specs.Prelude.{ℕ, not, cond, Result, Ok, Err}
use Rattle.x86_64_model.specs.Entry.{present, huge, address}
use Rattle.x86_64_tables.specs.declared.page_table.entry.FrameError.{FrameError}
use Rattle.x86_64_tables.specs.declared.page_table.entry.FrameError.TheVariants.{FrameNotPresent, HugeFrame}

-- The start address of the 4KiB frame that the word of an entry names. The error is that the word isn't present, or else that it
-- is huge.
abbrev pub frame_of : (word : ℕ) → Result ℕ FrameError
frame_of word =
    cond (not (present word)) (Err FrameNotPresent)
    (cond (huge word) (Err HugeFrame) (Ok (address word)))
