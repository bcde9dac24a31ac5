-- Opened: the contents of an opened dump.
use Rattle.std.specs.Prelude.{ℕ, Bool, is_some, List}
use Rattle.x86_64_dump.specs.Dump.{Contents, frame_offset, is_short, words_of_dump}
use Rattle.x86_64_model.specs.Memory.{Words}
use Rattle.x86_64_dump.specs.declared.dump.Dump.{Dump}
use Rattle.x86_64_dump.specs.declared.source.ByteSource.{Ghosts}

-- The contents of an opened dump, where `bytes` returns the bytes of its source.
abbrev pub opened : {S : Type 0} → {G : Ghosts S} → (S → List ℕ) → Dump S G → Contents
opened bytes dump = record {
  file = bytes dump.source;
  format = dump.format;
  segments = dump.segments.items;
  texts = dump.texts.items;
  cleared = dump.cleared;
}

-- The words of the frames of an opened dump, where `bytes` returns the bytes of its source.
abbrev pub words_opened : {S : Type 0} → {G : Ghosts S} → (S → List ℕ) → Dump S G → Words
words_opened bytes dump = words_of_dump (opened bytes dump)

-- Whether a segment of an opened dump has all bytes of a frame, in a file of the length that `size` returns for its source.
abbrev pub holds : {S : Type 0} → {G : Ghosts S} → (size : S → ℕ) → Dump S G → (frame : ℕ) → Bool
holds size dump frame = is_some (frame_offset (size dump.source) dump.segments.items frame)

-- Whether a segment of an opened dump has bytes and ends after the file, whose length `size` returns for its source.
abbrev pub is_cut : {S : Type 0} → {G : Ghosts S} → (size : S → ℕ) → Dump S G → Bool
is_cut size dump = is_short (size dump.source) dump.segments.items
