-- What the lines of an image load, and the test of it.
use Rattle.std.specs.Prelude.{◌/◌, ◌==◌, ◌&&◌, nat_lt, zero, suc, ℕ, Bool, true, not, List, [], ◌∷◌, ◌++◌}
use Rattle.std.specs.FinMap.{empty, insert}
use Rattle.x86_64_model.specs.Memory.{Memory}
use Rattle.x86_64_tables.specs.PageTable.{zero_words}
use Rattle.pagetab_engine.specs.Fitting.{fits_in}
use Rattle.pagetab_engine.specs.Modes.{first_memory, image_layout}
use Rattle.pagetab_engine.specs.Situation.{Situation, situation}
use Rattle.pagetab_engine.specs.Slot.{stored}
use Rattle.x86_64_tables.specs.LentPool.{is_in}
use Rattle.pagetab_engine.specs.declared.arguments.Mode.{Mode}
use Rattle.pagetab_engine.specs.declared.statement.ImageLine.{ImageLine}
use Rattle.pagetab_engine.specs.declared.statement.ImageLine.TheVariants.{Word, Free}

-- What was loaded: a memory, the free frames, and the limit of the numbers of free frames.
pub record Loaded : Type 0 where
  pub memory : Memory
  pub free : List ℕ
  pub limit : ℕ

-- A memory with so many places, each with a table of zeros.
abbrev pub empty_memory : (places : ℕ) → Memory
empty_memory zero = empty
empty_memory (suc place) = insert (empty_memory place) place zero_words

-- What is loaded before the first line: all words are 0, and no frame is free.
abbrev pub nothing_loaded : (places : ℕ) → Loaded
nothing_loaded places = record { memory = empty_memory places; free = []; limit = places }

-- Whether the line of an image can be loaded: it sets a word, or its frame can become free, since it is not frame 0, has a number
-- below the limit, and is not free yet.
abbrev pub is_loadable : Loaded → ImageLine → Bool
is_loadable loaded (Word slot value) = true
is_loadable loaded (Free frame) = not (frame == 0) && (nat_lt (frame / 4096) loaded.limit && not (is_in loaded.free frame))

-- What is loaded after a line of an image, which sets its word, or adds its frame behind the other free ones.
abbrev pub load : Loaded → ImageLine → Loaded
load loaded (Word slot value) = record { memory = stored loaded.memory slot.place slot.index value; free = loaded.free; limit = loaded.limit }
load loaded (Free frame) = record { memory = loaded.memory; free = loaded.free ++ frame ∷ []; limit = loaded.limit }

-- Whether the hierarchy of the image is valid, and the free frames fit it.
abbrev pub fits : Mode → Loaded → Bool
fits mode loaded = fits_in (image_layout mode loaded.memory) loaded.memory loaded.limit loaded.free

-- What the first command acts on. In a pair the memory of the direct mapper lacks the self-entry.
abbrev pub first_situation : Mode → Loaded → Situation
first_situation mode loaded = situation mode (first_memory mode loaded.memory) loaded.free
