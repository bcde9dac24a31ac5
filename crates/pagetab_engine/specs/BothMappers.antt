-- In a pair the recursive mapper has the same replies as the direct one, in the transcript of any lines.
use Rattle.std.specs.Prelude.{◌≡◌, ℕ, true, List, map, Option, Some, None}
use Rattle.x86_64_model.specs.Memory.{identity_places, word, words_of}
use Rattle.x86_64.specs.Runs.{state_in}
use Rattle.x86_64_addr.specs.declared.level_count.Levels.{Levels}
use Rattle.pagetab_engine.specs.Arguments.{count}
use Rattle.pagetab_engine.specs.Image.{Loaded, first_situation, fits}
use Rattle.pagetab_engine.specs.Lines.{Numbered}
use Rattle.pagetab_engine.specs.Modes.{image_layout}
use Rattle.pagetab_engine.specs.Program.{Transcript, served_transcript, statements_in}
use Rattle.pagetab_engine.specs.Reply.{Reply, Arrival, Word}
use Rattle.pagetab_engine.specs.Situation.{Situation}
use Rattle.pagetab_engine.specs.declared.arguments.Mode.{Mode}
use Rattle.pagetab_engine.specs.declared.arguments.Mode.TheVariants.{Pair}

-- What the first command acts on if the mapper that tests the image executes it, which is the recursive one in a pair. Its memory
-- is that of the image.
abbrev pub image_situation : Mode → Loaded → Situation
image_situation mode loaded = record {
  mode = mode;
  layout = image_layout mode loaded.memory;
  state = state_in (image_layout mode loaded.memory) loaded.memory loaded.free;
  words = word (words_of loaded.memory identity_places);
}

-- The reply, unless it shows where a page walk arrives, or a word: these are read in the memory, and not by a mapper.
abbrev pub by_mapper : Reply → Option Reply
by_mapper (Arrival walked) = None
by_mapper (Word word) = None
by_mapper reply = Some reply

-- Two transcripts have the same ending and equally many replies, and these are the same one by one, except that page walks and
-- words may show others.
pub record AreSameByMapper (one other : Transcript) : Type 0 where
  pub replies : map by_mapper one.replies ≡ map by_mapper other.replies
  pub ending : one.ending ≡ other.ending

-- Take an image of a pair that is valid, and whose free frames fit. The lines after it have the same transcript whether the direct
-- mapper executes the calls or the recursive one, except that page walks and words may show others.
abbrev pub BothMappersReply : Type 0
BothMappersReply = (levels : Levels) (index : ℕ) (loaded : Loaded) → fits (Pair levels index) loaded ≡ true → (places : ℕ) (lines : List Numbered)
    → AreSameByMapper (served_transcript (statements_in (count levels) places lines) (first_situation (Pair levels index) loaded))
    (served_transcript (statements_in (count levels) places lines) (image_situation (Pair levels index) loaded))
