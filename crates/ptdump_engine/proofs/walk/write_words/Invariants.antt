use Rattle.std.proofs.Common.{take}
use Rattle.std.specs.List.{flat_map}
use Rattle.ptdump_engine.specs.Output.{Puts}
use Rattle.ptdump_json.specs.Walks.{word_lines}
use Rattle.ptdump_engine.proofs.walk.write_words.Given as goal

-- the words so far are written
abbrev pub invariant-loop-word : goal.invariant-loop-word
invariant-loop-word g l =
    Puts g.W.Destination.contents l.fn.output l.output (flat_map (word_lines l.controls) (take l.word-index l.words))
