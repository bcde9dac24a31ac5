use Rattle.std.proofs.Common.{take}
use Rattle.std.specs.List.{flat_map}
use Rattle.ptdump_json.specs.Explanations.{losses_text}
use Rattle.ptdump_engine.specs.Output.{Puts}
use Rattle.ptdump_engine.proofs.explanation.write_losses_of.Given as goal

-- the words so far are explained
abbrev pub invariant-loop-word : goal.invariant-loop-word
invariant-loop-word g l =
    Puts g.W.Destination.contents l.fn.output l.output (flat_map losses_text (take l.word-index l.words))
