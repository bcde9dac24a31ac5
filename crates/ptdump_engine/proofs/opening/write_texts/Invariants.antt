use Rattle.std.proofs.Common.{take}
use Rattle.std.specs.List.{flat_map}
use Rattle.ptdump_json.specs.InfoTexts.{text_told}
use Rattle.ptdump_engine.specs.Output.{Puts}
use Rattle.ptdump_json.specs.Walks.{line}
use Rattle.ptdump_engine.proofs.opening.write_texts.Given as goal

-- the texts so far are written
abbrev pub invariant-loop-text : goal.invariant-loop-text
invariant-loop-text g l =
    Puts g.E.Destination.contents l.fn.notes l.notes (flat_map (λ text. line (text_told text)) (take l.text-index l.texts))
