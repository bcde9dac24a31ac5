use Rattle.std.proofs.Common.{◌≡◌, map, take}
use Rattle.serde_json.specs.View.{view}
use Rattle.ptdump_json.specs.Json.{json_of_word}
use Rattle.ptdump_json.proofs.json.walks.words_to_json.Given as goal

-- the values so far are those of the words so far
abbrev pub invariant-loop-word : goal.invariant-loop-word
invariant-loop-word l = map view l.values.items ≡ map json_of_word (take l.word-index l.words)
