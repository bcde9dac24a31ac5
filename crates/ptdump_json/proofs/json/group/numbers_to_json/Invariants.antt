use Rattle.std.proofs.Common.{◌≡◌, map, take}
use Rattle.serde_json.specs.View.{view}
use Rattle.ptdump_json.specs.Json.{json_count}
use Rattle.ptdump_json.proofs.json.group.numbers_to_json.Given as goal

-- the values so far are those of the numbers so far
abbrev pub invariant-loop-number : goal.invariant-loop-number
invariant-loop-number l = map view l.values.items ≡ map json_count (take l.number-index l.numbers)
