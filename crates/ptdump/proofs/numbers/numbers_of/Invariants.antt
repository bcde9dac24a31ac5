use Rattle.std.proofs.Common.{map, take}
use Rattle.ptdump.specs.Requests.{TextsAreNumbers}
use Rattle.ptdump.proofs.numbers.numbers_of.Given as goal

abbrev pub invariant-loop-text : goal.invariant-loop-text
invariant-loop-text l = TextsAreNumbers (map (λ text. text.now) (take l.text-index l.texts)) l.numbers.items
