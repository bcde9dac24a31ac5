use Rattle.x86_64_page.proofs.InTurn.{taken_in_turn}
use Rattle.x86_64_page.proofs.InTurnInclusive.{taken_in_turn_inclusive}
use Rattle.x86_64_page.proofs.laws.blocks_are_taken_in_turn.Goals as goal

pub returns-clause-exclusive : goal.returns-clause-exclusive
returns-clause-exclusive g c = taken_in_turn g.B.Block.SIZE g.met.B.Block.known_size

pub returns-clause-inclusive : goal.returns-clause-inclusive
returns-clause-inclusive g c = taken_in_turn_inclusive g.B.Block.SIZE g.B.Block.LIMIT g.met.B.Block.known_size g.met.B.Block.known_limit
