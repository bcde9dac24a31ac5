use Rattle.x86_64.proofs.EmptyRoots.{empty_roots_share_nothing, empty_roots_are_spaces, two_empty_roots}
use Rattle.x86_64.proofs.laws.empty_roots_are_spaces.Goals as goal

pub returns-clause-share : goal.returns-clause-share
returns-clause-share c = empty_roots_share_nothing

pub returns-clause-are_spaces : goal.returns-clause-are_spaces
returns-clause-are_spaces c = empty_roots_are_spaces

pub returns-clause-there_are : goal.returns-clause-there_are
returns-clause-there_are c = two_empty_roots
