use Rattle.x86_64_model.proofs.Lemmas.Live.Turns.{turns_are_alone, calls_in_turn}
use Rattle.x86_64_model.proofs.laws.locality.turns_are_as_if_alone.Goals as goal

pub returns-clause-words : goal.returns-clause-words
returns-clause-words c = turns_are_alone

pub returns-clause-calls : goal.returns-clause-calls
returns-clause-calls c = calls_in_turn
