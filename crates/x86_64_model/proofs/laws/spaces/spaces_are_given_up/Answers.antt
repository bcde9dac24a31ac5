use Rattle.x86_64_model.proofs.Lemmas.Spaces.GivenUp as given
use Rattle.x86_64_model.proofs.laws.spaces.spaces_are_given_up.Goals as goal

pub returns-clause-given_up : goal.returns-clause-given_up
returns-clause-given_up c = given.spaces_are_given_up

pub returns-clause-none_lost : goal.returns-clause-none_lost
returns-clause-none_lost c = given.no_frame_is_lost
