use Rattle.x86_64_model.proofs.Lemmas.Live.Apart.{spaces_stay_apart, others_stay_apart}
use Rattle.x86_64_model.proofs.laws.locality.spaces_stay_apart.Goals as goal

pub returns-clause-two : goal.returns-clause-two
returns-clause-two c = spaces_stay_apart

pub returns-clause-others : goal.returns-clause-others
returns-clause-others c = others_stay_apart
