use Rattle.x86_64_model.proofs.Lemmas.Spaces.Synced.{fewer_are_shared, synced_spaces}
use Rattle.x86_64_model.proofs.laws.spaces.synced_spaces_share_more.Goals as goal

pub returns-clause-fewer : goal.returns-clause-fewer
returns-clause-fewer c = fewer_are_shared

pub returns-clause-more : goal.returns-clause-more
returns-clause-more c = synced_spaces
