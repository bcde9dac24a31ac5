use Rattle.x86_64_model.proofs.Lemmas.Spaces.Calls.{calls_keep_root_entries}
use Rattle.x86_64_model.proofs.laws.spaces.calls_keep_root_entries.Goals as goal

pub returns : goal.returns
returns c = calls_keep_root_entries
