use Rattle.pagetab_engine.proofs.BothMappers.{both_mappers_reply}
use Rattle.pagetab_engine.proofs.laws.both_mappers_reply_alike.Goals as goal

pub returns : goal.returns
returns c = both_mappers_reply
