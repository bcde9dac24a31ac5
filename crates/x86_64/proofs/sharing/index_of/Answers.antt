use Rattle.std.proofs.Common.{◌∙◌}
use Rattle.x86_64.proofs.SharedEntries.{index_shifted}
use Rattle.x86_64.proofs.sharing.index_of.Goals as goal

pub returns : goal.returns
returns g c = c.new.ensures ∙ index_shifted g.L.LevelCount.LEVELS g.L.LevelCount.at_least_four c.LEVELS.result c.LEVELS.ensures c.as_u64-address.result c.args.frame (c.as_u64-address.ensures.value ∙ c.start_address.ensures.value)
