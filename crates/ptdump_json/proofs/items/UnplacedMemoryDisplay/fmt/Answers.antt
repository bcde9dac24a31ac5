use Rattle.std.proofs.Common.{refl}
use Rattle.std.proofs.Output.{has_written_append}
use Rattle.ptdump_json.proofs.items.UnplacedMemoryDisplay.fmt.Goals as goal

pub returns-clause-writes : goal.returns-clause-writes
returns-clause-writes g c = λ plain ok.
    let took = g.W.Write.write_str_gives in
    let one = c.in_ok-write_str.ensures.writes plain refl in
    has_written_append took _ _ _ _ _ one (c.write_size.ensures one.plain ok)
