-- Lines that are only counted, in parts.
use Rattle.std.proofs.Common.{◌++◌, List, [], length-append, arith}
use Rattle.ptdump_engine.specs.Said.{Said}
use Rattle.ptdump_engine.specs.private.LineCounting.{AreAdded}
use Rattle.ptdump_engine.specs.declared.line_count.LineCount.{LineCount}

pub added_nothing : (count : LineCount) → AreAdded count count []
added_nothing count = omega arith

pub added_both : (before between after : LineCount) (front back : List Said) → AreAdded before between front → AreAdded between after back → AreAdded before after (front ++ back)
added_both before between after front back first second = omega (arith, first, second, length-append front back)
