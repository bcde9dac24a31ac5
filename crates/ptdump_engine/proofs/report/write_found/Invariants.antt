use Rattle.std.proofs.Common.{◌≡◌, take}
use Rattle.ptdump_check.specs.Loaded.{words_loaded}
use Rattle.ptdump_engine.specs.Output.{Puts}
use Rattle.ptdump_engine.specs.Reports.{all_found, find_text}
use Rattle.ptdump_engine.proofs.report.write_found.Given as goal

-- the searches so far are written
abbrev pub invariant-loop-address : goal.invariant-loop-address
invariant-loop-address g l =
    let L = g.L.LevelCount.LEVELS in
    Puts g.W.Destination.contents l.fn.output l.output (find_text l.form l.are_several L (words_loaded l.loaded) l.loaded.root (take l.address-index l.addresses))
    × (l.is_complete ≡ all_found L (words_loaded l.loaded) l.loaded.root (take l.address-index l.addresses))
