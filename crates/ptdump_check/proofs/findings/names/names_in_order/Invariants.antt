use Rattle.std.proofs.Common.{◌≡◌, take}
use Rattle.std.specs.List.{flat_map}
use Rattle.x86_64_model.specs.Memory.{identity_places, words_of}
use Rattle.ptdump_check.specs.Findings.{names_in}
use Rattle.ptdump_check.proofs.findings.names.names_in_order.Given as goal

-- the names in the frames so far
abbrev pub invariant-loop-frame : goal.invariant-loop-frame
invariant-loop-frame l = l.names.items ≡ flat_map (names_in (words_of l.memory identity_places)) (take l.frame-index l.frame-items)
