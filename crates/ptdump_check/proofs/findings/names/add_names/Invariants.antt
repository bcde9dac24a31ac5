use Rattle.std.proofs.Common.{◌≡◌, ◌++◌, option_and_then}
use Rattle.std.specs.List.{filter_map, range_with_len}
use Rattle.x86_64_model.specs.Memory.{identity_places, words_of}
use Rattle.x86_64_model.specs.PageWalk.{read}
use Rattle.ptdump_check.specs.Findings.{name_by}
use Rattle.ptdump_check.proofs.findings.names.add_names.Given as goal

-- the names in the entries so far are added
abbrev pub invariant-loop-index : goal.invariant-loop-index
invariant-loop-index l =
    l.names.items ≡ l.fn.names.items ++ filter_map (λ i. option_and_then (name_by (record { table = l.frame; index = i })) (read (words_of l.memory identity_places) l.frame i)) (range_with_len 0 l.index)
