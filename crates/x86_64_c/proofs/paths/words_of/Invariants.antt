use Rattle.std.proofs.Common.{◌≡◌, take}
use Rattle.x86_64_c.specs.Paths.{words_of_entries}
use Rattle.x86_64_c.proofs.paths.words_of.Given as goal

-- the words of the entries so far stand in front
abbrev pub invariant-loop-index : goal.invariant-loop-index
invariant-loop-index l = take l.index l.words ≡ words_of_entries (take l.index l.entries)
