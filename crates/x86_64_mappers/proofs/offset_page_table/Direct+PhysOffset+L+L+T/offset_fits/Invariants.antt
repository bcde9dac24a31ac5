use Rattle.std.proofs.Common.{◌+◌, ◌*◌, take}
use Rattle.std.specs.FinMap.{keys}
use Rattle.std.specs.List.{All}
use Rattle.x86_64_model.specs.Position.{raw, IsCanonical}
use Rattle.x86_64_mappers.proofs.offset_page_table.Direct+PhysOffset+L+L+T.offset_fits.Given as goal

-- the places before that of the iteration are reached
abbrev pub invariant-loop-n : goal.invariant-loop-n
invariant-loop-n g l = All (λ place. IsCanonical g.L.LevelCount.LEVELS (raw g.L.LevelCount.LEVELS l.phys_offset + place * 4096)) (take l.n (keys (g.T.TableMemory.tables l.memory)))
