use Rattle.std.proofs.Common.{◌+◌, ◌∙◌, ap, length}
use Rattle.x86_64_mappers.proofs.Way.EntryPaths.{path_to, path_length}
use Rattle.x86_64_mappers.proofs.walk.path.EntryPath.to_level.Goals as goal

pub returns-clause-path : goal.returns-clause-path
returns-clause-path g c =
    rw c.LEVELS-5.ensures (path_to g.L.LevelCount.LEVELS c.args.level c.args.addr _ _ _ _ _ g.L.LevelCount.known_levels c.requires.0
    (rw c.LEVELS.ensures at c.table_index.ensures) (rw c.LEVELS-2.ensures at c.table_index-2.ensures)
    (rw c.LEVELS-3.ensures at c.table_index-3.ensures) (rw c.LEVELS-4.ensures at c.table_index-4.ensures) c.table_index-5.ensures)

pub returns-clause-levels : goal.returns-clause-levels
returns-clause-levels g c =
    ap (λ q. length q + c.args.level) (returns-clause-path g c) ∙ path_length g.L.LevelCount.LEVELS c.args.level c.args.addr c.requires.0 c.requires.1
