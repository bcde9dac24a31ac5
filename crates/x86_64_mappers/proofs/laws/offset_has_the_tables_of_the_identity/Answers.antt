use Rattle.x86_64_mappers.proofs.Memory.OffsetTables.{offset_valid, offset_fits}
use Rattle.x86_64_mappers.proofs.laws.offset_has_the_tables_of_the_identity.Goals as goal

pub returns-clause-valid : goal.returns-clause-valid
returns-clause-valid g c = offset_valid g.L.LevelCount.LEVELS (g.T.TableMemory.tables c.args.memory.now) c.args.phys_offset c.requires

pub returns-clause-fits : goal.returns-clause-fits
returns-clause-fits g c = offset_fits g.L.LevelCount.LEVELS (g.T.TableMemory.tables c.args.memory.now) c.args.phys_offset c.requires
