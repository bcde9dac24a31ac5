use Rattle.std.proofs.Common.{sym, ap, ◌∙◌, subst₂}
use Rattle.x86_64_model.specs.Hierarchy.{◌laid_in◌, Valid}
use Rattle.x86_64_mappers.specs.Layouts.{direct_at}
use Rattle.x86_64_mappers.specs.Offsets.{offset_places}
use Rattle.x86_64_mappers.proofs.Memory.OffsetTables.{offset_valid}
use Rattle.x86_64_mappers.proofs.offset_page_table.Direct+PhysOffset+L+L+T.new.Goals as goal

pub over-requires : goal.over-requires
over-requires g c =
    let valid = (offset_valid g.L.LevelCount.LEVELS (g.T.TableMemory.tables c.args.memory.now) c.args.phys_offset c.requires.fits c.args.root).0 c.requires.valid in
    rw c.new-mapping.ensures valid

pub returns-clause-valid : goal.returns-clause-valid
returns-clause-valid g c =
    let valid = (offset_valid g.L.LevelCount.LEVELS (g.T.TableMemory.tables c.args.memory.now) c.args.phys_offset c.requires.fits c.args.root).0 c.requires.valid in
    subst₂ (λ l m. Valid (l laid_in m))
    (sym (c.over.ensures.layout ∙ ap (λ offset. direct_at g.L.LevelCount.LEVELS (offset_places g.L.LevelCount.LEVELS offset) c.args.root) c.new-mapping.ensures))
    (sym c.over.ensures.memory) valid
