use Rattle.std.proofs.Common.{◌-◌, length}
use Rattle.std.specs.FinMap.{keys}
use Rattle.x86_64_model.proofs.Lemmas.Tables.Checked.{all_clear}
use Rattle.x86_64_tables.proofs.ViewMarks.{refused}
use Rattle.x86_64_tables.proofs.phys_memory.validity.HierarchyTest.mark_hierarchy.Goals as goal

pub returns-else-mark_tables-clause-sound : goal.returns-else-mark_tables-clause-sound
returns-else-mark_tables-clause-sound g c =
    let self = c.args.self.now in
    let memory = g.T.TableMemory.tables self.view.memory.now in
    let places = g.P.PageTableFrameMapping.places self.view.mapping.now in
    let is_mapping = g.met.P.PageTableFrameMapping.is_mapping self.view.mapping.now in
    let clear = all_clear c.args.marks.now (length (keys memory)) c.requires in
    λ pool sound. absurd (refused memory places is_mapping self.view.root self.view.recursive self.limit (g.L.LevelCount.LEVELS - 1)
    pool c.args.marks.now clear (rw c.levels_below-levels.ensures at c.if-mark_tables.ensures) sound)
