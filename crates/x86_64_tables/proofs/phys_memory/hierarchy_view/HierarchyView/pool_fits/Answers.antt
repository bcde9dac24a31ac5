use Rattle.std.proofs.Common.{◌-◌, length, ◌∙◌, arith}
use Rattle.std.specs.FinMap.{keys}
use Rattle.x86_64_model.proofs.Lemmas.Tables.Checked.{all_clear}
use Rattle.x86_64_tables.proofs.Tested.{fits_if_sound}
use Rattle.x86_64_tables.proofs.ViewMarks.{accepted}
use Rattle.x86_64_tables.proofs.phys_memory.hierarchy_view.HierarchyView.pool_fits.Goals as goal
use Rattle.x86_64_tables.proofs.phys_memory.hierarchy_view.HierarchyView.pool_fits.Goals.{then-mark_hierarchy, else-mark_hierarchy}

pub returns-clause-decides : goal.returns-clause-decides
returns-clause-decides g c =
    let self = c.args.self.now in
    let pool = c.args.pool.now in
    let memory = g.T.TableMemory.tables self.memory.now in
    let places = g.P.PageTableFrameMapping.places self.mapping.now in
    let is_mapping = g.met.P.PageTableFrameMapping.is_mapping self.mapping.now in
    let L = g.L.LevelCount.LEVELS in
    let some = g.L.LevelCount.at_least_four in
    let means = fits_if_sound (L - 1) L (omega (arith, some)) self.root self.recursive memory places is_mapping pool in
    let marks = c.deref_mut-marks.result.now in
    let clear = all_clear marks (length (keys memory)) (c.deref_mut-marks.ensures.value ∙ c.in_ok-marks.ensures.clear) in
    let tells = rw (c.test-test.ensures, c.limit.ensures) at c.mark_hierarchy.ensures in
    elim c.if-mark_hierarchy.branch [
      | then-mark_hierarchy w ↦
          let marked = tells.marked w.if-mark_hierarchy.true in
          let pool_marked = rw (c.test-test.ensures, c.limit.ensures) at w.mark_pool.ensures in
          let accepted = accepted memory places is_mapping self.root self.recursive pool.limit (L - 1) pool.frames marks clear marked.0
          c.mark_hierarchy.new.marks w.mark_pool.new.marks marked.1 w.mark_pool.result pool_marked in
          rw w.result-is (
            λ t. means.0 (record { self = c.names_itself.ensures.0 c.if-not-names_itself.false; tables = accepted.0 t }),
            λ fits. accepted.1 (means.1 fits).tables,
          )
      | else-mark_hierarchy w ↦
          let other = w.if-mark_hierarchy.false in
          rw w.result-is (λ t. cc, λ fits. absurd (let sound = tells.sound pool.frames (means.1 fits).tables in cc))
    ]
