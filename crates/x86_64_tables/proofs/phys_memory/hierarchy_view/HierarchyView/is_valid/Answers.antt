use Rattle.std.proofs.Common.{◌-◌, ◌^◌, length, [], ◌∙◌, arith}
use Rattle.std.specs.FinMap.{keys}
use Rattle.x86_64_model.specs.Memory.{words_of}
use Rattle.x86_64_model.proofs.Lemmas.Tables.Checked.{all_clear}
use Rattle.x86_64_tables.proofs.Tested.{valid_if_sound}
use Rattle.x86_64_tables.proofs.ViewMarks.{sound_alone}
use Rattle.x86_64_tables.proofs.phys_memory.hierarchy_view.HierarchyView.is_valid.Goals as goal

pub returns-clause-decides : goal.returns-clause-decides
returns-clause-decides g c =
    let self = c.args.self.now in
    let memory = g.T.TableMemory.tables self.memory.now in
    let places = g.P.PageTableFrameMapping.places self.mapping.now in
    let is_mapping = g.met.P.PageTableFrameMapping.is_mapping self.mapping.now in
    let L = g.L.LevelCount.LEVELS in
    let some = g.L.LevelCount.at_least_four in
    let means = valid_if_sound (L - 1) L (omega (arith, some)) self.root self.recursive (words_of memory places) in
    let marks = c.deref_mut.result.now in
    let clear = all_clear marks (length (keys memory)) (c.deref_mut.ensures.value ∙ c.in_ok-marks.ensures.clear) in
    let tells = rw c.test.ensures at c.mark_hierarchy.ensures in (
      λ t. let marked = tells.marked t in means.0 (record {
        self = c.names_itself.ensures.0 c.if-not-names_itself.false;
        tables = sound_alone memory places is_mapping self.root self.recursive (2 ^ 40) (L - 1) marks clear marked.0 c.mark_hierarchy.new.marks marked.1;
      }),
      λ valid. tells.sound [] (means.1 valid).tables,
    )
