use Rattle.std.proofs.Common.{◌-◌, ◌^◌, ap, sym, ◌∙◌, replicate, length, false, [], None, arith}
use Rattle.std.specs.FinMap.{keys}
use Rattle.x86_64_model.specs.Memory.{words_of}
use Rattle.x86_64_model.proofs.Lemmas.Tables.Checked.{all_clear}
use Rattle.x86_64_tables.specs.PhysMemory.{length_keys}
use Rattle.x86_64_tables.proofs.Tested.{valid_if_sound}
use Rattle.x86_64_tables.proofs.ViewMarks.{sound_alone}
use Rattle.x86_64_tables.proofs.phys_memory.lent_marks.is_valid_by_marks.Goals as goal

pub mark_hierarchy-requires : goal.mark_hierarchy-requires
mark_hierarchy-requires g c =
    let memory = g.T.TableMemory.tables c.args.memory.now in
    rw (c.test.ensures, c.new-view.ensures) (c.fill.ensures.after (λ y e. e) ∙ ap (λ n. replicate n false) (c.requires ∙ sym (length_keys memory)))

pub returns : goal.returns
returns g c =
    let memory = g.T.TableMemory.tables c.args.memory.now in
    let places = g.P.PageTableFrameMapping.places c.args.mapping.now in
    let is_mapping = g.met.P.PageTableFrameMapping.is_mapping c.args.mapping.now in
    let L = g.L.LevelCount.LEVELS in
    let some = g.L.LevelCount.at_least_four in
    let means = valid_if_sound (L - 1) L (omega (arith, some)) c.args.root None (words_of memory places) in
    let marks = c.fill.new.self in
    let clear = all_clear marks (length (keys memory)) (c.fill.ensures.after (λ y e. e) ∙ ap (λ n. replicate n false) (c.requires ∙ sym (length_keys memory))) in
    let tells = rw (c.test.ensures, c.new-view.ensures) at c.mark_hierarchy.ensures in (
      λ t. let marked = tells.marked t in means.0 (record {
        self = tt;
        tables = sound_alone memory places is_mapping c.args.root None (2 ^ 40) (L - 1) marks clear marked.0 c.mark_hierarchy.new.marks marked.1;
      }),
      λ valid. tells.sound [] (means.1 valid).tables,
    )
