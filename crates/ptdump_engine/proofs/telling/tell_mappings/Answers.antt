use Rattle.std.proofs.Common.{rules, ◌≡◌, filter, subst}
use Rattle.std.specs.List.{filter_map}
use Rattle.x86_64_model.specs.Mappings.{mappings_of}
use Rattle.x86_64_mappings.specs.Selections.{is_mapping_selected}
use Rattle.ptdump_check.specs.Loaded.{words_loaded}
use Rattle.ptdump_check.proofs.Asked.{all_asked}
use Rattle.ptdump_engine.specs.private.Telling.{AreTold}
use Rattle.ptdump_engine.proofs.Told.{told_since}
use Rattle.ptdump_engine.proofs.telling.tell_mappings.Goals as goal

pub returns : goal.returns
returns g c =
    let Lines = g.O.LineOutput.Lines in
    let said = g.T.Telling.said in
    let L = g.L.LevelCount.LEVELS in
    let loaded = c.args.loaded.now in
    let begun = c.new-teller.result in
    let ms = filter (is_mapping_selected L c.args.selection) (mappings_of L (words_loaded loaded) loaded.root) in
    let told : AreTold Lines said begun c.visit_selected_mappings.new.visitor ms =
    subst (λ all. AreTold Lines said begun c.visit_selected_mappings.new.visitor (filter (is_mapping_selected L c.args.selection) all)) (all_asked loaded c.requires L loaded.root) c.in_ok-visit_selected_mappings.ensures in
    let name : c.visit_selected_mappings.new.visitor.output.ghost_name ≡ c.new-teller.result.output.ghost_name = told.output in
    let lines : Lines c.args.output.now c.visit_selected_mappings.new.visitor.output.now (filter_map (said c.args.telling) ms) =
    told_since Lines said begun c.visit_selected_mappings.new.visitor ms c.args.telling c.args.output.now c.new-teller.ensures.telling c.new-teller.ensures.now told in
    search rules
