use Rattle.std.proofs.Common.{rules, ◌≡◌, cond, filter, None, subst}
use Rattle.std.specs.List.{filter_map}
use Rattle.x86_64_model.specs.Regions.{Region, regions_in, regions_of}
use Rattle.x86_64_mappings.specs.Selections.{is_selected}
use Rattle.ptdump_check.specs.Loaded.{words_loaded}
use Rattle.ptdump_check.proofs.Asked.{all_asked}
use Rattle.ptdump_engine.specs.private.Telling.{AreTold}
use Rattle.ptdump_engine.proofs.Told.{said_of_passing, told_since}
use Rattle.ptdump_engine.proofs.telling.tell_regions.Goals as goal

pub returns : goal.returns
returns g c =
    let Lines = g.O.LineOutput.Lines in
    let said = g.T.Telling.said in
    let L = g.L.LevelCount.LEVELS in
    let loaded = c.args.loaded.now in
    let begun = c.new-teller.result in
    let end = c.visit_regions.new.visitor in
    let rs = regions_of L (words_loaded loaded) loaded.root in
    let told = subst (λ ms. AreTold Lines (λ selected r. cond (is_selected L selected.selection r) (said selected.telling r) None) begun end (regions_in L ms)) (all_asked loaded c.requires L loaded.root) c.in_ok-visit_regions.ensures in
    let name : c.visit_regions.new.visitor.output.ghost_name ≡ c.new-teller.result.output.ghost_name = told.output in
    let lines : Lines c.args.output.now c.visit_regions.new.visitor.output.now (filter_map (said c.args.telling) (filter (is_selected L c.args.selection) rs)) =
    subst (Lines c.args.output.now end.output.now) (said_of_passing (is_selected L c.args.selection) (said c.args.telling) rs)
    (told_since Lines _ begun end rs _ c.args.output.now c.new-teller.ensures.telling c.new-teller.ensures.now told) in
    search rules
