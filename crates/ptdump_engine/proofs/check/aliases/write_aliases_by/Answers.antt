use Rattle.std.proofs.Common.{rules, ◌≡◌, ◌∙◌, ℕ, List, [], ◌∷◌, filter, option_map, refl, ap, ap₂, subst}
use Rattle.std.proofs.lemmas.List.Elements.{All-cons, All-filter, All-from_recursion, All-head, All-tail, recursion_from_All}
use Rattle.std.specs.List.{All, AllByRecursion, cons_option, filter_map}
use Rattle.x86_64_model.specs.Mappings.{Mapping, mappings_of}
use Rattle.x86_64_mappings.specs.Kinds.{distinct}
use Rattle.x86_64_mappings.specs.Selections.{is_mapping_selected}
use Rattle.x86_64_mappings.specs.Views.{frame_at, frame_at_frame}
use Rattle.ptdump_check.specs.Aliasing.{alias_by, aliased_by, AreOfAll, MapsAPage}
use Rattle.ptdump_check.specs.Loaded.{words_loaded}
use Rattle.ptdump_check.specs.declared.first_mappings.FirstMappings.{FirstMappings}
use Rattle.ptdump_check.proofs.Asked.{all_asked}
use Rattle.ptdump_check.proofs.FirstAliases.{said_by}
use Rattle.ptdump_engine.specs.CheckReports.{alias_lines, said_of_aliased, said_of_mapping}
use Rattle.ptdump_engine.specs.private.Checked.{said_by_firsts}
use Rattle.ptdump_engine.specs.private.Telling.{AreTold}
use Rattle.ptdump_engine.proofs.Told.{told_since}
use Rattle.ptdump_engine.proofs.check.aliases.write_aliases_by.Goals as goal

-- what holds of all mappings holds of the first of each kind
all_distinct : (P : Mapping → Type 0) (ms : List Mapping) → All P ms → All P (distinct ms)
all_distinct P [] h = h
all_distinct P (m ∷ ms) h = All-cons P m _ (All-head P m ms h) (All-filter _ P (distinct ms) (all_distinct P ms (All-tail P m ms h)))

-- what is said of mappings of pages by the first mappings of all frames
said_alike : {X : Type 0} (L : ℕ) (firsts : FirstMappings X) (all : List Mapping) → AreOfAll L firsts all → (ms : List Mapping) → AllByRecursion MapsAPage ms
    → filter_map (said_by_firsts L firsts) ms ≡ filter_map (said_of_mapping L all) ms
said_alike L firsts all known [] pages = refl
said_alike L firsts all known (m ∷ ms) pages =
    let frame = pages.0.0 in
    let leads = pages.0.1 in
    let is : frame_at m.size m.frame ≡ frame = (λ i. frame_at (leads.size i) (leads.start i)) ∙ frame_at_frame frame in
    ap₂ cons_option
    (ap (λ f. option_map (λ n. said_of_aliased (aliased_by L m n)) (alias_by firsts f m.rights m.start)) is ∙ said_by L firsts all known said_of_aliased frame m leads)
    (said_alike L firsts all known ms pages.1)

pub returns : goal.returns
returns g c =
    let Lines = g.O.LineOutput.Lines in
    let L = g.L.LevelCount.LEVELS in
    let loaded = c.args.loaded.now in
    let firsts = c.args.firsts.now in
    let kept = is_mapping_selected L c.args.selection.now in
    let all = mappings_of L (words_loaded loaded) loaded.root in
    let ms = distinct (filter kept all) in
    let begun = c.new-teller.result in
    let end = c.visit_distinct_mappings.new.visitor in
    let pages = recursion_from_All MapsAPage ms (all_distinct MapsAPage (filter kept all) (All-filter kept MapsAPage all (All-from_recursion MapsAPage all c.requires.firsts.after.pages))) in
    let told : AreTold Lines (said_by_firsts L) begun end ms =
    subst (λ asked. AreTold Lines (said_by_firsts L) begun end (distinct (filter kept asked))) (all_asked loaded c.requires.loaded L loaded.root) c.in_ok-visit_distinct_mappings.ensures in
    let name : c.visit_distinct_mappings.new.visitor.output.ghost_name ≡ c.new-teller.result.output.ghost_name = told.output in
    let lines : Lines c.args.output.now c.visit_distinct_mappings.new.visitor.output.now (alias_lines L c.args.selection.now all) =
    subst (Lines c.args.output.now end.output.now) (said_alike L firsts all c.requires.firsts ms pages)
    (told_since Lines (said_by_firsts L) begun end ms firsts c.args.output.now c.new-teller.ensures.telling c.new-teller.ensures.now told) in
    search rules
