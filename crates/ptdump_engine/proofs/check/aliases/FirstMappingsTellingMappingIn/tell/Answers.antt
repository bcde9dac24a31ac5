use Rattle.std.proofs.Common.{◌≡◌, ◌∙◌, [], Some, option_map, sym, ap, subst}
use Rattle.std.specs.List.{cons_option}
use Rattle.x86_64_model.specs.Mappings.{Mapping}
use Rattle.x86_64_mappings.specs.Views.{frame_at, frame_at_frame}
use Rattle.ptdump_check.specs.Aliasing.{alias_by, aliased_by}
use Rattle.ptdump_engine.specs.CheckReports.{said_of_aliased}
use Rattle.ptdump_json.proofs.Results.{on_ok}
use Rattle.ptdump_engine.proofs.check.aliases.FirstMappingsTellingMappingIn.tell.Goals as goal

pub returns-in-Some : goal.returns-in-Some
returns-in-Some g c =
    let firsts = c.args.self.now in
    let m = c.args.mapping in
    let inside = c.mapping.inside in
    let is : alias_by firsts (frame_at m.size m.frame) m.rights m.start ≡ c.alias.result =
    sym (ap (λ (m : Mapping). alias_by firsts (frame_at m.size m.frame) m.rights m.start) c.mapping.view_is)
    ∙ ap (λ frame. alias_by firsts frame inside.rights inside.start) (frame_at_frame inside.frame) ∙ sym c.alias.ensures.alias in
    on_ok c.write_line.result (subst (λ o. g.O.LineOutput.Lines c.args.output.now c.write_line.new.self (cons_option o []))
    (ap (λ a. Some (said_of_aliased a)) c.of.ensures ∙ ap (option_map (λ n. said_of_aliased (aliased_by g.L.LevelCount.LEVELS m n))) (sym (is ∙ c.in-Some.is))))
    c.write_line.ensures

pub returns-in-None : goal.returns-in-None
returns-in-None g c =
    let firsts = c.args.self.now in
    let m = c.args.mapping in
    let inside = c.mapping.inside in
    let is : alias_by firsts (frame_at m.size m.frame) m.rights m.start ≡ c.alias.result =
    sym (ap (λ (m : Mapping). alias_by firsts (frame_at m.size m.frame) m.rights m.start) c.mapping.view_is)
    ∙ ap (λ frame. alias_by firsts frame inside.rights inside.start) (frame_at_frame inside.frame) ∙ sym c.alias.ensures.alias in
    subst (λ o. g.O.LineOutput.Lines c.args.output.now c.args.output.now (cons_option o []))
    (ap (option_map (λ n. said_of_aliased (aliased_by g.L.LevelCount.LEVELS m n))) (sym (is ∙ c.in-None.is)))
    (g.O.LineOutput.nothing c.args.output.now)
