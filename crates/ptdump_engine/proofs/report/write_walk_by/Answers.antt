use Rattle.std.proofs.Common.{◌∙◌, ◌++◌, [], if◌then◌else◌, sym, ap, subst, append-nil}
use Rattle.ptdump_check.specs.Loaded.{words_loaded}
use Rattle.ptdump_json.specs.Accesses.{asked_text, is_access_there}
use Rattle.ptdump_json.specs.Explanations.{explanation_text}
use Rattle.ptdump_engine.specs.Output.{Puts}
use Rattle.ptdump_json.specs.Walks.{walk_of, walk_text}
use Rattle.ptdump_engine.specs.private.Puts.{puts_both}
use Rattle.ptdump_json.proofs.Results.{on_ok}
use Rattle.ptdump_json.proofs.WalkValues.{value_arrives}
use Rattle.ptdump_engine.proofs.WalkTexts.{puts_walk}
use Rattle.ptdump_engine.proofs.report.write_walk_by.Goals as goal

pub returns-in-None-clause-text : goal.returns-in-None-clause-text
returns-in-None-clause-text g c =
    let L = g.L.LevelCount.LEVELS in
    let T = words_loaded c.args.loaded.now in
    let root = c.args.loaded.now.root in
    let p = c.args.address in
    let contents = g.W.Destination.contents in
    let controls = c.args.options.controls in
    let source = c.args.options.source in
    let told = walk_text controls (walk_of L T root p) ++ (if c.args.options.explains then explanation_text (walk_of L T root p) else []) in
    let put = puts_walk contents c.args.output.now c.write_walk.new.output c.write_explanation.new.output controls c.args.options.explains (walk_of L T root p) c.in_ok-walk.walk
    c.in_ok-walk.ensures c.in_ok-write_walk.ensures c.in_ok-write_explanation.ensures in
    subst (Puts contents c.args.output.now c.write_explanation.new.output)
    (sym (append-nil told) ∙ ap (λ asked. told ++ asked_text controls source asked L T root p) (sym c.in-None.is)) put

pub returns-in-None-clause-arrives : goal.returns-in-None-clause-arrives
returns-in-None-clause-arrives g c =
    let L = g.L.LevelCount.LEVELS in
    let T = words_loaded c.args.loaded.now in
    let root = c.args.loaded.now.root in
    let p = c.args.address in
    c.arrives.ensures ∙ value_arrives L T root p c.in_ok-walk.walk c.in_ok-walk.ensures ∙ ap (λ asked. is_access_there c.args.options.controls asked L T root p) (sym c.in-None.is)

pub returns-clause-text : goal.returns-clause-text
returns-clause-text g c =
    let L = g.L.LevelCount.LEVELS in
    let T = words_loaded c.args.loaded.now in
    let root = c.args.loaded.now.root in
    let p = c.args.address in
    let contents = g.W.Destination.contents in
    let controls = c.args.options.controls in
    let source = c.args.options.source in
    let told = walk_text controls (walk_of L T root p) ++ (if c.args.options.explains then explanation_text (walk_of L T root p) else []) in
    let put = puts_walk contents c.args.output.now c.write_walk.new.output c.write_explanation.new.output controls c.args.options.explains (walk_of L T root p) c.in_ok-walk.walk
    c.in_ok-walk.ensures c.in_ok-write_walk.ensures c.in_ok-write_explanation.ensures in
    on_ok c.write_access.result (λ access. subst (Puts contents c.args.output.now c.write_access.new.output)
    (ap (λ asked. told ++ asked_text controls source asked L T root p) (sym c.in-Some.is))
    (puts_both contents c.args.output.now c.write_explanation.new.output c.write_access.new.output _ _ put access))
    c.write_access.ensures.text
