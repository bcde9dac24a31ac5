use Rattle.std.proofs.Common.{◌∙◌, unwrap_or, ap₂}
use Rattle.x86_64_model.specs.Position.{raw}
use Rattle.ptdump_check.specs.Loaded.{words_loaded}
use Rattle.ptdump_json.specs.Walks.{walk_of}
use Rattle.ptdump_json.specs.Walked.{json_of_value}
use Rattle.ptdump_json.proofs.WalkValues.{asked_there, object_of_walk, value_arrives}
use Rattle.ptdump_json.proofs.json.walks.report_on.Goals as goal

pub returns-clause-json : goal.returns-clause-json
returns-clause-json g c =
    let L = g.L.LevelCount.LEVELS in
    let walk = walk_of L (words_loaded c.args.loaded.now) c.args.loaded.now.root c.args.address in
    ap₂ (λ a access. json_of_value a c.in_ok-walk.walk access) c.as_u64.ensures.value c.end_asked.ensures.json
    ∙ object_of_walk (raw L c.args.address) walk c.in_ok-walk.walk _ c.in_ok-walk.ensures

pub returns-clause-arrives : goal.returns-clause-arrives
returns-clause-arrives g c =
    let L = g.L.LevelCount.LEVELS in
    let T = words_loaded c.args.loaded.now in
    let root = c.args.loaded.now.root in
    let p = c.args.address in
    ap₂ (λ access walk. unwrap_or access walk) c.end_asked.ensures.arrives (value_arrives L T root p c.in_ok-walk.walk c.in_ok-walk.ensures)
    ∙ asked_there c.args.options.controls c.args.options.access L T root p
