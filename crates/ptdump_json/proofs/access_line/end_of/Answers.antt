use Rattle.std.proofs.Common.{◌∙◌, ap}
use Rattle.x86_64_access.specs.Accesses.{access_of, controls_of}
use Rattle.x86_64_model.specs.Access.{access}
use Rattle.x86_64_model.specs.Memory.{words_of, identity_places}
use Rattle.ptdump_json.proofs.AccessLaws.{limited_access}
use Rattle.ptdump_json.proofs.access_line.end_of.Goals as goal

pub returns : goal.returns
returns g c =
    let L = g.L.LevelCount.LEVELS in
    let T = words_of c.args.memory.now identity_places in
    let a = access_of c.args.asked in
    c.access.ensures ∙ ap (λ settings. access L (controls_of settings) T c.args.root c.args.address a) c.limited-limits.ensures
    ∙ limited_access c.args.controls L T c.args.root c.args.address a
