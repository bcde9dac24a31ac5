use Rattle.std.proofs.Common.{rules, ◌≡◌, ◌≤◌, ◌∙◌, length, arith}
use Rattle.x86_64_c.proofs.PathsRead.{all_right, any_root, none_is_bad}
use Rattle.x86_64_c.proofs.paths.came_along.Goals as goal

pub returns-then-is_empty-clause-bad : goal.returns-then-is_empty-clause-bad
returns-then-is_empty-clause-bad g c =
    let none : length c.args.entries.now ≡ 0 = search rules in
    none_is_bad g.L.LevelCount.LEVELS (length c.args.entries.now) c.args.controls.now c.args.request.now c.in-Some.ensures.good c.in_ok-address.ensures.good none

pub returns-clause-good : goal.returns-clause-good
returns-clause-good g c =
    let some : 1 ≤ length c.args.entries.now = search rules in
    let within : length c.args.entries.now ≤ g.L.LevelCount.LEVELS = search rules in
    all_right g.L.LevelCount.LEVELS (length c.args.entries.now) c.args.controls.now c.args.request.now c.in-Some.ensures.good c.in_ok-address.ensures.good some within

pub returns-clause-came : goal.returns-clause-came
returns-clause-came g c root =
    let some : 1 ≤ length c.args.entries.now = search rules in
    let along = rw (c.controls_of.ensures, c.in_ok-address.ensures.position, c.in-Some.ensures.some, c.words_of-path.ensures) at c.outcome_of.ensures.along in
    along ∙ any_root g.L.LevelCount.LEVELS (omega (arith, g.L.LevelCount.at_least_four)) c.containing_address-root.result root c.args.controls.now c.args.request.now c.args.entries.now some
