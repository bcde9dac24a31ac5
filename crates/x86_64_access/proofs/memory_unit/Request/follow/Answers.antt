use Rattle.std.proofs.Common.{ap, ◌≡◌, ◌≤◌, ◌-◌, ◌+◌, ◌∙◌, drop, sym, arith}
use Rattle.x86_64_model.proofs.Lemmas.Entries.Words.{address_aligned}
use Rattle.x86_64_model.specs.Access.{ends_at}
use Rattle.x86_64_access.specs.Accesses.{access_of, controls_of}
use Rattle.x86_64_access.specs.private.Walking.{along_on, rights_by}
use Rattle.x86_64_access.proofs.Along.{along_end, along_none, along_root, along_table, along_zero, none_left, one_left}
use Rattle.x86_64_access.proofs.Deciding.{rights_all}
use Rattle.x86_64_access.proofs.Walked.{table_sound}
use Rattle.x86_64_access.proofs.memory_unit.Request.follow.Goals as goal

pub loop-above-init : goal.loop-above-init
loop-above-init c =
    let whole : c.args.levels - 0 ≡ c.args.levels = omega arith in
    rw (whole, rights_all) (sym (along_root (controls_of c.args.self.controls) c.args.position (access_of c.args.self.access) c.args.levels c.args.root c.args.entries.now))

pub returns-in_default : goal.returns-in_default
returns-in_default c =
    let controls = controls_of c.args.self.controls in
    let asked = access_of c.args.self.access in
    let level = c.args.levels - c.loop-above.above in
    let rights = rights_by c.loop-above.rights.0 in
    let left = none_left c.args.entries.now c.loop-above.above c.in_default.ensures.lookup.0 in
    along_none controls c.args.position asked level c.loop-above.frame rights
    ∙ ap (along_on controls c.args.position asked level c.loop-above.frame rights) (sym left) ∙ c.loop-above.invariant

pub returns-in-Some-decide : goal.returns-in-Some-decide
returns-in-Some-decide c =
    let controls = controls_of c.args.self.controls in
    let asked = access_of c.args.self.access in
    let level = c.args.levels - c.loop-above.above in
    let rights = rights_by c.loop-above.rights.0 in
    let e = c.in-Some.entry.now in
    let low : 1 ≤ level = omega (arith, c.loop-above-test.true) in
    let left = one_left c.args.entries.now c.loop-above.above e c.in-Some.ensures.lookup.0 c.in-Some.ensures.lookup.1 in
    c.in-Some-decide.ensures.end
    ∙ ap (λ r. ends_at controls asked c.args.position r (record { level = level; frame = 0; index = 0; word = e })) c.below-rights.ensures
    ∙ along_end controls c.args.position asked level c.loop-above.frame rights e (drop (c.loop-above.above + 1) c.args.entries.now) low c.in-Some-decide.ensures.ends
    ∙ ap (along_on controls c.args.position asked level c.loop-above.frame rights) (sym left) ∙ c.loop-above.invariant

pub from_start_address_unchecked-frame-requires : goal.from_start_address_unchecked-frame-requires
from_start_address_unchecked-frame-requires c = rw c.addr.ensures (address_aligned c.in-Some.entry.now)

pub loop-above-preserved : goal.loop-above-preserved
loop-above-preserved c =
    let controls = controls_of c.args.self.controls in
    let asked = access_of c.args.self.access in
    let level = c.args.levels - c.loop-above.above in
    let rights = rights_by c.loop-above.rights.0 in
    let e = c.in-Some.entry.now in
    let parts = table_sound controls level e c.in_default-decide.ensures.on in
    let next : c.args.levels - (c.loop-above.above + 1) ≡ level - 1 = omega arith in
    let low : 1 ≤ level = omega (arith, c.loop-above-test.true) in
    let left = one_left c.args.entries.now c.loop-above.above e c.in-Some.ensures.lookup.0 c.in-Some.ensures.lookup.1 in
    rw (next, c.below-rights.ensures, c.from_start_address_unchecked-frame.ensures, c.addr.ensures)
    (along_table controls c.args.position asked level c.loop-above.frame rights e (drop (c.loop-above.above + 1) c.args.entries.now) low parts.0 parts.1 parts.2
    ∙ ap (along_on controls c.args.position asked level c.loop-above.frame rights) (sym left) ∙ c.loop-above.invariant)

pub returns : goal.returns
returns c =
    let controls = controls_of c.args.self.controls in
    let asked = access_of c.args.self.access in
    let none : 0 ≡ c.args.levels - c.loop-above.above = omega arith in
    let rights = rights_by c.loop-above.rights.0 in
    let left = drop c.loop-above.above c.args.entries.now in
    along_zero controls c.args.position asked c.loop-above.frame rights left
    ∙ ap (λ n. along_on controls c.args.position asked n c.loop-above.frame rights left) none ∙ c.loop-above.invariant
