use Rattle.std.proofs.Common.{rules, ap, ◌≡◌, ◌≤◌, ◌-◌, ◌+◌, ◌∙◌, None, Some, sym, arith}
use Rattle.x86_64_model.proofs.Lemmas.Entries.Words.{address_aligned}
use Rattle.x86_64_model.specs.Access.{ends_at}
use Rattle.x86_64_model.specs.Memory.{words_of}
use Rattle.x86_64_model.specs.Position.{index}
use Rattle.x86_64_model.specs.PageWalk.{read}
use Rattle.x86_64_access.specs.Accesses.{access_of, controls_of}
use Rattle.x86_64_access.specs.private.Walking.{access_on, rights_by}
use Rattle.x86_64_access.proofs.Deciding.{rights_all}
use Rattle.x86_64_access.proofs.Walked.{on_root, on_zero, on_none, on_end, on_table, table_sound}
use Rattle.x86_64_access.proofs.memory_unit.Request.walk.Goals as goal

pub loop-above-init : goal.loop-above-init
loop-above-init g c =
    let words = words_of (g.T.TableMemory.tables c.args.memory.now) (g.P.PageTableFrameMapping.places c.args.mapping.now) in
    let whole : c.args.levels - 0 ≡ c.args.levels = omega arith in
    rw (whole, rights_all) (sym (on_root (controls_of c.args.self.controls) words c.args.position (access_of c.args.self.access) c.args.levels c.args.root))

pub returns-in_default : goal.returns-in_default
returns-in_default g c =
    let words = words_of (g.T.TableMemory.tables c.args.memory.now) (g.P.PageTableFrameMapping.places c.args.mapping.now) in
    let level = c.args.levels - c.loop-above.above in
    let none : None ≡ read words c.loop-above.frame (index level c.args.position) = search rules in
    on_none (controls_of c.args.self.controls) words c.args.position (access_of c.args.self.access) level c.loop-above.frame
    (rights_by c.loop-above.rights.0) (omega (arith, c.loop-above-test.true)) none ∙ c.loop-above.invariant

pub from_start_address_unchecked-frame-requires : goal.from_start_address_unchecked-frame-requires
from_start_address_unchecked-frame-requires g c = rw c.addr.ensures (address_aligned c.index-entry.result.now)

pub returns-in-Some-decide : goal.returns-in-Some-decide
returns-in-Some-decide g c =
    let words = words_of (g.T.TableMemory.tables c.args.memory.now) (g.P.PageTableFrameMapping.places c.args.mapping.now) in
    let level = c.args.levels - c.loop-above.above in
    let e = c.index-entry.result.now in
    let controls = controls_of c.args.self.controls in
    let asked = access_of c.args.self.access in
    let is : Some e ≡ read words c.loop-above.frame (index level c.args.position) = search rules in
    let low : 1 ≤ level = omega (arith, c.loop-above-test.true) in
    c.in-Some-decide.ensures.end
    ∙ ap (λ r. ends_at controls asked c.args.position r (record { level = level; frame = 0; index = 0; word = e })) c.below-rights.ensures
    ∙ on_end controls words c.args.position asked level c.loop-above.frame (rights_by c.loop-above.rights.0) e low is c.in-Some-decide.ensures.ends ∙ c.loop-above.invariant

pub loop-above-preserved : goal.loop-above-preserved
loop-above-preserved g c =
    let words = words_of (g.T.TableMemory.tables c.args.memory.now) (g.P.PageTableFrameMapping.places c.args.mapping.now) in
    let level = c.args.levels - c.loop-above.above in
    let e = c.index-entry.result.now in
    let controls = controls_of c.args.self.controls in
    let is : Some e ≡ read words c.loop-above.frame (index level c.args.position) = search rules in
    let parts = table_sound controls level e c.in_default-decide.ensures.on in
    let next : c.args.levels - (c.loop-above.above + 1) ≡ level - 1 = omega arith in
    let low : 1 ≤ level = omega (arith, c.loop-above-test.true) in
    rw (next, c.below-rights.ensures, c.from_start_address_unchecked-frame.ensures, c.addr.ensures)
    (on_table controls words c.args.position (access_of c.args.self.access) level c.loop-above.frame (rights_by c.loop-above.rights.0) e low is parts.0 parts.1 parts.2 ∙ c.loop-above.invariant)

pub returns : goal.returns
returns g c =
    let words = words_of (g.T.TableMemory.tables c.args.memory.now) (g.P.PageTableFrameMapping.places c.args.mapping.now) in
    let none : 0 ≡ c.args.levels - c.loop-above.above = omega arith in
    let rights = rights_by c.loop-above.rights.0 in
    on_zero (controls_of c.args.self.controls) words c.args.position (access_of c.args.self.access) c.loop-above.frame rights
    ∙ ap (λ n. access_on (controls_of c.args.self.controls) words c.args.position (access_of c.args.self.access) n c.loop-above.frame rights) none ∙ c.loop-above.invariant
