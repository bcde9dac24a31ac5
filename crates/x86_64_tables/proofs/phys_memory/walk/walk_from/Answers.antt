use Rattle.std.proofs.Common.{rules, ◌⊎◌, ◌≡◌, ◌<◌, ◌-◌, ◌+◌, ◌∙◌, true, false, None, Some, option_map, inl, inr, ap, arith}
use Rattle.x86_64_model.proofs.Lemmas.Entries.Words.{address_aligned}
use Rattle.x86_64_model.specs.Entry.{huge, present}
use Rattle.x86_64_model.specs.Memory.{words_of}
use Rattle.x86_64_model.specs.Position.{index}
use Rattle.x86_64_model.specs.PageWalk.{read, walk_on}
use Rattle.x86_64_tables.specs.Walks.{walked_of, ends}
use Rattle.x86_64_tables.proofs.WalkSteps.{on_none, on_absent, on_end, on_table}
use Rattle.x86_64_tables.proofs.phys_memory.walk.walk_from.Goals as goal
use Rattle.x86_64_tables.proofs.phys_memory.walk.walk_from.Goals.{then-level-eq1-via-then-level-eq1, then-level-eq1-via-else-level-eq1+then-has_flag}

pub returns-in_err-entry : goal.returns-in_err-entry
returns-in_err-entry g c =
    let words = words_of (g.T.TableMemory.tables c.args.memory.now) (g.P.PageTableFrameMapping.places c.args.mapping.now) in
    let level = c.args.levels - c.loop-above.above in
    let none : None ≡ read words c.loop-above.frame (index level c.args.position) = search rules in
    let said : option_map walked_of c.from_residual.result ≡ None = search rules in
    said ∙ on_none words c.args.position level _ _ c.loop-above.frame (omega (arith, c.loop-above-test.true)) none ∙ c.loop-above.invariant

pub returns-then-not-has_flag : goal.returns-then-not-has_flag
returns-then-not-has_flag g c =
    let words = words_of (g.T.TableMemory.tables c.args.memory.now) (g.P.PageTableFrameMapping.places c.args.mapping.now) in
    let level = c.args.levels - c.loop-above.above in
    let e = c.in_ok-entry.entry.now in
    let is : Some e ≡ read words c.loop-above.frame (index level c.args.position) = search rules in
    let absent : present e ≡ false = search rules in
    on_absent words c.args.position level _ _ c.loop-above.frame e is (omega (arith, c.loop-above-test.true)) absent ∙ c.loop-above.invariant

pub returns-then-level-eq1 : goal.returns-then-level-eq1
returns-then-level-eq1 g c =
    let words = words_of (g.T.TableMemory.tables c.args.memory.now) (g.P.PageTableFrameMapping.places c.args.mapping.now) in
    let level = c.args.levels - c.loop-above.above in
    let e = c.in_ok-entry.entry.now in
    let rights = c.loop-above.rights in
    let is : Some e ≡ read words c.loop-above.frame (index level c.args.position) = search rules in
    let here : present e ≡ true = search rules in
    let ended : (level ≡ 1) ⊎ (huge e ≡ true) = elim c.then-level-eq1.branch [
      | then-level-eq1-via-then-level-eq1 w ↦ inl (search rules)
      | then-level-eq1-via-else-level-eq1+then-has_flag w ↦ inr (search rules)
    ] in
    c.arrive_at.ensures ∙ ap (λ r. ends level c.args.position r.write r.user e) c.below-rights.ensures
    ∙ on_end words c.args.position level rights.write rights.user c.loop-above.frame e is (omega (arith, c.loop-above-test.true)) here ended ∙ c.loop-above.invariant

pub from_start_address_unchecked-frame-requires : goal.from_start_address_unchecked-frame-requires
from_start_address_unchecked-frame-requires g c = rw c.addr.ensures (address_aligned c.in_ok-entry.entry.now)

pub loop-above-preserved : goal.loop-above-preserved
loop-above-preserved g c =
    let words = words_of (g.T.TableMemory.tables c.args.memory.now) (g.P.PageTableFrameMapping.places c.args.mapping.now) in
    let level = c.args.levels - c.loop-above.above in
    let e = c.in_ok-entry.entry.now in
    let rights = c.loop-above.rights in
    let is : Some e ≡ read words c.loop-above.frame (index level c.args.position) = search rules in
    let here : present e ≡ true = search rules in
    let table : huge e ≡ false = search rules in
    let next : c.args.levels - (c.loop-above.above + 1) ≡ level - 1 = omega arith in
    let more : 1 < level = omega (arith, c.loop-above-test.true, c.if-level-eq1.false) in
    rw (next, c.below-rights.ensures, c.from_start_address_unchecked-frame.ensures, c.addr.ensures)
    (on_table words c.args.position level rights.write rights.user c.loop-above.frame e is more here table ∙ c.loop-above.invariant)

pub returns : goal.returns
unfolding walk_on
returns g c =
    let words = words_of (g.T.TableMemory.tables c.args.memory.now) (g.P.PageTableFrameMapping.places c.args.mapping.now) in
    let rights = c.loop-above.rights in
    let none : 0 ≡ c.args.levels - c.loop-above.above = omega (arith, c.loop-above-test.false) in
    ap (λ n. walk_on words c.args.position n rights.write rights.user c.loop-above.frame) none ∙ c.loop-above.invariant
