use Rattle.std.proofs.Common.{arith, rules, true≢false, ◌≡◌, ◌≤◌, ◌∙◌, ℕ, None, ap, refl, sym}
use Rattle.std.proofs.lemmas.Bool.Decides.{nat_tests}
use Rattle.x86_64_model.specs.Call.{SetFlags}
use Rattle.x86_64_mappers.specs.Layouts.{direct_at}
use Rattle.x86_64_tables.specs.MapperAnswers.{flags_answer}
use Rattle.x86_64_tables.specs.PageTableFlags.{bits_of}
use Rattle.x86_64_c.specs.Arguments.{unless}
use Rattle.x86_64_c.specs.Calls.{is_table_level}
use Rattle.x86_64_c.specs.Status.{bad_levels}
use Rattle.x86_64_c.proofs.EntryChanges.{changes, is_page_level, of, plain, valid_over}
use Rattle.x86_64_c.proofs.PoolSteps.{seen_allows}
use Rattle.x86_64_c.proofs.changes.FlagsOfTableEntryChange.make.Goals as goal

from_two : (L level : ℕ) → unless (is_table_level L level) bad_levels ≡ None → 2 ≤ level
from_two L level good = grind (arith, nat_tests)

up_to : (L level : ℕ) → unless (is_table_level L level) bad_levels ≡ None → level ≤ L
up_to L level good = grind (arith, nat_tests)

pub may_set-requires-clause-low : goal.may_set-requires-clause-low
may_set-requires-clause-low g c = from_two g.L.LevelCount.LEVELS c.args.self.now.level c.requires.good

pub may_set-requires-clause-high : goal.may_set-requires-clause-high
may_set-requires-clause-high g c = up_to g.L.LevelCount.LEVELS c.args.self.now.level c.requires.good

pub set_table_flags-set-requires-clause-low : goal.set_table_flags-set-requires-clause-low
set_table_flags-set-requires-clause-low g c = from_two g.L.LevelCount.LEVELS c.args.self.now.level c.requires.good

pub set_table_flags-set-requires-clause-high : goal.set_table_flags-set-requires-clause-high
set_table_flags-set-requires-clause-high g c = up_to g.L.LevelCount.LEVELS c.args.self.now.level c.requires.good

pub returns-clause-makes : goal.returns-clause-makes
returns-clause-makes g c =
    let L = g.L.LevelCount.LEVELS in
    let level = c.args.self.now.level in
    let layout = direct_at L (g.P.PageTableFrameMapping.places c.args.located.mapping) c.args.located.root in
    let call = SetFlags level g.S.PageSize.LEVEL c.args.page (bits_of c.args.self.now.flags) in
    let is = is_page_level L g.L.LevelCount.at_least_four g.S.PageSize.LEVEL g.S.PageSize.low g.S.PageSize.high in
    let allowed = sym (seen_allows _ layout _ _ c.new-mapper.ensures.layout c.new-mapper.ensures.memory call) ∙ sym c.may_set.ensures
    ∙ c.if-not-may_set.false in (
      λ refused. absurd (true≢false (sym allowed ∙ refused)),
      λ may. (
        flags_answer _ c.set_table_flags-set.result,
        changes _ _ layout (g.T.TableMemory.tables c.args.memory.now) _ c.new-mapper.ensures.layout c.new-mapper.ensures.memory (search rules)
            call _ c.set_status.result plain (from_two L level c.requires.good, up_to L level c.requires.good, is) may
            c.set_table_flags-set.ensures (c.set_status.ensures _),
      ),
    )

pub returns-then-not-may_set-clause-makes : goal.returns-then-not-may_set-clause-makes
returns-then-not-may_set-clause-makes g c =
    let layout = direct_at g.L.LevelCount.LEVELS (g.P.PageTableFrameMapping.places c.args.located.mapping) c.args.located.root in
    let call = SetFlags c.args.self.now.level g.S.PageSize.LEVEL c.args.page (bits_of c.args.self.now.flags) in
    let refused = sym (seen_allows _ layout _ _ c.new-mapper.ensures.layout c.new-mapper.ensures.memory call) ∙ sym c.may_set.ensures
    ∙ c.if-not-may_set.true in
    (λ _. (refl, ap (of layout) (search rules)), λ may. absurd (true≢false (sym may ∙ refused)))

pub new-mapper-requires : goal.new-mapper-requires
new-mapper-requires g c = c.requires.valid

pub may_set-requires-clause-valid : goal.may_set-requires-clause-valid
may_set-requires-clause-valid g c = valid_over _ _ _ _ c.new-mapper.ensures.layout c.new-mapper.ensures.memory c.requires.valid

pub set_table_flags-set-requires-clause-may : goal.set_table_flags-set-requires-clause-may
set_table_flags-set-requires-clause-may g c = record {
  valid = valid_over _ _ _ _ c.new-mapper.ensures.layout c.new-mapper.ensures.memory c.requires.valid;
  allowed = sym c.may_set.ensures ∙ c.if-not-may_set.false;
}
