use Rattle.std.proofs.Common.{◌≡◌, ◌<◌, ◌+◌, [], length, get_or, Some, refl, sym, ap, ◌∙◌, subst, arith, eqb-true}
use Rattle.std.proofs.lemmas.List.{get_or_read, take_all}
use Rattle.x86_64_mappings.specs.Summaries.{summary_of}
use Rattle.x86_64_mappings.specs.Wanted.{asked_of, asked_mappings}
use Rattle.x86_64_mappings.specs.private.Known.{asking}
use Rattle.x86_64_mappings.specs.private.Targets.{asked_by, asked_on}
use Rattle.x86_64_mappings.proofs.Summed.{of_none, sum_more}
use Rattle.x86_64_mappings.proofs.Tables.{asked_none, asked_table, asked_here, none_copied}
use Rattle.x86_64_mappings.proofs.summaries.table_summaries.table_summary.Goals as goal
use Rattle.x86_64_model.specs.Mappings.{every_right}

pub returns-in_default : goal.returns-in_default
returns-in_default g c =
    let asked = asked_of g.T.TableMemory.tables g.P.PageTableFrameMapping.places (asking c.args.query.now) in
    let level = length c.args.below.now + 1 in
    of_none (asked_mappings asked level c.args.frame) (asked_none asked level c.args.frame (sym c.table.ensures ∙ none_copied c.table.result c.in_default.not-Some))

pub returns-then-is_empty : goal.returns-then-is_empty
returns-then-is_empty g c =
    let asked = asked_of g.T.TableMemory.tables g.P.PageTableFrameMapping.places (asking c.args.query.now) in
    let words = c.as_slice-entries.result.now in
    let there : asked.words c.args.frame ≡ Some words = sym c.in-Some.ensures ∙ ap Some (sym c.as_slice-entries.ensures.words) in
    let size : length words ≡ 512 = ap length c.as_slice-entries.ensures.words ∙ c.as_slice-entries.ensures.size in
    let level = length c.args.below.now + 1 in
    let lowest : 1 ≡ level = ap (λ n. n + 1) (sym (eqb-true _ _ (sym c.is_empty.ensures ∙ c.if-is_empty.true))) in
    c.small_pages_summary.ensures
    ∙ ap summary_of (ap (λ level. asked_on asked level 0 every_right words) lowest
    ∙ sym (asked_table asked level 0 every_right c.args.frame words (omega arith) there size)
    ∙ asked_here asked level c.args.frame)

pub loop-entry-init : goal.loop-entry-init
loop-entry-init g c = of_none [] refl

pub loop-entry-preserved : goal.loop-entry-preserved
loop-entry-preserved g c =
    let asked = asked_of g.T.TableMemory.tables g.P.PageTableFrameMapping.places (asking c.args.query.now) in
    let level = length c.args.below.now + 1 in
    let words = c.as_slice-entries.result.now in
    let i = c.loop-entry.entry-index in
    let less : i < length words = c.loop-entry-test.true in
    let entry : c.entry-item.result ≡ get_or words i 0 = get_or_read words i c.entry-item.result less c.entry-item.is 0 in
    let part = c.in_ok-entry_summary.field-0 in
    c.in_ok-sum.ensures
    ∙ sum_more asked level i words c.loop-entry.sum part less c.loop-entry.invariant
    (λ start. subst (λ e. part ≡ summary_of (asked_by asked level start every_right e)) entry (c.in_ok-entry_summary.ensures start))

pub returns : goal.returns
returns g c =
    let asked = asked_of g.T.TableMemory.tables g.P.PageTableFrameMapping.places (asking c.args.query.now) in
    let level = length c.args.below.now + 1 in
    let words = c.as_slice-entries.result.now in
    let there : asked.words c.args.frame ≡ Some words = sym c.in-Some.ensures ∙ ap Some (sym c.as_slice-entries.ensures.words) in
    let size : length words ≡ 512 = ap length c.as_slice-entries.ensures.words ∙ c.as_slice-entries.ensures.size in
    c.loop-entry.invariant
    ∙ ap summary_of (ap (asked_on asked level 0 every_right) (take_all c.loop-entry.entry-index words c.loop-entry-test.false)
    ∙ sym (asked_table asked level 0 every_right c.args.frame words (omega arith) there size)
    ∙ asked_here asked level c.args.frame)
