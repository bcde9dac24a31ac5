use Rattle.std.proofs.Common.{◌≡◌, ◌-◌, ℕ, rules, length, get_or, refl, sym, subst}
use Rattle.std.proofs.lemmas.Result.{err_from_is_err_and}
use Rattle.x86_64_model.specs.Hierarchy.{◌laid_in◌, words}
use Rattle.x86_64_model.specs.private.MapperCalls.{after_update}
use Rattle.x86_64_model.specs.Memory.{word}
use Rattle.x86_64_model.specs.Refusal.{Refused, refusal_of}
use Rattle.x86_64_tables.specs.MapperAnswers.{flags_refusal}
use Rattle.x86_64_mappers.proofs.Entry.EntryRules.{Ends, stopped, ended}
use Rattle.x86_64_mappers.specs.private.EntryCalls.{word_said, answer_said}
use Rattle.x86_64_mappers.proofs.Entry.PageCallRules.{update_rule, update_changes, update_outside}
use Rattle.x86_64_mappers.specs.private.PageCalls.{update_says}
use Rattle.x86_64_mappers.specs.private.Results.{walk_refusal}
use Rattle.x86_64_mappers.specs.private.Writes.{IsSet}
use Rattle.x86_64_mappers.proofs.Way.Paths.{has_last_index, some_index_of, page_below_root, positive_levels}
use Rattle.x86_64_mappers.proofs.Entry.EntryEnds.{ends_update}
use Rattle.x86_64_mappers.proofs.walk.change.update_path.Given.{Over}
use Rattle.x86_64_mappers.proofs.walk.change.update_path.Goals as goal

ends_stopped : (g : Over) (c : goal.After-from_residual g) → let l = (g.M.Tables.hierarchy c.args.mapper.now).layout in let m = (g.M.Tables.hierarchy c.args.mapper.now).memory in
    Ends l m (after_update l m c.args.path.now c.args.flags.0) (Refused (walk_refusal c.in_err-change_entry.field-0.0)) (g.M.Tables.hierarchy c.change_entry.new.mapper).memory
ends_stopped g c =
    let l = (g.M.Tables.hierarchy c.args.mapper.now).layout in
    let m = (g.M.Tables.hierarchy c.args.mapper.now).memory in
    let q = c.args.path.now in
    let level = g.S.PageSize.LEVEL in
    let given = c.args.flags.0 in
    let why = walk_refusal c.in_err-change_entry.field-0.0 in
    let changed = c.in_err-change_entry.ensures.changed in
    let size = has_last_index q (some_index_of l.levels q level c.requires.levels (page_below_root l.levels level (g.met.M.Tables.at_least_four c.args.mapper.now) g.S.PageSize.high)) in
    (subst (Ends l m (after_update l m q given) (Refused why)) (sym changed.1)
    (stopped l m c.requires.may.valid q (length q - 1) size (update_says level given) _ (update_rule l m level q c.requires.levels given) why changed.0))

pub returns-in_err-change_entry : goal.returns-in_err-change_entry
returns-in_err-change_entry g c =
    let kept = c.change_entry.ensures in
    let e = err_from_is_err_and c.from_residual.result c.from_residual.ensures.1 in
    ends_update (g.M.Tables.hierarchy c.args.mapper.now) (g.M.Tables.hierarchy c.change_entry.new.mapper) kept.layout kept.lent c.args.path.now c.args.flags.0
    (flags_refusal c.from_residual.result) _ (rw (e.1, e.2) refl) (ends_stopped g c)

-- the word that was found
entry : (g : Over) → goal.In_ok-change_entry g → ℕ
entry g c =
    let l = (g.M.Tables.hierarchy c.args.mapper.now).layout in
    word (words (l laid_in (g.M.Tables.hierarchy c.args.mapper.now).memory)) c.in_ok-change_entry.ensures.changed.frame (get_or c.args.path.now (length c.args.path.now - 1) 0)

answer : (g : Over) (c : goal.In_ok-change_entry g) → flags_refusal c.in_ok-change_entry.field-0 ≡ refusal_of (answer_said (update_says g.S.PageSize.LEVEL c.args.flags.0 (entry g c)))
unfolding entry
answer g c = let called = c.in_ok-change_entry.ensures.changed.called in search rules

ends : (g : Over) (c : goal.In_ok-change_entry g) → let l = (g.M.Tables.hierarchy c.args.mapper.now).layout in let m = (g.M.Tables.hierarchy c.args.mapper.now).memory in let given = c.args.flags.0 in
    Ends l m (after_update l m c.args.path.now given) (answer_said (update_says g.S.PageSize.LEVEL given (entry g c))) (g.M.Tables.hierarchy c.change_entry.new.mapper).memory
unfolding entry
ends g c =
    let s = c.args.mapper.now in
    let l = (g.M.Tables.hierarchy s).layout in
    let m = (g.M.Tables.hierarchy s).memory in
    let q = c.args.path.now in
    let level = g.S.PageSize.LEVEL in
    let given = c.args.flags.0 in
    let changed = c.in_ok-change_entry.ensures.changed in
    let e = word (words (l laid_in m)) changed.frame (get_or q (length q - 1) 0) in
    let called = changed.called in
    let wrote : changed.word ≡ word_said e (update_says level given e) = search rules in
    let n = (g.M.Tables.hierarchy c.change_entry.new.mapper).memory in
    let some = some_index_of l.levels q level c.requires.levels (page_below_root l.levels level (g.met.M.Tables.at_least_four s) g.S.PageSize.high) in
    ended l m c.requires.may.valid q (length q - 1) (has_last_index q some) (update_says level given) _ (update_rule l m level q c.requires.levels given) changed.frame changed.found
    (g.met.M.Tables.is_mapping s).distinct (positive_levels l.levels (g.met.M.Tables.at_least_four s)) changed.inside
    (update_changes l m level q c.requires.levels (update_outside l.window q given c.requires.may.allowed) g.S.PageSize.high some given) n
    (subst (λ w. IsSet l.places m changed.frame (get_or q (length q - 1) 0) w n) wrote changed.set)

pub returns : goal.returns
returns g c =
    let kept = c.change_entry.ensures in
    ends_update (g.M.Tables.hierarchy c.args.mapper.now) (g.M.Tables.hierarchy c.change_entry.new.mapper) kept.layout kept.lent c.args.path.now c.args.flags.0
    (flags_refusal c.in_ok-change_entry.field-0) _ (answer g c) (ends g c)
