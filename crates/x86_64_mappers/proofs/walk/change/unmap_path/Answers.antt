use Rattle.std.proofs.Common.{◌≡◌, ◌-◌, rules, length, get_or, sym, subst}
use Rattle.std.proofs.lemmas.Result.{err_from_is_err_and}
use Rattle.x86_64_model.specs.Hierarchy.{◌laid_in◌, words}
use Rattle.x86_64_model.specs.private.MapperCalls.{after_unmap}
use Rattle.x86_64_model.specs.Memory.{word}
use Rattle.x86_64_model.specs.Refusal.{Refused}
use Rattle.x86_64_tables.specs.MapperAnswers.{frame_answer}
use Rattle.x86_64_mappers.proofs.Entry.EntryRules.{Ends, stopped, ended}
use Rattle.x86_64_mappers.specs.private.EntryCalls.{word_said, answer_said}
use Rattle.x86_64_mappers.proofs.Entry.PageCallRules.{unmap_rule, unmap_changes, unmap_outside}
use Rattle.x86_64_mappers.specs.private.PageCalls.{unmap_says}
use Rattle.x86_64_mappers.specs.private.Results.{walk_refusal}
use Rattle.x86_64_mappers.specs.private.Writes.{IsSet}
use Rattle.x86_64_mappers.proofs.Way.Paths.{has_last_index, some_index_of, page_below_root, positive_levels}
use Rattle.x86_64_mappers.proofs.Entry.EntryEnds.{ends_unmap}
use Rattle.x86_64_mappers.proofs.walk.change.unmap_path.Given.{Over}
use Rattle.x86_64_mappers.proofs.walk.change.unmap_path.Goals as goal

ends_stopped : (g : Over) (c : goal.After-from_residual g) → let l = (g.M.Tables.hierarchy c.args.mapper.now).layout in let m = (g.M.Tables.hierarchy c.args.mapper.now).memory in
    Ends l m (after_unmap l m c.args.path.now) (frame_answer c.from_residual.result) (g.M.Tables.hierarchy c.change_entry.new.mapper).memory
ends_stopped g c =
    let l = (g.M.Tables.hierarchy c.args.mapper.now).layout in
    let m = (g.M.Tables.hierarchy c.args.mapper.now).memory in
    let q = c.args.path.now in
    let level = g.S.PageSize.LEVEL in
    let why = walk_refusal c.in_err-change_entry.field-0.0 in
    let changed = c.in_err-change_entry.ensures.changed in
    let size = has_last_index q (some_index_of l.levels q level c.requires.levels (page_below_root l.levels level (g.met.M.Tables.at_least_four c.args.mapper.now) g.S.PageSize.high)) in
    let e = err_from_is_err_and c.from_residual.result c.from_residual.ensures.1 in
    rw (e.1, e.2) (subst (Ends l m (after_unmap l m q) (Refused why)) (sym changed.1)
    (stopped l m c.requires.may.valid q (length q - 1) size (unmap_says level) _ (unmap_rule l m level q c.requires.levels) why changed.0))

pub returns-in_err-change_entry : goal.returns-in_err-change_entry
returns-in_err-change_entry g c =
    let kept = c.change_entry.ensures in
    ends_unmap (g.M.Tables.hierarchy c.args.mapper.now) (g.M.Tables.hierarchy c.change_entry.new.mapper) kept.layout kept.lent c.args.path.now _ (ends_stopped g c)

ends : (g : Over) (c : goal.In_ok-change_entry g) → let l = (g.M.Tables.hierarchy c.args.mapper.now).layout in let m = (g.M.Tables.hierarchy c.args.mapper.now).memory in
    Ends l m (after_unmap l m c.args.path.now) (frame_answer c.in_ok-change_entry.field-0) (g.M.Tables.hierarchy c.change_entry.new.mapper).memory
ends g c =
    let s = c.args.mapper.now in
    let l = (g.M.Tables.hierarchy s).layout in
    let m = (g.M.Tables.hierarchy s).memory in
    let q = c.args.path.now in
    let level = g.S.PageSize.LEVEL in
    let changed = c.in_ok-change_entry.ensures.changed in
    let e = word (words (l laid_in m)) changed.frame (get_or q (length q - 1) 0) in
    let called = changed.called in
    let answer : frame_answer c.in_ok-change_entry.field-0 ≡ answer_said (unmap_says level e) = search rules in
    let wrote : changed.word ≡ word_said e (unmap_says level e) = search rules in
    let n = (g.M.Tables.hierarchy c.change_entry.new.mapper).memory in
    let some = some_index_of l.levels q level c.requires.levels (page_below_root l.levels level (g.met.M.Tables.at_least_four s) g.S.PageSize.high) in
    subst (λ a. Ends l m (after_unmap l m q) a n) (sym answer)
    (ended l m c.requires.may.valid q (length q - 1) (has_last_index q some) (unmap_says level) _ (unmap_rule l m level q c.requires.levels) changed.frame changed.found
    (g.met.M.Tables.is_mapping s).distinct (positive_levels l.levels (g.met.M.Tables.at_least_four s)) changed.inside
    (unmap_changes l m level q c.requires.levels (unmap_outside l.window q c.requires.may.allowed) g.S.PageSize.high some) n
    (subst (λ w. IsSet l.places m changed.frame (get_or q (length q - 1) 0) w n) wrote changed.set))

pub returns : goal.returns
returns g c =
    let kept = c.change_entry.ensures in
    ends_unmap (g.M.Tables.hierarchy c.args.mapper.now) (g.M.Tables.hierarchy c.change_entry.new.mapper) kept.layout kept.lent c.args.path.now _ (ends g c)
