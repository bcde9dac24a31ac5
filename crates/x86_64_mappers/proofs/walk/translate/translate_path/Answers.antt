use Rattle.std.proofs.Common.{◌≡◌, ◌-◌, Result, Ok, Err, ℕ, length, refl, sym, ap, ◌∙◌}
use Rattle.std.proofs.lemmas.Result.{err_from_is_err_and}
use Rattle.x86_64_model.specs.Hierarchy.{◌laid_in◌, words}
use Rattle.x86_64_model.specs.Memory.{word}
use Rattle.x86_64_tables.specs.MapperAnswers.{translate_answer}
use Rattle.x86_64_tables.specs.declared.errors.TranslateError.{TranslateError}
use Rattle.x86_64_mappers.specs.private.LeafFrames.{named_frame}
use Rattle.x86_64_mappers.proofs.Entry.PageCallRules.{translate_stopped, translate_told}
use Rattle.x86_64_mappers.proofs.Entry.PageCallRules.{answer_of}
use Rattle.x86_64_mappers.specs.private.Results.{walk_refusal, translation_answer}
use Rattle.x86_64_mappers.proofs.Way.Paths.{has_last_index, last_item, some_index_of, page_below_root}
use Rattle.x86_64_mappers.proofs.walk.translate.translate_path.Goals as goal

same_answer : (r : Result ℕ TranslateError) → translate_answer r ≡ answer_of (translation_answer r)
same_answer (Ok frame) = refl
same_answer (Err why) = refl

pub returns-in_err-table : goal.returns-in_err-table
returns-in_err-table g c =
    let l = (g.M.Tables.hierarchy c.args.mapper.now).layout in
    let m = (g.M.Tables.hierarchy c.args.mapper.now).memory in
    let q = c.args.path.now in
    let level = g.S.PageSize.LEVEL in
    let size = has_last_index q (some_index_of l.levels q level c.requires.levels (page_below_root l.levels level (g.met.M.Tables.at_least_four c.args.mapper.now) g.S.PageSize.high)) in
    let e = err_from_is_err_and c.from_residual.result c.from_residual.ensures.1 in
    rw (e.1, e.2) (sym (translate_stopped l m level q c.requires.levels (length q - 1) size (walk_refusal c.in_err-table.field-0.0) c.in_err-table.ensures.found))

pub returns : goal.returns
returns g c =
    let l = (g.M.Tables.hierarchy c.args.mapper.now).layout in
    let m = (g.M.Tables.hierarchy c.args.mapper.now).memory in
    let q = c.args.path.now in
    let level = g.S.PageSize.LEVEL in
    let size = has_last_index q (some_index_of l.levels q level c.requires.levels (page_below_root l.levels level (g.met.M.Tables.at_least_four c.args.mapper.now) g.S.PageSize.high)) in
    let table = c.in_ok-table.table in
    let read = c.entry.ensures.value ∙ ap (word (words (l laid_in m)) table) (last_item q c.index-path-last.result size c.index-path-last.is) in
    same_answer c.named_frame.result
    ∙ sym (translate_told l m level q c.requires.levels (length q - 1) size table c.in_ok-table.ensures.found (translation_answer c.named_frame.result) (c.named_frame.ensures ∙ ap (named_frame level) read))
