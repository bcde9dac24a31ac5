use Rattle.std.proofs.Common.{◌≡◌, sym, ap, ◌∙◌, arith, true, false, Some, None}
use Rattle.std.proofs.lemmas.Result.{err_from_is_err_and}
use Rattle.x86_64_mappers.specs.Layouts.{direct_at}
use Rattle.x86_64_model.specs.Entry.{used}
use Rattle.x86_64_model.specs.Hierarchy.{◌laid_in◌}
use Rattle.x86_64_model.proofs.Lemmas.Hierarchies.Changes.{zero_not_used}
use Rattle.x86_64_tables.specs.MapperAnswers.{map_refusal}
use Rattle.x86_64_live.proofs.Refusals.{answers_below, refused_below}
use Rattle.x86_64_live.proofs.look.would_map.Goals as goal

pub returns-in_err-table : goal.returns-in_err-table
returns-in_err-table g c =
    let h = direct_at g.L.LevelCount.LEVELS (g.P.PageTableFrameMapping.places c.args.mapping.now) c.args.root laid_in g.T.TableMemory.tables c.args.memory.now in
    let e = err_from_is_err_and c.from_residual.result c.from_residual.ensures.1 in
    rw (e.1, e.2) (refused_below h c.requires g.S.PageSize.LEVEL c.args.page c.args.free_frames (map_refusal c.in_err-table.field-0.0) c.in_err-table.ensures.refusal c.args.frame)

pub returns-in_default : goal.returns-in_default
returns-in_default g c =
    let h = direct_at g.L.LevelCount.LEVELS (g.P.PageTableFrameMapping.places c.args.mapping.now) c.args.root laid_in g.T.TableMemory.tables c.args.memory.now in
    answers_below h c.requires g.S.PageSize.LEVEL c.args.page c.args.free_frames c.in_ok-table.ensures.refusal None (rw c.in_default.is at c.in_ok-table.ensures.table) false zero_not_used c.args.frame

pub returns-then-is_unused : goal.returns-then-is_unused
returns-then-is_unused g c =
    let h = direct_at g.L.LevelCount.LEVELS (g.P.PageTableFrameMapping.places c.args.mapping.now) c.args.root laid_in g.T.TableMemory.tables c.args.memory.now in
    let is_unused : used c.entry_of.result ≡ false = let u = c.if-is_unused.ensures in grind (arith, u) in
    answers_below h c.requires g.S.PageSize.LEVEL c.args.page c.args.free_frames c.in_ok-table.ensures.refusal (Some c.in-Some.table) (rw c.in-Some.is at c.in_ok-table.ensures.table) false
    (ap used (sym (rw c.LEVEL.ensures at c.entry_of.ensures)) ∙ is_unused) c.args.frame

pub returns-else-is_unused : goal.returns-else-is_unused
returns-else-is_unused g c =
    let h = direct_at g.L.LevelCount.LEVELS (g.P.PageTableFrameMapping.places c.args.mapping.now) c.args.root laid_in g.T.TableMemory.tables c.args.memory.now in
    let is_used : used c.entry_of.result ≡ true = let u = c.if-is_unused.ensures in grind (arith, u) in
    answers_below h c.requires g.S.PageSize.LEVEL c.args.page c.args.free_frames c.in_ok-table.ensures.refusal (Some c.in-Some.table) (rw c.in-Some.is at c.in_ok-table.ensures.table) true
    (ap used (sym (rw c.LEVEL.ensures at c.entry_of.ensures)) ∙ is_used) c.args.frame
