use Rattle.std.proofs.Common.{◌-◌, ◌∙◌, ◌%◌, ap, sym, subst, Some, Err, length, arith}
use Rattle.x86_64_model.specs.Entry.{flags}
use Rattle.x86_64_model.specs.Hierarchy.{◌laid_in◌, words}
use Rattle.x86_64_model.specs.Memory.{word}
use Rattle.x86_64_model.specs.PageWalk.{page_start}
use Rattle.x86_64_model.specs.Position.{span, index}
use Rattle.x86_64_model.specs.Translation.{Mapped}
use Rattle.x86_64_mappers.proofs.Way.Paths.{positive_levels}
use Rattle.x86_64_mappers.proofs.Translate.WalkedPart.{IsSoughtAt, sought_first, sought_next, found_absent, found_low, found_large, found_unused, found_small}
use Rattle.x86_64_mappers.proofs.walk.translate.translate_along.Goals as goal

pub overflow_sub-last : goal.overflow_sub-last
overflow_sub-last g c = rw c.requires.levels (positive_levels (g.M.Tables.hierarchy c.args.mapper.now).layout.levels (g.met.M.Tables.at_least_four c.args.mapper.now))

pub loop-k-init : goal.loop-k-init
loop-k-init g c =
    let l = (g.M.Tables.hierarchy c.args.mapper.now).layout in
    let m = (g.M.Tables.hierarchy c.args.mapper.now).memory in
    subst (IsSoughtAt l m c.args.indices.now c.args.addr 0) (sym c.root-table.ensures) (sought_first l m c.args.indices.now c.args.addr c.requires.valid)

pub loop-k-preserved : goal.loop-k-preserved
loop-k-preserved g c =
    let l = (g.M.Tables.hierarchy c.args.mapper.now).layout in
    let m = (g.M.Tables.hierarchy c.args.mapper.now).memory in
    let entry = c.entry-entry in
    sought_next l m c.args.indices.now c.args.addr c.requires.levels c.requires.path c.loop-k.k (omega (arith, c.loop-k-test.true, c.requires.levels)) c.loop-k.table c.loop-k.invariant
    (omega (arith, c.loop-k-test.true, c.requires.levels)) c.table_index-index.result (c.table_index-index.ensures ∙ ap (λ n. index (n - c.loop-k.k) c.args.addr) c.requires.levels) entry.ensures.index entry.result.now entry.ensures.value c.in-Ok.next (sym c.in-Ok.is ∙ c.frame.ensures)

pub returns-in-Err-FrameNotPresent : goal.returns-in-Err-FrameNotPresent
returns-in-Err-FrameNotPresent g c =
    let l = (g.M.Tables.hierarchy c.args.mapper.now).layout in
    let m = (g.M.Tables.hierarchy c.args.mapper.now).memory in
    let read = c.table_index-index.ensures ∙ ap (λ n. index (n - c.loop-k.k) c.args.addr) c.requires.levels in
    ap Some (sym (found_absent c.loop-k.invariant.way c.entry-entry.result.now (omega (arith, c.loop-k-test.true, c.requires.levels))
    (c.entry-entry.ensures.value ∙ ap (word (words (l laid_in m)) c.loop-k.table) read)
    (sym (c.in-Err-FrameNotPresent.is ∙ ap Err c.in-Err-FrameNotPresent.field-0-is) ∙ c.frame.ensures)))

pub leaf_translation-requires-clause-high : goal.leaf_translation-requires-clause-high
leaf_translation-requires-clause-high g c =
    let l = (g.M.Tables.hierarchy c.args.mapper.now).layout in
    let m = (g.M.Tables.hierarchy c.args.mapper.now).memory in
    let read = c.table_index-index.ensures ∙ ap (λ n. index (n - c.loop-k.k) c.args.addr) c.requires.levels in
    rw c.requires.levels (found_low c.loop-k.invariant.way c.entry-entry.result.now (omega (arith, c.loop-k-test.true, c.requires.levels))
    (c.entry-entry.ensures.value ∙ ap (word (words (l laid_in m)) c.loop-k.table) read)
    (sym (c.in-Err-HugeFrame.is ∙ ap Err c.in-Err-HugeFrame.field-0-is) ∙ c.frame.ensures))

pub returns-in-Err-HugeFrame : goal.returns-in-Err-HugeFrame
returns-in-Err-HugeFrame g c =
    let l = (g.M.Tables.hierarchy c.args.mapper.now).layout in
    let m = (g.M.Tables.hierarchy c.args.mapper.now).memory in
    let e = c.entry-entry.result.now in
    let read = c.table_index-index.ensures ∙ ap (λ n. index (n - c.loop-k.k) c.args.addr) c.requires.levels in
    c.leaf_translation.ensures
    ∙ ap (λ p. Some (Mapped (span (length c.args.indices.now - c.loop-k.k)) (page_start (length c.args.indices.now - c.loop-k.k) e) (p % span (length c.args.indices.now - c.loop-k.k)) (flags e))) c.position.ensures.value
    ∙ ap Some (ap (λ n. Mapped (span (n - c.loop-k.k)) (page_start (n - c.loop-k.k) e) (c.args.addr % span (n - c.loop-k.k)) (flags e)) c.requires.levels
    ∙ sym (found_large c.loop-k.invariant.way e (omega (arith, c.loop-k-test.true, c.requires.levels))
    (c.entry-entry.ensures.value ∙ ap (word (words (l laid_in m)) c.loop-k.table) read)
    (sym (c.in-Err-HugeFrame.is ∙ ap Err c.in-Err-HugeFrame.field-0-is) ∙ c.frame.ensures)))

pub returns-then-is_unused : goal.returns-then-is_unused
returns-then-is_unused g c =
    let s = c.args.mapper.now in
    let l = (g.M.Tables.hierarchy s).layout in
    let m = (g.M.Tables.hierarchy s).memory in
    let some = positive_levels l.levels (g.met.M.Tables.at_least_four s) in
    let read = c.table_index.ensures in
    ap Some (sym (found_unused c.loop-k.invariant.way c.entry-entry-2.result.now (omega (arith, c.loop-k.auto.k-end, c.loop-k-test.false, c.requires.levels, some))
    (c.entry-entry-2.ensures.value ∙ ap (word (words (l laid_in m)) c.loop-k.table) read) (let u = c.if-is_unused.ensures in grind (arith, u))))

pub returns-else-is_unused : goal.returns-else-is_unused
returns-else-is_unused g c =
    let s = c.args.mapper.now in
    let l = (g.M.Tables.hierarchy s).layout in
    let m = (g.M.Tables.hierarchy s).memory in
    let some = positive_levels l.levels (g.met.M.Tables.at_least_four s) in
    let read = c.table_index.ensures in
    let e = c.entry-entry-2.result.now in
    c.leaf_translation-else-is_unused.ensures
    ∙ ap (λ p. Some (Mapped (span 1) (page_start 1 e) (p % span 1) (flags e))) c.position-else-is_unused.ensures.value
    ∙ ap Some (sym (found_small c.loop-k.invariant.way c.entry-entry-2.result.now (omega (arith, c.loop-k.auto.k-end, c.loop-k-test.false, c.requires.levels, some))
    (c.entry-entry-2.ensures.value ∙ ap (word (words (l laid_in m)) c.loop-k.table) read) (let u = c.if-is_unused.ensures in grind (arith, u))))
