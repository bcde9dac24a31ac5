use Rattle.std.proofs.Common.{◌≡◌, sym, ap, ◌∙◌, arith, slice_index}
use Rattle.x86_64_model.specs.Hierarchy.{words}
use Rattle.x86_64_tables.specs.PageTableEntry.{frame_of}
use Rattle.x86_64_mappers.proofs.CleanUp.NamedEntries.{entry_named, none_more}
use Rattle.x86_64_mappers.proofs.walk.clean_up.next_named.Goals as goal

pub loop-index-init : goal.loop-index-init
loop-index-init g c = λ i low high. absurd (omega (arith, low, high))

pub loop-index-preserved : goal.loop-index-preserved
loop-index-preserved g c =
    let T = words (g.M.Tables.hierarchy c.args.mapper.now) in
    let i = c.loop-index.index in
    let at : c.index.result.now ≡ slice_index c.table-table.result.now i = c.index.ensures.0 ∙ ap (slice_index c.table-table.result.now) c.from.ensures in
    none_more T c.args.frame c.args.from i c.loop-index.invariant
    (entry_named T c.args.frame i c.table-table.result.now c.table-table.ensures (omega (arith, c.loop-index-test.true, c.requires.last)) c.frame.result (c.frame.ensures ∙ ap frame_of at)
    ∙ sym c.is_ok.ensures.value ∙ c.if-is_ok.false)

pub returns-then-is_ok-clause-passed : goal.returns-then-is_ok-clause-passed
returns-then-is_ok-clause-passed g c = c.loop-index.invariant

pub returns-then-is_ok-clause-named : goal.returns-then-is_ok-clause-named
returns-then-is_ok-clause-named g c =
    let T = words (g.M.Tables.hierarchy c.args.mapper.now) in
    let i = c.loop-index.index in
    let at : c.index.result.now ≡ slice_index c.table-table.result.now i = c.index.ensures.0 ∙ ap (slice_index c.table-table.result.now) c.from.ensures in
    λ below. entry_named T c.args.frame i c.table-table.result.now c.table-table.ensures (omega (arith, below, c.requires.last)) c.frame.result (c.frame.ensures ∙ ap frame_of at)
    ∙ sym c.is_ok.ensures.value ∙ c.if-is_ok.true
