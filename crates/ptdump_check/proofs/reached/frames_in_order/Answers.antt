use Rattle.std.proofs.Common.{◌∙◌, ◌==◌, ◌&&◌, ◌++◌, ◌∷◌, [], ℕ, true, map, take, ap, sym}
use Rattle.std.proofs.Math.Bool.{and-true}
use Rattle.std.proofs.lemmas.List.{map_more, take_all}
use Rattle.std.proofs.lemmas.List.Filters.{dedup_is}
use Rattle.std.specs.List.{dedup}
use Rattle.ptdump_check.specs.declared.findings.entry.Table.{Table}
use Rattle.ptdump_check.proofs.reached.frames_in_order.Goals as goal

pub returns : goal.returns
returns c =
    dedup_is (λ f g. (f == g) && true) c.loop-table.frames.items c.dedup.new.self.items c.dedup.ensures.filtered
    ∙ (λ i. dedup (λ f g. and-true (f == g) i) c.loop-table.frames.items)
    ∙ ap (dedup (λ f g. f == g)) (c.loop-table.invariant ∙ ap (map (λ t. t.frame)) (take_all c.loop-table.table-index c.args.tables.now c.loop-table-test.false))

pub loop-table-preserved : goal.loop-table-preserved
loop-table-preserved c =
    let i = c.loop-table.table-index in
    let tables = c.args.tables.now in
    let table = c.table-item.result in
    let frame : Table → ℕ = λ t. t.frame in
    c.in_ok-push.ensures.items
    ∙ ap (λ frames. frames ++ frame table ∷ []) c.loop-table.invariant
    ∙ ap (λ t. map frame (take i tables) ++ frame t ∷ []) c.table-item.is
    ∙ sym (map_more frame tables i table c.loop-table-test.true)
