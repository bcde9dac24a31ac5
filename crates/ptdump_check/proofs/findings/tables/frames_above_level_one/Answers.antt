use Rattle.std.proofs.Common.{◌≡◌, ◌∙◌, ◌++◌, ◌∷◌, ◌==◌, ◌&&◌, [], Bool, append-nil, cond, false, true, filter, map, nat_lt, ap, sym, take, ℕ}
use Rattle.std.proofs.Math.Bool.{and-true}
use Rattle.std.proofs.lemmas.Bool.{le-ltb, lt-ltb}
use Rattle.std.proofs.lemmas.List.{map-append, take_all}
use Rattle.std.proofs.lemmas.List.Elements.{filter_more}
use Rattle.std.proofs.lemmas.List.Filters.{dedup_is}
use Rattle.std.specs.List.{dedup}
use Rattle.ptdump_check.specs.declared.findings.entry.Table.{Table}
use Rattle.ptdump_check.proofs.findings.tables.frames_above_level_one.Goals as goal
use Rattle.ptdump_check.proofs.findings.tables.frames_above_level_one.Goals.{else-table-gt1, then-table-gt1+in_ok-push}

pub loop-table-preserved : goal.loop-table-preserved
loop-table-preserved c =
    let tables = c.args.tables.now in
    let i = c.loop-table.table-index in
    let table = c.table-item.result in
    let is_above : Table → Bool = λ table. nat_lt 1 table.level in
    let frame : Table → ℕ = λ table. table.frame in
    let above = filter is_above (take i tables) in
    let more = (λ k. map frame (above ++ cond (is_above (c.table-item.is k)) (c.table-item.is k ∷ []) []))
    ∙ ap (map frame) (sym (filter_more is_above tables i table c.loop-table-test.true)) in
    elim c.if-table-gt1.branch [
      | then-table-gt1+in_ok-push w ↦
          let is : is_above table ≡ true = lt-ltb 1 table.level w.if-table-gt1.true in
          (λ k. (w.frames-is k).items) ∙ w.in_ok-push.ensures.items ∙ ap (λ fs. fs ++ frame table ∷ []) c.loop-table.invariant
          ∙ sym (map-append frame above (table ∷ [])) ∙ (λ k. map frame (above ++ cond (sym is k) (table ∷ []) [])) ∙ more
      | else-table-gt1 w ↦
          let is : is_above table ≡ false = le-ltb 1 table.level w.if-table-gt1.false in
          (λ k. (w.frames-is k).items) ∙ c.loop-table.invariant
          ∙ ap (map frame) (sym (append-nil above)) ∙ (λ k. map frame (above ++ cond (sym is k) (table ∷ []) [])) ∙ more
    ]

pub returns : goal.returns
returns c =
    dedup_is (λ f g. (f == g) && true) c.loop-table.frames.items c.dedup.new.self.items c.dedup.ensures.filtered
    ∙ (λ i. dedup (λ f g. and-true (f == g) i) c.loop-table.frames.items)
    ∙ ap (dedup (λ f g. f == g)) (c.loop-table.invariant ∙ ap (λ ts. map (λ t. t.frame) (filter (λ t. nat_lt 1 t.level) ts)) (take_all c.loop-table.table-index c.args.tables.now c.loop-table-test.false))
