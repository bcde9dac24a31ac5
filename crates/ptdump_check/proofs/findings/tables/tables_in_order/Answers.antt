use Rattle.std.proofs.Common.{rules, ◌∙◌, ap}
use Rattle.std.proofs.lemmas.List.Sorted.{answers_always}
use Rattle.ptdump_check.specs.Findings.{tables_by_address}
use Rattle.ptdump_check.specs.InOrder.{in_order}
use Rattle.ptdump_check.proofs.InOrder.{sorted_in_order}
use Rattle.ptdump_check.proofs.findings.tables.tables_in_order.Goals as goal

pub returns : goal.returns
unfolding tables_by_address
returns c =
    sorted_in_order (λ table. table.frame) c.in_ok-tables.tables.items c.sort_by_key.new.self.items
    (c.in_ok-sort_by_key.ensures.sorted (λ table. table.frame) (answers_always _ _ _ (λ f a r g h. search rules)))
    (c.in_ok-sort_by_key.ensures.stable (λ table. table.frame) (answers_always _ _ _ (λ f a r g h. search rules)))
    ∙ ap (in_order (λ table. table.frame)) c.in_ok-tables.ensures
