use Rattle.std.proofs.Common.{sym, ap, ◌∙◌, arith, bit_or, take}
use Rattle.std.proofs.Math.ListN.{length-map}
use Rattle.x86_64_model.specs.Entry.{used}
use Rattle.x86_64_model.specs.MapRule.{with_flags, with_tables}
use Rattle.test_reference.specs.Fronts.{fronts}
use Rattle.test_reference.proofs.MapCases.{map_huge, map_short, map_mapped, map_done}
use Rattle.test_reference.proofs.machine.PlainMachine.map_call.Goals as goal

pub returns-then-is_stopped : goal.returns-then-is_stopped
returns-then-is_stopped c = map_huge _ _ _ _ _ _ _ _ _ _ (c.in_ok-add_flags.ensures ∙ ap (λ ns. with_flags c.args.paths.now c.args.parent_flags (fronts c.args.page.now ns)) c.deref.ensures.value) c.in_ok-used.ensures (c.if-is_stopped.ensures)

pub returns-then-is_short : goal.returns-then-is_short
returns-then-is_short c = map_short _ _ _ _ _ _ _ _ _ (fronts c.args.page.now c.in_ok-used.used.items) (c.in_ok-add_flags.ensures ∙ ap (λ ns. with_flags c.args.paths.now c.args.parent_flags (fronts c.args.page.now ns)) c.deref.ensures.value) c.in_ok-used.ensures
    _ (fronts c.args.page.now c.in_ok-missing.missing.items) c.len-3.result _
    (c.in_ok-make_tables.ensures ∙ (λ i. with_tables c.add_flags.new.paths (bit_or c.args.parent_flags c.args.self.now.added_flags) (fronts c.args.page.now (c.deref-2.ensures.value i)) (c.deref-3.ensures.value i)))
    c.in_ok-missing.ensures (c.len-3.ensures ∙ c.in_ok-missing.missing.ok.0 ∙ sym (length-map c.in_ok-missing.missing.items (λ n. take n c.args.page.now))) c.take_frames.ensures (c.if-is_stopped.ensures)
    (omega (arith, c.if-is_short.true, c.len.ensures, c.len-2.ensures, c.len-3.ensures, c.args.pool.now.ok.0))

pub returns-then-is_mapped : goal.returns-then-is_mapped
returns-then-is_mapped c = map_mapped _ _ _ _ _ _ _ _ _ (fronts c.args.page.now c.in_ok-used.used.items) (c.in_ok-add_flags.ensures ∙ ap (λ ns. with_flags c.args.paths.now c.args.parent_flags (fronts c.args.page.now ns)) c.deref.ensures.value) c.in_ok-used.ensures
    _ (fronts c.args.page.now c.in_ok-missing.missing.items) c.len-3.result _
    (c.in_ok-make_tables.ensures ∙ (λ i. with_tables c.add_flags.new.paths (bit_or c.args.parent_flags c.args.self.now.added_flags) (fronts c.args.page.now (c.deref-2.ensures.value i)) (c.deref-3.ensures.value i)))
    c.in_ok-missing.ensures (c.len-3.ensures ∙ c.in_ok-missing.missing.ok.0 ∙ sym (length-map c.in_ok-missing.missing.items (λ n. take n c.args.page.now))) c.take_frames.ensures (c.if-is_stopped.ensures)
    (omega (arith, c.if-is_short.false, c.len.ensures, c.len-2.ensures, c.len-3.ensures, c.args.pool.now.ok.0)) (c.if-is_mapped.ensures ∙ ap used c.entry.ensures)

pub returns : goal.returns
returns c = map_done _ _ _ _ _ _ _ _ _ (fronts c.args.page.now c.in_ok-used.used.items) (c.in_ok-add_flags.ensures ∙ ap (λ ns. with_flags c.args.paths.now c.args.parent_flags (fronts c.args.page.now ns)) c.deref.ensures.value) c.in_ok-used.ensures
    _ (fronts c.args.page.now c.in_ok-missing.missing.items) c.len-3.result _
    (c.in_ok-make_tables.ensures ∙ (λ i. with_tables c.add_flags.new.paths (bit_or c.args.parent_flags c.args.self.now.added_flags) (fronts c.args.page.now (c.deref-2.ensures.value i)) (c.deref-3.ensures.value i)))
    c.in_ok-missing.ensures (c.len-3.ensures ∙ c.in_ok-missing.missing.ok.0 ∙ sym (length-map c.in_ok-missing.missing.items (λ n. take n c.args.page.now))) c.take_frames.ensures (c.if-is_stopped.ensures)
    _ _ c.in_ok-put.ensures c.leaf_entry.ensures (omega (arith, c.if-is_short.false, c.len.ensures, c.len-2.ensures, c.len-3.ensures, c.args.pool.now.ok.0)) (c.if-is_mapped.ensures ∙ ap used c.entry.ensures)
