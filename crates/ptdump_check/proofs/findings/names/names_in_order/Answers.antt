use Rattle.std.proofs.Common.{rules, ◌∙◌, ◌++◌, [], ℕ, ap, get_or, sym, take}
use Rattle.std.proofs.lemmas.List.{flat_map_more, take_all, take_more}
use Rattle.std.proofs.lemmas.List.Sorted.{answers_always}
use Rattle.std.specs.List.{flat_map}
use Rattle.x86_64_model.specs.Memory.{identity_places, words_of}
use Rattle.ptdump_check.specs.Findings.{names_in, names_in_order}
use Rattle.ptdump_check.specs.InOrder.{in_order}
use Rattle.ptdump_check.specs.declared.findings.names.Name.{Name}
use Rattle.ptdump_check.proofs.InOrder.{sorted_in_order}
use Rattle.ptdump_check.proofs.findings.names.names_in_order.Goals as goal

pub loop-frame-preserved : goal.loop-frame-preserved
loop-frame-preserved c =
    let names = names_in (words_of c.args.memory.now identity_places) in
    let i = c.loop-frame.frame-index in
    let frames = c.deref-frame-items.result.now in
    let frame = c.frame-item.result in
    c.in_ok-add_names.ensures ∙ (λ k. c.loop-frame.invariant k ++ names (c.frame-item.is k))
    ∙ flat_map_more names [] (take i frames) (get_or frames i frame)
    ∙ ap (flat_map names) (sym (take_more frames i frame c.loop-frame-test.true))

pub returns : goal.returns
unfolding names_in_order
returns c =
    let by : Name → ℕ = λ name. name.frame in
    let T = words_of c.args.memory.now identity_places in
    sorted_in_order by c.loop-frame.names.items c.sort_by_key.new.self.items
    (c.in_ok-sort_by_key.ensures.sorted by (answers_always _ _ _ (λ f a r g h. search rules)))
    (c.in_ok-sort_by_key.ensures.stable by (answers_always _ _ _ (λ f a r g h. search rules)))
    ∙ ap (in_order by) (c.loop-frame.invariant
    ∙ ap (flat_map (names_in T)) (take_all c.loop-frame.frame-index c.deref-frame-items.result.now c.loop-frame-test.false
    ∙ c.deref-frame-items.ensures.value ∙ c.in_ok-frames.ensures))
