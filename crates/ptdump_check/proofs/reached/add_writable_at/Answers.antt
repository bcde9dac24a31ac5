use Rattle.std.proofs.Common.{rules, ◌≡◌, ◌∙◌, ◌<◌, ◌++◌, ℕ, [], get_or, length, take, None, sym, ap, append_assoc}
use Rattle.std.proofs.lemmas.List.{get_or-map, get_or_read}
use Rattle.std.specs.List.{cons_option, filter_map}
use Rattle.ptdump_check.specs.WritableTables.{writable_at}
use Rattle.ptdump_check.proofs.Found.{filter_more}
use Rattle.ptdump_check.proofs.reached.add_writable_at.Goals as goal

pub loop-i-preserved : goal.loop-i-preserved
loop-i-preserved c = λ at are.
    let i = c.loop-i.i in
    let frames = c.args.frames.now in
    let old = c.args.findings.now.items in
    let less : i < length frames = c.loop-i-test.true in
    let f : ℕ = get_or frames i 0 in
    let so_far = filter_map (λ f. writable_at f (at f)) (take i frames) in
    let frame : c.index-frames-i.result ≡ f = get_or_read frames i c.index-frames-i.result less c.index-frames-i.is 0 in
    let there : get_or c.args.addresses.now i None ≡ at f = ap (λ os. get_or os i None) are ∙ get_or-map at frames i 0 None less in
    let finding : c.of_writable.result ≡ writable_at c.index-frames-i.result (get_or c.args.addresses.now i None) = search rules in
    let is : c.of_writable.result ≡ writable_at f (at f) = finding ∙ (λ k. writable_at (frame k) (there k)) in
    c.in_ok-add_finding.ensures
    ∙ ap (λ fs. fs ++ cons_option c.of_writable.result []) (c.loop-i.invariant at are)
    ∙ ap (λ o. (old ++ so_far) ++ cons_option o []) is
    ∙ append_assoc old so_far (cons_option (writable_at f (at f)) [])
    ∙ ap (λ fs. old ++ fs) (sym (filter_more (λ f. writable_at f (at f)) frames i 0 less))
