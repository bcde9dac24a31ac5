use Rattle.std.proofs.Common.{rules, ◌≡◌, ◌∙◌, ◌<◌, ◌++◌, ℕ, [], get_or, length, take, None, sym, ap}
use Rattle.std.proofs.lemmas.List.{get_or-map, get_or_read, take_all}
use Rattle.std.specs.List.{cons_option, filter_map}
use Rattle.ptdump_check.specs.ReachedTables.{reached_at}
use Rattle.ptdump_check.proofs.Found.{filter_more}
use Rattle.ptdump_check.proofs.reached.findings_at.Goals as goal

pub loop-i-preserved : goal.loop-i-preserved
loop-i-preserved c = λ w m ws ms.
    let i = c.loop-i.i in
    let frames = c.args.frames.now in
    let less : i < length frames = c.loop-i-test.true in
    let f : ℕ = get_or frames i 0 in
    let frame : c.index-frames-i.result ≡ f = get_or_read frames i c.index-frames-i.result less c.index-frames-i.is 0 in
    let written : get_or c.args.writable.now i None ≡ w f = ap (λ os. get_or os i None) ws ∙ get_or-map w frames i 0 None less in
    let there : get_or c.args.mapped.now i None ≡ m f = ap (λ os. get_or os i None) ms ∙ get_or-map m frames i 0 None less in
    let finding : c.of_reached-finding.result ≡ reached_at c.index-frames-i.result (get_or c.args.writable.now i None) (get_or c.args.mapped.now i None) = search rules in
    let is : c.of_reached-finding.result ≡ reached_at f (w f) (m f) = finding ∙ (λ k. reached_at (frame k) (written k) (there k)) in
    c.in_ok-add_finding.ensures
    ∙ ap (λ fs. fs ++ cons_option c.of_reached-finding.result []) (c.loop-i.invariant w m ws ms)
    ∙ ap (λ o. filter_map (λ f. reached_at f (w f) (m f)) (take i frames) ++ cons_option o []) is
    ∙ sym (filter_more (λ f. reached_at f (w f) (m f)) frames i 0 less)

pub returns : goal.returns
returns c = λ w m ws ms.
    c.loop-i.invariant w m ws ms ∙ ap (filter_map (λ f. reached_at f (w f) (m f))) (take_all c.loop-i.i c.args.frames.now c.loop-i-test.false)
