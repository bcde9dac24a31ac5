use Rattle.std.proofs.Common.{◌≡◌, length, get_or, sym, ap, ◌∙◌, arith, ne_eqb}
use Rattle.std.proofs.lemmas.List.{get_or_read}
use Rattle.std.proofs.lemmas.List.Sums.{prefix_len_is}
use Rattle.x86_64_mappings.specs.private.Runs.{page_bits, has_page_bits}
use Rattle.x86_64_mappings.proofs.summaries.regions.runs.run_length.Goals as goal

pub returns-then-page_bits-first : goal.returns-then-page_bits-first
returns-then-page_bits-first c =
    let words = c.args.entries.now in
    let n = c.loop-count.count in
    let here : c.page_bits.result ≡ page_bits (get_or words n 0) =
    c.page_bits.ensures ∙ ap page_bits (get_or_read words n _ c.loop-count-test.true c.index-entries-count.is 0) in
    let first : c.page_bits-first.result ≡ page_bits (get_or words 0 0) =
    c.page_bits-first.ensures ∙ ap page_bits (get_or_read words 0 _ c.requires c.index-entries-0.is 0) in
    sym (prefix_len_is (has_page_bits (get_or words 0 0)) words n 0 (omega (arith, c.loop-count-test.true)) c.loop-count.invariant
    (λ less. ne_eqb _ _ (λ same. c.if-page_bits-first.true (here ∙ same ∙ sym first))))

pub returns : goal.returns
returns c =
    let words = c.args.entries.now in
    sym (prefix_len_is (has_page_bits (get_or words 0 0)) words (length words) 0 (omega arith)
    (λ k less. c.loop-count.invariant k (omega (arith, less, c.loop-count-test.false))) (λ less. absurd (omega (arith, less))))
