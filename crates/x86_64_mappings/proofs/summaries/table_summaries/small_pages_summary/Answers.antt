use Rattle.std.proofs.Common.{◌≡◌, ◌<◌, ◌+◌, ◌*◌, ◌==◌, length, get_or, bit_and, bit_or, sym, ap, ◌∙◌, arith}
use Rattle.std.proofs.lemmas.List.{get_or_read, take_all}
use Rattle.x86_64_mappings.specs.Summaries.{summary_of}
use Rattle.x86_64_mappings.specs.Wanted.{asked_of, is_wanted}
use Rattle.x86_64_mappings.specs.private.Known.{asking}
use Rattle.x86_64_mappings.specs.private.Merged.{of_bits}
use Rattle.x86_64_mappings.specs.private.Targets.{asked_on}
use Rattle.x86_64_mappings.proofs.Summed.{no_bits, page_more, page_unwanted, small_page_by}
use Rattle.x86_64_mappings.proofs.Tables.{by_nothing}
use Rattle.x86_64_mappings.proofs.Visited.{small_page, small_nothing, visited_same}
use Rattle.x86_64_mappings.proofs.summaries.table_summaries.small_pages_summary.Goals as goal
use Rattle.x86_64_mappings.proofs.summaries.table_summaries.small_pages_summary.Goals.{then-has_flag+then-passes, else-has_flag, else-has_flag-via-then-has_flag+else-passes, else-has_flag-via-else-has_flag}
use Rattle.x86_64_model.specs.Entry.{address, present}
use Rattle.x86_64_model.specs.Mappings.{every_right}
use Rattle.x86_64_model.specs.Position.{span}

pub loop-entry-init : goal.loop-entry-init
loop-entry-init g c = record { few = (omega arith, omega arith); sum = no_bits }

pub loop-entry-preserved : goal.loop-entry-preserved
loop-entry-preserved g c =
    let asked = asked_of g.T.TableMemory.tables g.P.PageTableFrameMapping.places (asking c.args.query.now) in
    let words = c.args.entries.now in
    let i = c.loop-entry.entry-index in
    let e = get_or words i 0 in
    let (few, most) = c.loop-entry.invariant.few in
    let sum = of_bits c.loop-entry.count c.loop-entry.some c.loop-entry.all in
    let less : i < length words = c.loop-entry-test.true in
    let entry : c.entry-item.result ≡ e = get_or_read words i c.entry-item.result less c.entry-item.is 0 in
    let there : c.has_flag.result ≡ present e = c.has_flag.ensures ∙ ap (λ e. present e) entry in
    let test = c.small_page_test-test.result in
    let wanted : (bit_and (address c.entry-item.result) test.mask == test.frame) ≡ is_wanted asked.wanted (small_page_by e) =
    ap (λ e. bit_and (address e) test.mask == test.frame) entry ∙ c.small_page_test-test.ensures e in
    elim c.if-has_flag.branch [
      | then-has_flag+then-passes w ↦
          let word : w.word-word.result ≡ e = w.word-word.ensures ∙ entry in
          let some : c.if-has_flag.some ≡ bit_or c.loop-entry.some e = w.some-is ∙ ap (bit_or c.loop-entry.some) word in
          let all : c.if-has_flag.all ≡ bit_and c.loop-entry.all e = w.all-is ∙ ap (bit_and c.loop-entry.all) word in
          record {
            few = (omega (arith, w.count-is, few), omega (arith, w.count-is, few, less, c.requires));
            sum = (λ k. of_bits (w.count-is k) (some k) (all k))
                ∙ page_more asked i words c.loop-entry.count c.loop-entry.some c.loop-entry.all less (small_page e (sym there ∙ w.if-has_flag.true))
                (sym wanted ∙ sym w.passes.ensures ∙ w.if-passes.true) c.loop-entry.invariant.sum;
          }
      | else-has_flag w ↦
          let same : of_bits c.if-has_flag.count c.if-has_flag.some c.if-has_flag.all ≡ sum = (λ k. of_bits (w.count-is k) (w.some-is k) (w.all-is k)) in
          record {
            few = (omega (arith, w.count-is, few), omega (arith, w.count-is, most));
            sum = same ∙ elim w.else-has_flag.branch [
              | else-has_flag-via-then-has_flag+else-passes p ↦
                  page_unwanted asked i words sum less (small_page e (sym there ∙ p.if-has_flag.true)) (sym wanted ∙ sym p.passes.ensures ∙ p.if-passes.false) c.loop-entry.invariant.sum
              | else-has_flag-via-else-has_flag p ↦
                  visited_same asked 1 0 every_right words i less (λ ms. sum ≡ summary_of ms)
                  (by_nothing asked 1 (0 + i * span 1) every_right e (small_nothing e (sym there ∙ p.if-has_flag.false))) c.loop-entry.invariant.sum
            ];
          }
    ]

pub returns : goal.returns
returns g c =
    let asked = asked_of g.T.TableMemory.tables g.P.PageTableFrameMapping.places (asking c.args.query.now) in
    c.of_small_pages.ensures ∙ c.loop-entry.invariant.sum
    ∙ ap (λ words. summary_of (asked_on asked 1 0 every_right words)) (take_all c.loop-entry.entry-index c.args.entries.now c.loop-entry-test.false)
