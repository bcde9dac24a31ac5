use Rattle.std.proofs.Common.{◌≡◌, ◌+◌, [], ◌∷◌, fold, get_or, length, set, sym, ap, ap₂, ◌∙◌, add-one, arith}
use Rattle.std.proofs.lemmas.List.Sums.{fold-append}
use Rattle.x86_64_model.specs.Call.{Answered}
use Rattle.x86_64_mappers.specs.RangeChanges.{frames_done}
use Rattle.x86_64_mappers.specs.private.EntryCalls.{word_said, answer_said}
use Rattle.x86_64_mappers.specs.private.PageCalls.{unmap_says}
use Rattle.x86_64_mappers.specs.private.RangeChangeSteps.{with_results, replies_said}
use Rattle.x86_64_mappers.proofs.Range.ChangedWords.{frames_append, length_words, replies_more, words_past}
use Rattle.x86_64_mappers.proofs.walk.change_range.unmap_entries.Goals as goal

pub loop-k-preserved : goal.loop-k-preserved
loop-k-preserved g c =
    let says = unmap_says g.S.PageSize.LEVEL in
    let i = c.args.first in
    let t = c.args.table.now in
    let k = c.loop-k.k in
    let inv = c.loop-k.invariant in
    let e = get_or t (i + k) 0 in
    let at : c.index_mut.result.now ≡ e = c.index_mut.ensures.value ∙ ap (λ t. get_or t (i + k) 0) inv.words ∙ words_past says i t k (i + k) (omega arith) in
    let word = c.unmap_entry-unmapped.ensures.word ∙ ap (λ e. word_said e (says e)) at in
    let answer = c.unmap_entry-unmapped.ensures.answer ∙ ap (λ e. answer_said (says e)) at in record {
      words = ap₂ (λ t w. set t (i + k) w) inv.words word ∙ sym (ap (with_results says i t) (add-one k));
      taken = c.pass_on.ensures
          ∙ ap₂ (λ sink a. fold g.K.FrameSink.with_frame sink (frames_done (Answered a ∷ []))) inv.taken answer
          ∙ sym (fold-append g.K.FrameSink.with_frame c.args.sink.now (frames_done (replies_said says i t k)) (frames_done (Answered (answer_said (says e)) ∷ [])))
          ∙ ap (λ fs. fold g.K.FrameSink.with_frame c.args.sink.now fs) (sym (frames_append (replies_said says i t k) (Answered (answer_said (says e)) ∷ [])) ∙ ap frames_done (sym (replies_more says i t k)));
      size = λ some. sym (ap length inv.words ∙ length_words says i t k) ∙ c.index_mut.ensures.size;
    }
