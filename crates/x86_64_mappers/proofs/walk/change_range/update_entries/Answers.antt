use Rattle.std.proofs.Common.{◌≡◌, ◌≤◌, ◌+◌, [], ◌∷◌, get_or, length, lit≤, set, refl, sym, ap, ap₂, ◌∙◌, add-one, arith}
use Rattle.std.proofs.lemmas.List.{length-append}
use Rattle.x86_64_model.specs.Call.{Answered}
use Rattle.x86_64_model.specs.Refusal.{Answer, Done, Refused, refusal_of}
use Rattle.x86_64_tables.specs.PageTableFlags.{bits_of}
use Rattle.x86_64_mappers.specs.RangeChanges.{frames_done}
use Rattle.x86_64_mappers.specs.private.EntryCalls.{answer_said, word_said}
use Rattle.x86_64_mappers.specs.private.PageCalls.{update_says}
use Rattle.x86_64_mappers.specs.private.RangeChangeSteps.{count_unless, replies_said, with_results}
use Rattle.x86_64_mappers.proofs.Range.ChangedWords.{frames_append, length_words, replies_more, words_past}
use Rattle.x86_64_mappers.proofs.walk.change_range.update_entries.Goals as goal

counted : (a : Answer) → count_unless (refusal_of a) ≡ length (frames_done (Answered a ∷ []))
counted (Done f) = refl
counted (Refused why) = refl

at_most_one : (a : Answer) → count_unless (refusal_of a) ≤ 1
at_most_one (Done f) = lit≤ tt
at_most_one (Refused why) = lit≤ tt

pub overflow_add-changed : goal.overflow_add-changed
overflow_add-changed g c =
    let one = at_most_one (answer_said (update_says g.S.PageSize.LEVEL (bits_of c.args.flags) c.index_mut.result.now)) in
    let counts = c.count_of-changed.ensures ∙ ap count_unless c.update_entry-updated.ensures.refusal in
    let few = c.loop-k.invariant.few in
    let least = c.loop-k-test.true in
    let fits = c.requires in
    omega (arith, one, counts, few, least, fits)

pub loop-k-preserved : goal.loop-k-preserved
loop-k-preserved g c =
    let says = update_says g.S.PageSize.LEVEL (bits_of c.args.flags) in
    let i = c.args.first in
    let t = c.args.table.now in
    let k = c.loop-k.k in
    let inv = c.loop-k.invariant in
    let e = get_or t (i + k) 0 in
    let at : c.index_mut.result.now ≡ e = c.index_mut.ensures.value ∙ ap (λ t. get_or t (i + k) 0) inv.words ∙ words_past says i t k (i + k) (omega arith) in
    let word = c.update_entry-updated.ensures.word ∙ ap (λ e. word_said e (says e)) at in
    let one = at_most_one (answer_said (says e)) in
    let counts : c.count_of-changed.result ≡ count_unless (refusal_of (answer_said (says e))) = c.count_of-changed.ensures ∙ ap count_unless (c.update_entry-updated.ensures.refusal ∙ ap (λ e. refusal_of (answer_said (says e))) at) in
    let told = Answered (answer_said (says e)) ∷ [] in record {
      words = ap₂ (λ t w. set t (i + k) w) inv.words word ∙ sym (ap (with_results says i t) (add-one k));
      changed = ap₂ (λ a b. a + b) inv.changed (counts ∙ counted (answer_said (says e)))
          ∙ sym (length-append (frames_done (replies_said says i t k)) (frames_done told))
          ∙ ap length (sym (frames_append (replies_said says i t k) told) ∙ ap frames_done (sym (replies_more says i t k)));
      few = (let few = inv.few in omega (arith, one, counts, few));
      size = λ some. sym (ap length inv.words ∙ length_words says i t k) ∙ c.index_mut.ensures.size;
    }
