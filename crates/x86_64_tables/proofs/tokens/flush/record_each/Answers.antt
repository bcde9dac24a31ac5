use Rattle.std.proofs.Common.{◌≡◌, ◌+◌, ◌*◌, ◌++◌, [], ◌∷◌, sym, ap, ap₂, ◌∙◌, append_assoc, arith}
use Rattle.std.proofs.lemmas.List.FromFn.{map-range_with_len_more}
use Rattle.x86_64_tables.specs.FlushRecorder.{page_item, page_items}
use Rattle.x86_64_tables.proofs.tokens.flush.record_each.Goals as goal

pub loop-k-preserved : goal.loop-k-preserved
loop-k-preserved g c =
    let L = g.L.LevelCount.LEVELS in
    let size = g.S.PageSize.SIZE in
    let page = c.args.page in
    let k = c.loop-k.k in
    let item : c.of_page.result ≡ page_item L (page + k * size) size = c.of_page.ensures ∙ ap₂ (page_item L) (c.start_address.ensures.value ∙ c.page_after-page.ensures) c.SIZE.ensures in
    record {
      items = c.record_reserved.ensures.items
          ∙ ap₂ (λ xs x. xs ++ x ∷ []) c.loop-k.invariant.items item
          ∙ append_assoc c.args.recorder.now.items (page_items L size page k) (page_item L (page + k * size) size ∷ [])
          ∙ ap (λ xs. c.args.recorder.now.items ++ xs) (sym (map-range_with_len_more (λ k. page_item L (page + k * size) size) 0 k k (let e : 0 + k ≡ k = omega arith in e)));
      room = omega (arith, c.record_reserved.ensures.room, c.loop-k.invariant.room);
    }
