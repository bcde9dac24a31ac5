use Rattle.std.proofs.Common.{◌≡◌, ◌+◌, ◌*◌, sym, ap, ap₂, ◌∙◌, add-one, bit_or, set}
use Rattle.x86_64_model.specs.Position.{span}
use Rattle.x86_64_mappers.specs.private.PageCalls.{page_word}
use Rattle.x86_64_mappers.specs.private.RangeSteps.{with_leaves}
use Rattle.x86_64_mappers.proofs.walk.map_range.write_entries.Goals as goal

pub loop-k-preserved : goal.loop-k-preserved
loop-k-preserved g c =
    let level = g.S.PageSize.LEVEL in
    let a = c.args.frame in
    let k = c.loop-k.k in
    let flags = c.args.flags.0 in
    let at : c.start_address.result ≡ a + k * span level = c.start_address.ensures.value ∙ c.add.ensures ∙ ap (λ z. a + k * z) g.S.PageSize.size in
    let word : c.set_addr.new.self ≡ page_word level (a + k * span level) flags = c.set_addr.ensures ∙ ap₂ bit_or at c.leaf_flags-all_flags.ensures in
    ap₂ (λ t w. set t (c.args.first + k) w) c.loop-k.invariant word
    ∙ sym (ap (λ n. with_leaves level c.args.first a flags c.args.table.now n) (add-one k))
