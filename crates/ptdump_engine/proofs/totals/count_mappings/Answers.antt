use Rattle.std.proofs.Common.{rules, ◌≡◌, ◌∙◌, ap, arith}
use Rattle.x86_64_model.specs.Mappings.{mappings_from, mappings_of}
use Rattle.x86_64_model.proofs.Lemmas.Mappings.Listing.{from_first}
use Rattle.ptdump_check.specs.Loaded.{words_loaded}
use Rattle.ptdump_engine.proofs.Counted.{one_more, none_left}
use Rattle.ptdump_engine.proofs.totals.count_mappings.Goals as goal

pub overflow_add-count : goal.overflow_add-count
overflow_add-count g c =
    let L = g.L.LevelCount.LEVELS in
    let T = words_loaded c.args.loaded.now in
    let root = c.args.loaded.now.root in
    let listed : c.into_iter-mapping-iterator.result ≡ mappings_from c.zero.result (mappings_of L T root) = search rules in
    let all = listed ∙ ap (λ p. mappings_from p (mappings_of L T root)) c.zero.ensures ∙ from_first L T root in
    let more = one_more L T root c.loop-mapping.count c.loop-mapping.bytes c.into_iter-mapping-iterator.result c.loop-mapping.mapping-iterator c.next.new.self c.in-Some.mapping
    g.L.LevelCount.at_most_five all c.in-Some.ensures.steps c.loop-mapping.invariant in
    omega (arith, more.0)

pub overflow_add-bytes : goal.overflow_add-bytes
overflow_add-bytes g c =
    let L = g.L.LevelCount.LEVELS in
    let T = words_loaded c.args.loaded.now in
    let root = c.args.loaded.now.root in
    let listed : c.into_iter-mapping-iterator.result ≡ mappings_from c.zero.result (mappings_of L T root) = search rules in
    let all = listed ∙ ap (λ p. mappings_from p (mappings_of L T root)) c.zero.ensures ∙ from_first L T root in
    let more = one_more L T root c.loop-mapping.count c.loop-mapping.bytes c.into_iter-mapping-iterator.result c.loop-mapping.mapping-iterator c.next.new.self c.in-Some.mapping
    g.L.LevelCount.at_most_five all c.in-Some.ensures.steps c.loop-mapping.invariant in
    rw c.size-bytes.ensures (omega (arith, more.1))

pub returns : goal.returns
returns g c =
    let L = g.L.LevelCount.LEVELS in
    let T = words_loaded c.args.loaded.now in
    let root = c.args.loaded.now.root in
    let listed : c.into_iter-mapping-iterator.result ≡ mappings_from c.zero.result (mappings_of L T root) = search rules in
    let all = listed ∙ ap (λ p. mappings_from p (mappings_of L T root)) c.zero.ensures ∙ from_first L T root in
    let both = none_left L T root c.loop-mapping.count c.loop-mapping.bytes c.into_iter-mapping-iterator.result c.loop-mapping.mapping-iterator all c.in-None.ensures.steps.0
    c.loop-mapping.invariant in
    record { count = both.0; bytes = both.1 }
