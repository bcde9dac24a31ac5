use Rattle.std.proofs.Common.{List, sym, subst}
use Rattle.std.proofs.lemmas.Result.{IfOk-weaker}
use Rattle.x86_64_dump.specs.declared.search.Stretch.{Stretch}
use Rattle.x86_64_dump.specs.declared.segment.Segment.{Segment}
use Rattle.x86_64_dump.specs.private.Search.{AreMerged, FindFirst}
use Rattle.x86_64_dump.proofs.Stretches.{halves_merged}
use Rattle.x86_64_dump.proofs.search.+stretches_of.Goals as goal

pub returns-clause-first : goal.returns-clause-first
returns-clause-first t c =
    let Found : List Segment → List Stretch → Type 0 = FindFirst c.args.length in
    IfOk-weaker c.merge.result (λ merged. AreMerged c.deref.result.now c.deref-2.result.now merged.items) (λ stretches. FindFirst c.args.length c.args.segments.now stretches.items)
    (λ merged are. halves_merged c.args.length c.args.segments.now c.split_at.result.0.now c.split_at.result.1.now c.deref.result.now c.deref-2.result.now merged.items
    c.split_at.ensures.by_index.0
    (subst (Found c.split_at.result.0.now) (sym c.deref.ensures.value) c.in_ok-front.ensures.first)
    (subst (Found c.split_at.result.1.now) (sym c.deref-2.ensures.value) c.in_ok-back.ensures.first) are)
    c.merge.ensures.merged
