use Rattle.std.proofs.Common.{◌∙◌, ap₂, sym}
use Rattle.x86_64_dump.specs.private.Merging.{lower}
use Rattle.x86_64_dump.proofs.Merging.{merged_more}
use Rattle.x86_64_dump.proofs.search.merging.merge.Goals as goal

pub loop-from-preserved : goal.loop-from-preserved
loop-from-preserved c =
    let next = ap₂ lower (sym c.next_from.ensures) (sym c.next_from-in-loop-from.ensures) ∙ sym c.lower.ensures ∙ c.in-Some.is in (
      c.in-Some.from,
      merged_more c.args.front.now c.args.back.now c.loop-from.merged.items c.push.new.self.items c.loop-from.front.rest.now c.loop-from.back.rest.now
          c.go_to.new.self.rest.now c.go_to-in-Some.new.self.rest.now c.loop-from.front.place c.loop-from.back.place c.go_to.new.self.place c.go_to-in-Some.new.self.place c.or.result
          c.loop-from.invariant.0 c.in-Some.from next c.go_to.ensures.rest c.go_to-in-Some.ensures.rest c.go_to.ensures.place c.go_to-in-Some.ensures.place c.or.ensures c.in_ok-push.ensures.items
          c.loop-from.invariant.1,
    )
