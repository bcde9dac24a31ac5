use Rattle.std.proofs.Common.{rules, ◌<◌, ◌≡◌, ◌-◌, refl}
use Rattle.x86_64_page.specs.Blocks.{blocks}
use Rattle.x86_64_page.proofs.Blocks.{blocks-last, goes_last, one_lowered}
use Rattle.x86_64_page.proofs.range.BlockRangeDoubleEndedIterator.next_back.Goals as goal

pub returns-clause-steps : goal.returns-clause-steps
returns-clause-steps g c =
    let start = c.place.ensures in
    let end = c.place-end.ensures in
    let below : g.B.Block.place c.args.self.now.start < g.B.Block.place c.args.self.now.end = search rules in
    let at : g.B.Block.place c.at-self.result ≡ g.B.Block.place c.args.self.now.end - g.B.Block.SIZE = rw (c.at-self.ensures, end.value, c.SIZE.ensures) refl in
    rw at (
      blocks-last _ _ _ g.met.B.Block.known_size (rw (← start.value) start.aligned) (rw (← end.value) end.aligned) below,
      one_lowered _ _ _ g.met.B.Block.known_size (rw (← start.value) start.aligned) (rw (← end.value) end.aligned) below,
    )

pub returns-clause-goes : goal.returns-clause-goes
returns-clause-goes g c =
    let left = returns-clause-steps g c in
    goes_last (λ r. blocks g.B.Block.SIZE (g.B.Block.place r.start) (g.B.Block.place r.end)) _ _ _ _ left.0
