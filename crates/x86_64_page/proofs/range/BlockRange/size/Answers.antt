use Rattle.x86_64_page.proofs.Blocks.{bytes}
use Rattle.x86_64_page.proofs.range.BlockRange.size.Goals as goal

pub returns : goal.returns
returns g c =
    let start = c.place-2.ensures in
    let end = c.place.ensures in
    rw (c.saturating_sub.ensures, start.value, end.value)
    (bytes _ _ _ g.met.B.Block.known_size (rw (← start.value) start.aligned) (rw (← end.value) end.aligned))
