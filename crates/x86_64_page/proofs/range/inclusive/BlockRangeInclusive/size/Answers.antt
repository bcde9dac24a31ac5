use Rattle.x86_64_page.proofs.Blocks.{bytes_inclusive}
use Rattle.x86_64_page.proofs.range.inclusive.BlockRangeInclusive.size.Goals as goal

pub returns : goal.returns
returns g c =
    let start = c.place-2.ensures in
    let end = c.place.ensures in
    rw (c.saturating_sub.ensures, c.SIZE.ensures, start.value, end.value)
    (bytes_inclusive _ _ _ g.met.B.Block.known_size (rw (← start.value) start.aligned) (rw (← end.value) end.aligned))
