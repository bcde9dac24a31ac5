use Rattle.x86_64_page.proofs.Blocks.{whole_blocks}
use Rattle.x86_64_page.proofs.range.inclusive.BlockRangeInclusive.len.Goals as goal

pub returns : goal.returns
returns g c = rw (c.size.ensures, c.SIZE.ensures) (whole_blocks _ _ g.met.B.Block.known_size)
