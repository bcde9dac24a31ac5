use Rattle.x86_64_page.proofs.Sums.{difference_is_aligned}
use Rattle.x86_64_page.proofs.page.operators.PageInSubU64.sub.Goals as goal

pub from_start_address_unchecked-requires : goal.from_start_address_unchecked-requires
from_start_address_unchecked-requires g c =
    let at = rw (c.SIZE.ensures, c.start_address.ensures.value) at c.sub.ensures in
    difference_is_aligned g.L.LevelCount.LEVELS _ _ _ _ _ g.L.LevelCount.known_levels g.S.PageSize.low g.S.PageSize.high g.S.PageSize.size c.requires.0 at c.start_address.ensures.aligned
