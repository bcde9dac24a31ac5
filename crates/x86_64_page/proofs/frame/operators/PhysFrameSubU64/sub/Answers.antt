use Rattle.x86_64_page.proofs.Sums.{difference_is_multiple}
use Rattle.x86_64_page.proofs.frame.operators.PhysFrameSubU64.sub.Goals as goal

pub from_start_address_unchecked-requires : goal.from_start_address_unchecked-requires
from_start_address_unchecked-requires g c =
    rw (c.sub.ensures, c.SIZE.ensures, c.start_address.ensures.value)
    (difference_is_multiple c.args.self c.args.rhs g.S.PageSize.SIZE c.requires c.start_address.ensures.aligned)
