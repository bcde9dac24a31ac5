use Rattle.x86_64_page.proofs.Sums.{sum_is_multiple}
use Rattle.x86_64_page.proofs.frame.operators.PhysFrameAddU64.add.Goals as goal

pub from_start_address_unchecked-requires : goal.from_start_address_unchecked-requires
from_start_address_unchecked-requires g c =
    rw (c.add.ensures, c.SIZE.ensures, c.start_address.ensures.value) (sum_is_multiple c.args.self c.args.rhs g.S.PageSize.SIZE c.start_address.ensures.aligned)
