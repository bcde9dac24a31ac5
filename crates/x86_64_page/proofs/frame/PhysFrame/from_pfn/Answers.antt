use Rattle.std.proofs.Math.Nat.{mul-mod_left}
use Rattle.x86_64_page.proofs.frame.PhysFrame.from_pfn.Goals as goal

pub from_start_address_unchecked-requires : goal.from_start_address_unchecked-requires
from_start_address_unchecked-requires g c = rw (c.new.ensures, c.SIZE.ensures) (mul-mod_left c.args.pfn g.S.PageSize.SIZE)
