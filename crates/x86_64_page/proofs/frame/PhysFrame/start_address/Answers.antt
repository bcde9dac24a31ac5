use Rattle.x86_64_page.proofs.Multiples.{multiple_of_4KiB}
use Rattle.x86_64_page.proofs.frame.PhysFrame.start_address.Goals as goal

pub returns-clause-aligned_to_4kib : goal.returns-clause-aligned_to_4kib
returns-clause-aligned_to_4kib g c =
    rw (← c.self.view_is) (multiple_of_4KiB _ _ _ g.S.PageSize.low g.S.PageSize.high g.S.PageSize.size c.self.invariant.1)
