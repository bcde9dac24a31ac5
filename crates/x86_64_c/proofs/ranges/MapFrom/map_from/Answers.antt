use Rattle.std.proofs.Common.{rules}
use Rattle.x86_64_c.proofs.RangeArguments.{asked, right_frames, wrong_frames}
use Rattle.x86_64_c.proofs.ranges.MapFrom.map_from.Goals as goal

pub with_pool-requires-clause-fits : goal.with_pool-requires-clause-fits
with_pool-requires-clause-fits g c =
    c.requires.fits (right_frames c.args.self.now.request.now c.args.self.now.count c.requires.pages c.requires.is_page g.S.PageSize.size c.in_ok-frame.ensures.good)

pub returns-in_err-frame-clause-bad : goal.returns-in_err-frame-clause-bad
returns-in_err-frame-clause-bad g c =
    let wrong = wrong_frames c.args.self.now.request.now c.args.self.now.count c.requires.pages c.requires.is_page g.S.PageSize.size _ c.in_err-frame.ensures.bad in
    search rules

pub returns-clause-good : goal.returns-clause-good
returns-clause-good g c = right_frames c.args.self.now.request.now c.args.self.now.count c.requires.pages c.requires.is_page g.S.PageSize.size c.in_ok-frame.ensures.good

pub returns-clause-does : goal.returns-clause-does
returns-clause-does g c = (
  rw (c.in_ok-frame.ensures.frame, c.from_bits_retain.ensures tt, c.from_bits_retain-2.ensures tt, asked g.L.LevelCount.LEVELS c.args.self.now.request.now g.S.PageSize.LEVEL c.args.page c.requires.is_page) at c.with_pool.ensures.does,
  c.with_pool.ensures.unchanged,
)
