use Rattle.x86_64_addr.specs.Position.{position_count}
use Rattle.x86_64_page.proofs.Sums.{size_is_positive}
use Rattle.x86_64_page.proofs.StepsOfPages.{page_steps_are_counted}
use Rattle.x86_64_page.proofs.laws.page_steps_are_counted.Goals as goal

pub returns : goal.returns
returns g c =
    page_steps_are_counted (position_count g.L.LevelCount.LEVELS) g.S.PageSize.SIZE (size_is_positive g.S.PageSize.SIZE g.S.PageSize.LEVEL g.S.PageSize.size)
