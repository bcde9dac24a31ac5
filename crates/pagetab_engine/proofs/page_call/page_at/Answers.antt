use Rattle.std.proofs.Common.{refl, ap, ◌∙◌}
use Rattle.pagetab_engine.specs.Starts.{page_in}
use Rattle.pagetab_engine.proofs.Alignment.{page_found}
use Rattle.pagetab_engine.proofs.page_call.page_at.Goals as goal

pub returns : goal.returns
returns g c =
    c.ok.ensures.value ∙ page_found g.L.LevelCount.LEVELS c.args.start c.in_ok-address.address g.S.PageSize.SIZE g.S.PageSize.LEVEL c.from_start_address.result g.L.LevelCount.known_levels
    g.S.PageSize.low g.S.PageSize.high g.S.PageSize.size c.in_ok-address.ensures.value c.in_ok-address.ensures.position (c.in_ok-address.ensures.canonical.0 refl)
    c.from_start_address.ensures.aligned c.from_start_address.ensures.value
    ∙ ap (λ size. page_in g.L.LevelCount.LEVELS size c.args.start) g.S.PageSize.size
