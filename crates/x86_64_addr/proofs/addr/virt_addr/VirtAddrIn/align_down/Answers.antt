use Rattle.std.proofs.Common.{◌-◌, ◌%◌, ap, ◌∙◌}
use Rattle.x86_64_model.specs.Position.{position_count}
use Rattle.x86_64_addr.proofs.AlignedPositions.{down_position}
use Rattle.x86_64_addr.proofs.addr.virt_addr.VirtAddrIn.align_down.Goals as goal

pub returns-clause-position : goal.returns-clause-position
returns-clause-position g c =
    c.new_truncate.ensures
    ∙ ap (λ n. n % position_count g.L.LevelCount.LEVELS) (c.align_down.ensures.value ∙ ap (λ n. n - n % c.args.align) c.as_u64.ensures.value)
    ∙ down_position g.L.LevelCount.LEVELS c.args.self c.args.align g.L.LevelCount.known_levels c.requires c.as_u64.ensures.position
