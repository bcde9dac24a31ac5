use Rattle.std.proofs.Common.{◌%◌, ap, ◌∙◌}
use Rattle.std.specs.Int.{next_multiple_of}
use Rattle.x86_64_model.specs.Position.{position_count}
use Rattle.x86_64_addr.proofs.AlignedPositions.{up_position}
use Rattle.x86_64_addr.proofs.addr.virt_addr.VirtAddrIn.align_up.Goals as goal

pub returns-clause-position : goal.returns-clause-position
returns-clause-position g c =
    c.new_truncate.ensures
    ∙ ap (λ n. n % position_count g.L.LevelCount.LEVELS) (c.align_up.ensures.value ∙ ap (λ n. next_multiple_of n c.args.align) c.as_u64.ensures.value)
    ∙ up_position g.L.LevelCount.LEVELS c.args.self c.args.align g.L.LevelCount.known_levels c.requires.power
