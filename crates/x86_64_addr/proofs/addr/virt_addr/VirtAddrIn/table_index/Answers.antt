use Rattle.std.proofs.Common.{ap, ◌∙◌}
use Rattle.x86_64_addr.proofs.Indices.{index_of_raw, shifted}
use Rattle.x86_64_addr.proofs.addr.virt_addr.VirtAddrIn.table_index.Goals as goal

pub returns : goal.returns
returns g c =
    c.new.ensures
    ∙ ap (shifted c.args.level) c.as_u64.ensures.value
    ∙ index_of_raw g.L.LevelCount.LEVELS c.args.level c.args.self g.L.LevelCount.known_levels c.requires.0 c.requires.1
