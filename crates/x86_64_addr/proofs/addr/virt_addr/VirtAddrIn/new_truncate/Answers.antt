use Rattle.std.proofs.Common.{◌∙◌}
use Rattle.x86_64_addr.proofs.Canonical.{extended_canonical, extended_position}
use Rattle.x86_64_addr.proofs.addr.virt_addr.VirtAddrIn.new_truncate.Goals as goal

pub new-requires : goal.new-requires
new-requires g c =
    let count = g.L.LevelCount.known_count in
    extended_canonical g.L.LevelCount.LEVELS c.args.addr c.POSITION_COUNT-half.result c.POSITION_COUNT.result
    (c.POSITION_COUNT-half.ensures ∙ count) (c.POSITION_COUNT.ensures ∙ count) g.L.LevelCount.known_levels

pub returns : goal.returns
returns g c =
    let count = g.L.LevelCount.known_count in
    c.new.ensures.position
    ∙ extended_position g.L.LevelCount.LEVELS c.args.addr c.POSITION_COUNT-half.result c.POSITION_COUNT.result
    (c.POSITION_COUNT-half.ensures ∙ count) (c.POSITION_COUNT.ensures ∙ count) g.L.LevelCount.known_levels
