use Rattle.std.proofs.Common.{◌∙◌}
use Rattle.x86_64_access.proofs.Walked.{arrives_within}
use Rattle.x86_64_access.proofs.memory_unit.address_in.Goals as goal

pub new-requires : goal.new-requires
new-requires g c =
    let size = g.S.PageSize.size in
    rw (c.as_u64.ensures.value, c.addr.ensures, c.SIZE.ensures ∙ size, c.SIZE-2.ensures ∙ size, c.SIZE-3.ensures ∙ size)
    (arrives_within c.args.entry.now c.args.position g.S.PageSize.LEVEL g.S.PageSize.low g.S.PageSize.high)
