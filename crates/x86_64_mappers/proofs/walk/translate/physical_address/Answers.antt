use Rattle.std.proofs.Common.{◌+◌, ◌<◌, ◌^◌, arith}
use Rattle.x86_64_mappers.proofs.walk.translate.physical_address.Goals as goal

pub new-requires : goal.new-requires
new-requires c = rw (c.as_u64.ensures.value, c.start_address.ensures) (rw c.in-Mapped.is at c.requires)

pub overflow_add-as_u64 : goal.overflow_add-as_u64
overflow_add-as_u64 c =
    let below : c.as_u64.result + c.in-Mapped.offset < 2 ^ 52 = rw (c.as_u64.ensures.value, c.start_address.ensures) (rw c.in-Mapped.is at c.requires) in
    omega (arith, below)
