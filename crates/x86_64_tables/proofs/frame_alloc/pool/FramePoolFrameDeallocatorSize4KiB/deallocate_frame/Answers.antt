use Rattle.std.proofs.Common.{◌≡◌, true, rules, arith}
use Rattle.x86_64_model.specs.Lists.{In}
use Rattle.x86_64_model.specs.Pool.{serves_below}
use Rattle.x86_64_tables.proofs.Pools.{room}
use Rattle.x86_64_tables.proofs.frame_alloc.pool.FramePoolFrameDeallocatorSize4KiB.deallocate_frame.Goals as goal

pub unwrap-requires : goal.unwrap-requires
unwrap-requires c =
    let pool = c.self.inside in
    let out : In pool.frames.items c.args.frame → ⊥ = search rules in
    let fits : serves_below pool.is_free.len c.args.frame ≡ true = search rules in
    let free = room pool.frames.items pool.is_free.items pool.is_free.len c.args.frame c.self.invariant.0 pool.served out (omega arith) fits in
    c.push_front.ensures.succeeds (omega arith)
