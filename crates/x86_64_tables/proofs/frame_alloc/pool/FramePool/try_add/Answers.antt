use Rattle.std.proofs.Common.{◌≡◌, ◌/◌, ◌<◌, true, length, rules, arith}
use Rattle.x86_64_model.specs.Lists.{In}
use Rattle.x86_64_model.specs.Pool.{serves_below}
use Rattle.x86_64_tables.proofs.Pools.{room, served_back, marked_back}
use Rattle.x86_64_tables.proofs.frame_alloc.pool.FramePool.try_add.Goals as goal

pub invariant_of-self-inside : goal.invariant_of-self-inside
invariant_of-self-inside c =
    let pool = c.self.inside in
    let fits : serves_below pool.is_free.len c.args.frame ≡ true = grind arith in
    (served_back pool.frames.items pool.is_free.len c.args.frame _ _ pool.served fits c.push_back.ensures.items, tt)

pub unwrap-requires : goal.unwrap-requires
unwrap-requires c =
    let pool = c.self.inside in
    let out : In pool.frames.items c.args.frame → ⊥ = search rules in
    let fits : serves_below pool.is_free.len c.args.frame ≡ true = grind arith in
    let free = room pool.frames.items pool.is_free.items pool.is_free.len c.args.frame c.self.invariant.0 pool.served out (omega arith) fits in
    c.push_back.ensures.succeeds (omega arith)

pub invariant_of-self : goal.invariant_of-self
invariant_of-self c =
    let pool = c.self.inside in
    let out : In pool.frames.items c.args.frame → ⊥ = search rules in
    let below : c.args.frame / 4096 < length pool.is_free.items = let sizes = pool.is_free.ok in grind arith in
    let added = marked_back pool.frames.items pool.is_free.items c.args.frame c.self.invariant.0 out (omega arith) below in
    search rules
