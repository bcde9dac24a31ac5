use Rattle.std.proofs.Common.{◌≡◌, ◌≢◌, ℕ, ◌-◌, ◌+◌, ◌<◌, ◌%◌, true, length, subst, get_or, sym, arith}
use Rattle.x86_64_model.specs.Entry.{is_frame}
use Rattle.x86_64_model.specs.Lists.{In}
use Rattle.x86_64_tables.specs.LentPool.{stacked}
use Rattle.x86_64_tables.specs.declared.frame_alloc.lent_pool.LentPool.{LentPool}
use Rattle.x86_64_tables.specs.private.PoolLaws.{frame_aligned}
use Rattle.x86_64_tables.proofs.Stacks.{top_in, frame_below}
use Rattle.x86_64_tables.proofs.frame_alloc.lent_pool.LentPoolFrameAllocatorSize4KiB.allocate_frame.Goals as goal

-- the entry on top of a pool that holds a frame is a frame
top_is_frame : (pool : LentPool) → pool.count.now ≢ 0 → is_frame (get_or pool.entries.now (pool.count.now - 1) 0) ≡ true
top_is_frame pool holds =
    let entries = pool.entries.now in let inside = pool.in_array in
    let top : ℕ = pool.count.now - 1 in
    let all : top + 1 ≡ pool.count.now = omega (arith, holds) in
    let below : top < length entries = omega (arith, holds, inside) in
    pool.are_frames (get_or entries top 0) (subst (λ n. In (stacked entries n) (get_or entries top 0)) all (top_in entries top below))

pub new-address-requires : goal.new-address-requires
new-address-requires c = frame_below _ (top_is_frame c.args.self.now c.if-self-eq0.false)

pub from_start_address_unchecked-requires : goal.from_start_address_unchecked-requires
from_start_address_unchecked-requires c =
    subst (λ a. a % 4096 ≡ 0) (sym c.new-address.ensures) (frame_aligned _ (top_is_frame c.args.self.now c.if-self-eq0.false))
