use Rattle.std.proofs.Common.{◌≡◌, ◌≤◌, length, take, drop}
use Rattle.x86_64_mappers.specs.private.MapSteps.{IsAt}
use Rattle.x86_64_mappers.specs.private.OpenWay.{IsOpenWay}
use Rattle.x86_64_tables.specs.PageTableFlags.{bits_of}
use Rattle.x86_64_mappers.proofs.walk.map.create_tables.Given as goal

abbrev pub invariant-loop-k : goal.invariant-loop-k
invariant-loop-k g l = record {
  down : IsAt (g.M.Tables.hierarchy l.fn.mapper).layout (g.M.Tables.hierarchy l.fn.mapper).memory (g.A.FrameAllocator.supply l.fn.frame_allocator) (bits_of l.parent_flags) l.parents
      (take l.k l.parents) (drop l.k l.parents) (g.M.Tables.hierarchy l.mapper).memory (g.A.FrameAllocator.supply l.frame_allocator) l.table;
  way : IsOpenWay (g.M.Tables.hierarchy l.fn.mapper).layout (g.M.Tables.hierarchy l.mapper).memory (bits_of l.parent_flags) l.parents l.k l.table;
  done : l.k ≤ length l.parents;
  layout : (g.M.Tables.hierarchy l.mapper).layout ≡ (g.M.Tables.hierarchy l.fn.mapper).layout;
  lent : (g.M.Tables.hierarchy l.mapper).lent ≡ (g.M.Tables.hierarchy l.fn.mapper).lent;
  serves : g.A.FrameKeeper.serves l.frame_allocator ≡ g.A.FrameKeeper.serves l.fn.frame_allocator;
}
