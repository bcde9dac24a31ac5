use Rattle.std.proofs.Common.{◌≡◌, ◌≤◌, ◌-◌}
use Rattle.x86_64_mappers.specs.Ranges.{range_of, accepted_maps}
use Rattle.x86_64_mappers.specs.private.RangeSteps.{IsRangeRun}
use Rattle.x86_64_tables.specs.PageTableFlags.{bits_of}
use Rattle.x86_64_mappers.proofs.walk.map_range.map_range.Given as goal

-- the pages so far are mapped
abbrev pub invariant-parts : goal.invariant-parts
invariant-parts g l =
    let before = g.M.Tables.hierarchy l.fn.mapper in
    let now = g.M.Tables.hierarchy l.mapper in
    let run = range_of g.S.PageSize.LEVEL l.page l.frame (bits_of l.flags) (bits_of l.parent_flags) in
    record {
      run : IsRangeRun before.layout before.memory (g.A.FrameAllocator.supply l.fn.frame_allocator) run l.done (accepted_maps run l.done) now.memory (g.A.FrameAllocator.supply l.frame_allocator);
      within : l.done ≤ l.count;
      layout : now.layout ≡ before.layout;
      lent : now.lent ≡ before.lent;
      serves : g.A.FrameKeeper.serves l.frame_allocator ≡ g.A.FrameKeeper.serves l.fn.frame_allocator;
    }

abbrev pub decreases-parts : goal.decreases-parts
decreases-parts g l = l.count - l.done
