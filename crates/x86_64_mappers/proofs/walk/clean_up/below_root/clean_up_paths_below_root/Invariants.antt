use Rattle.std.proofs.Common.{◌≡◌, ◌≤◌}
use Rattle.x86_64_model.specs.Hierarchy.{paths}
use Rattle.x86_64_model.specs.Path.{span_start}
use Rattle.x86_64_mappers.specs.private.CleaningUp.{last_position, IsCleaned}
use Rattle.x86_64_mappers.proofs.CleanUp.BelowRoot.{cleaned_first, back_first}
use Rattle.x86_64_mappers.proofs.walk.clean_up.below_root.clean_up_paths_below_root.Given as goal

-- the tables below the entries before the next one were cleaned up
abbrev pub invariant-loop-index : goal.invariant-loop-index
invariant-loop-index g l =
    let before = g.M.Tables.hierarchy l.fn.mapper in
    let after = g.M.Tables.hierarchy l.mapper in
    let levels = before.layout.levels in
    let low = span_start levels l.first in
    let high = last_position levels l.last in
    record {
      cleaned : IsCleaned before.layout g.D.FrameDeallocator.take_back before.memory (g.D.FrameDeallocator.held l.fn.frame_deallocator) (cleaned_first levels (paths before) low high l.index)
          (back_first levels (paths before) low high l.index) after.memory (g.D.FrameDeallocator.held l.frame_deallocator);
      in_table : l.index ≤ 512;
      layout : after.layout ≡ before.layout;
      lent : after.lent ≡ before.lent;
      serves : g.D.FrameKeeper.serves l.frame_deallocator ≡ g.D.FrameKeeper.serves l.fn.frame_deallocator;
    }
