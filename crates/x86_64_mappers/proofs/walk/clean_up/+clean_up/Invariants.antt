use Rattle.std.proofs.Common.{◌≡◌, ◌≤◌, ◌+◌, ◌-◌, ◌*◌, length}
use Rattle.x86_64_model.proofs.Lemmas.CleanUps.Below.{cleaned_before, back_before}
use Rattle.x86_64_model.specs.Hierarchy.{paths}
use Rattle.x86_64_model.specs.Path.{span_start}
use Rattle.x86_64_mappers.specs.private.CleaningUp.{last_position, IsCleaned}
use Rattle.x86_64_mappers.proofs.walk.clean_up.+clean_up.Given as goal

-- each call of one by the other is at an entry, or at the table below it
abbrev pub decreases-clean_up_table : goal.decreases-clean_up_table
decreases-clean_up_table g l = 2 * (length l.range.now.first.now - length l.path.now) + 1

abbrev pub decreases-clean_up_entry : goal.decreases-clean_up_entry
decreases-clean_up_entry g l = 2 * (length l.range.now.first.now - length l.path.now)

-- the entries before the next one to be cleaned up were
abbrev pub invariant-clean_up_table-loop-next : goal.invariant-clean_up_table-loop-next
invariant-clean_up_table-loop-next g l =
    let before = g.M.Tables.hierarchy l.fn.mapper in
    let after = g.M.Tables.hierarchy l.mapper in
    let levels = before.layout.levels in
    let low = span_start levels l.range.first.now in
    let high = last_position levels l.range.last.now in
    record {
      cleaned : IsCleaned before.layout g.D.FrameDeallocator.take_back before.memory (g.D.FrameDeallocator.held l.fn.frame_deallocator) (cleaned_before levels (paths before) low high l.path l.next)
          (back_before levels (paths before) low high l.path l.next) after.memory (g.D.FrameDeallocator.held l.frame_deallocator);
      from : l.next ≤ l.last → l.first ≤ l.next;
      in_table : l.next ≤ 512;
      layout : after.layout ≡ before.layout;
      lent : after.lent ≡ before.lent;
      serves : g.D.FrameKeeper.serves l.frame_deallocator ≡ g.D.FrameKeeper.serves l.fn.frame_deallocator;
    }

abbrev pub decreases-clean_up_table-loop-next : goal.decreases-clean_up_table-loop-next
decreases-clean_up_table-loop-next g l = 512 - l.next
