use Rattle.std.proofs.Common.{◌≡◌, ◌≤◌, ◌-◌, List, length}
use Rattle.x86_64_model.specs.Call.{Reply}
use Rattle.x86_64_mappers.specs.RangeChanges.{frames_done, updates}
use Rattle.x86_64_mappers.specs.private.RangeChangeSteps.{IsChangeRun}
use Rattle.x86_64_tables.specs.PageTableFlags.{bits_of}
use Rattle.x86_64_mappers.proofs.walk.change_range.update_flags_range.Given as goal

-- the pages so far are done
abbrev pub invariant-parts : goal.invariant-parts
invariant-parts g l =
    let before = g.M.Tables.hierarchy l.fn.mapper in
    let now = g.M.Tables.hierarchy l.mapper in
    record {
      run : (answers : List Reply) × IsChangeRun before.layout before.memory (updates g.S.PageSize.LEVEL l.page (bits_of l.flags) l.done) answers now.memory × (l.changed ≡ length (frames_done answers));
      few : l.changed ≤ l.done;
      within : l.done ≤ l.count;
      layout : now.layout ≡ before.layout;
      lent : now.lent ≡ before.lent;
    }

abbrev pub decreases-parts : goal.decreases-parts
decreases-parts g l = l.count - l.done
