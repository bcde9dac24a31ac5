use Rattle.std.proofs.Common.{subst₂}
use Rattle.x86_64_model.specs.Hierarchy.{CleansUp}
use Rattle.x86_64_mappers.proofs.CleanUp.AllPages.{to_the_last}
use Rattle.x86_64_mappers.proofs.calls.clean_up.Goals as goal

pub returns : goal.returns
returns g c =
    let h = g.M.Tables.hierarchy c.args.mapper.now in
    let held = g.D.FrameDeallocator.held c.args.frame_deallocator.now in
    let after = g.M.Tables.hierarchy c.clean_up_range.new.mapper in
    let rest = g.D.FrameDeallocator.held c.clean_up_range.new.frame_deallocator in
    record {
      cleans = subst₂ (λ low high. CleansUp h g.D.FrameDeallocator.take_back held low high after rest) c.all_pages.ensures.first
          (to_the_last g.L.LevelCount.LEVELS _ g.L.LevelCount.known_levels c.all_pages.ensures.last) c.clean_up_range.ensures.cleans;
      serves = c.clean_up_range.ensures.serves;
    }
