use Rattle.std.proofs.Common.{rules, ◌+◌, ◌≤◌, ◌∙◌, subst₂, ap₂, arith}
use Rattle.x86_64_model.specs.Hierarchy.{CleansUp}
use Rattle.x86_64_model.specs.Position.{page_path}
use Rattle.x86_64_mappers.proofs.Way.PagePaths.{page_start}
use Rattle.x86_64_mappers.proofs.walk.clean_up.clean_up_range.Goals as goal

pub returns : goal.returns
returns g c =
    let mapper = c.args.mapper.now in
    let h = g.M.Tables.hierarchy mapper in
    let deallocator = c.args.frame_deallocator.now in
    let done = c.clean_up_paths in
    let L = g.L.LevelCount.LEVELS in
    let known = g.met.M.TablesIn.level_count mapper in
    let some : 1 ≤ L = omega (arith, g.L.LevelCount.at_least_four) in
    let first = c.indices.ensures ∙ c.path_of_address-first.ensures.path ∙ ap₂ (λ levels p. page_path levels p) known c.start_address.ensures.value in
    let last = c.indices-2.ensures ∙ c.path_of_address-last.ensures.path ∙ ap₂ (λ levels p. page_path levels p) known c.start_address-2.ensures.value in
    let low = page_start L h.layout.levels c.args.range.start c.indices.result.now some known first (search rules) (search rules) in
    let high = page_start L h.layout.levels c.args.range.end c.indices-2.result.now some known last (search rules) (search rules) in
    record {
      cleans = subst₂ (λ low high. CleansUp h g.D.FrameDeallocator.take_back (g.D.FrameDeallocator.held deallocator) low (high + 0xfff) (g.M.Tables.hierarchy done.new.mapper) (g.D.FrameDeallocator.held done.new.frame_deallocator))
          low high done.ensures.cleans;
      serves = done.ensures.serves;
    }
