use Rattle.std.proofs.Common.{rules, ◌+◌, ◌≤◌, ◌∙◌, subst₂, ap₂, arith}
use Rattle.x86_64_model.specs.Position.{page_path}
use Rattle.x86_64_model.specs.Store.{Store}
use Rattle.x86_64_mappers.proofs.Way.PagePaths.{page_start}
use Rattle.x86_64_mappers.specs.CleanUpsBelowRoot.{CleansUpBelowRoot}
use Rattle.x86_64_mappers.proofs.walk.clean_up.below_root.clean_up_below_root.Goals as goal

pub returns : goal.returns
returns g c =
    let mapper = c.args.mapper.now in
    let h = g.M.Tables.hierarchy mapper in
    let old = c.args.frame_deallocator.now in
    let done = c.clean_up_paths_below_root in
    let new = done.new.frame_deallocator in
    let store : Store = record { frames = g.D.FrameDeallocator.held old; serves = g.D.FrameKeeper.serves old; take_back = g.D.FrameDeallocator.take_back } in
    let rest : Store = record { frames = g.D.FrameDeallocator.held new; serves = g.D.FrameKeeper.serves new; take_back = g.D.FrameDeallocator.take_back } in
    let L = g.L.LevelCount.LEVELS in
    let known = g.met.M.TablesIn.level_count mapper in
    let some : 1 ≤ L = omega (arith, g.L.LevelCount.at_least_four) in
    let first = c.indices.ensures ∙ c.path_of_address-first.ensures.path ∙ ap₂ (λ levels p. page_path levels p) known c.start_address.ensures.value in
    let last = c.indices-2.ensures ∙ c.path_of_address-last.ensures.path ∙ ap₂ (λ levels p. page_path levels p) known c.start_address-2.ensures.value in
    let low = page_start L h.layout.levels c.args.range.start c.indices.result.now some known first (search rules) (search rules) in
    let high = page_start L h.layout.levels c.args.range.end c.indices-2.result.now some known last (search rules) (search rules) in
    subst₂ (λ low high. CleansUpBelowRoot h store low (high + 0xfff) (g.M.Tables.hierarchy done.new.mapper) rest) low high done.ensures
