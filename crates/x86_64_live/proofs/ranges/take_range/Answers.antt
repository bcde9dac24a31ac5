use Rattle.std.proofs.Common.{subst}
use Rattle.x86_64_live.proofs.PageMasks.{none_kept, zero_keeps}
use Rattle.x86_64_mappers.specs.Layouts.{direct_at}
use Rattle.x86_64_live.specs.PageRanges.{ExchangesPages, page_entries, reached}
use Rattle.x86_64_model.specs.Entry.{used}
use Rattle.x86_64_model.specs.Hierarchy.{◌laid_in◌, paths}
use Rattle.x86_64_live.proofs.ranges.take_range.Goals as goal

pub change_pages-requires-clause-masks : goal.change_pages-requires-clause-masks
change_pages-requires-clause-masks g c = zero_keeps

pub returns-clause-changes : goal.returns-clause-changes
returns-clause-changes g c =
    let L = g.L.LevelCount.LEVELS in let l = direct_at L (g.P.PageTableFrameMapping.places c.args.mapping.now) c.args.root in
    let old = g.T.TableMemory.tables c.args.memory.now in
    subst (λ next. ExchangesPages l next (page_entries L used (paths (l laid_in old)) c.args.range.start (reached c.args.range.end c.change_pages.result.end)) old (g.T.TableMemory.tables c.change_pages.new.memory))
    (λ i e. none_kept e i) c.change_pages.ensures.changes
