use Rattle.std.proofs.Common.{arith, ◌≡◌, ◌≤◌, ◌-◌, ◌+◌, subst, fold, inr, length, replicate, refl, sym, ap, ◌∙◌}
use Rattle.std.proofs.lemmas.List.{length-take}
use Rattle.std.specs.FinMap.{insert}
use Rattle.std.specs.Option.{is_some}
use Rattle.x86_64_model.specs.Call.{Answered}
use Rattle.x86_64_model.specs.Refusal.{Refused}
use Rattle.x86_64_mappers.specs.private.PageCalls.{unmap_says}
use Rattle.x86_64_mappers.specs.private.RangeChangeSteps.{last_index, replies_said}
use Rattle.x86_64_mappers.specs.private.Results.{walk_refusal}
use Rattle.x86_64_mappers.proofs.Range.ChangedWords.{frames_none}
use Rattle.x86_64_mappers.proofs.Range.ChangeParts.{part_in_table}
use Rattle.x86_64_mappers.proofs.Way.Paths.{has_last_index, last_item, some_index_of, page_below_root}
use Rattle.x86_64_mappers.proofs.walk.change_range.unmap_part.Goals as goal

pub returns-in-Err-clause-changes : goal.returns-in-Err-clause-changes
returns-in-Err-clause-changes g c =
    let why = walk_refusal c.in-Err._why in
    let pages = c.find_part-part.result.pages in
    let replies = replicate pages (Answered (Refused why)) in (
      replies,
      inr (record { why = why; stopped = rw c.in-Err.is at c.find_part-part.ensures.refused; same = refl; replies = refl }),
      sym (ap (λ fs. fold g.K.FrameSink.with_frame c.args.sink.now fs) (frames_none pages why)),
    )

pub returns-clause-changes : goal.returns-clause-changes
returns-clause-changes g c =
    let s = c.args.mapper.now in
    let h = g.M.Tables.hierarchy s in
    let level = g.S.PageSize.LEVEL in
    let path = c.indices-indices.result.now in
    let size = has_last_index path (some_index_of h.layout.levels path level (ap (λ q. length q + level) c.indices-indices.ensures ∙ c.path_of_page-path.ensures.levels)
    (page_below_root h.layout.levels level (g.met.M.Tables.at_least_four s) g.S.PageSize.high)) in
    let index : c.from.result ≡ last_index path = c.from.ensures.0 ∙ last_item path c.index-indices-last.result size c.index-indices-last.is in
    let count = c.find_part-part.result.pages in
    let says = unmap_says g.S.PageSize.LEVEL in
    let t = c.table_mut-entries.result.now in
    let after = g.M.Tables.hierarchy (g.M.TableAccess.with_table s c.in-Ok.table c.unmap_entries.new.table) in (
      replies_said says c.from.result t count,
      part_in_table h.layout h.memory level c.args.page says count after.memory path (c.indices-indices.ensures ∙ c.path_of_page-path.ensures.path) c.from.result index (rw c.in-Ok.is at c.find_part-part.ensures.fits)
          c.in-Ok.table (rw c.in-Ok.is at c.find_part-part.ensures.found) t c.table_mut-entries.ensures.value (c.unmap_entries.ensures.size c.find_part-part.ensures.some)
          (g.met.M.TableAccess.puts s c.in-Ok.table _ (ap is_some c.table_mut-entries.ensures.value) ∙ ap (insert h.memory (h.layout.places.place c.in-Ok.table)) c.unmap_entries.ensures.words),
      c.unmap_entries.ensures.taken,
    )

pub find_part-part-requires-clause-path : goal.find_part-part-requires-clause-path
find_part-part-requires-clause-path g c = c.indices-indices.ensures ∙ c.path_of_page-path.ensures.path

pub find_part-part-requires-clause-levels : goal.find_part-part-requires-clause-levels
find_part-part-requires-clause-levels g c = ap (λ q. length q + g.S.PageSize.LEVEL) c.indices-indices.ensures ∙ c.path_of_page-path.ensures.levels

pub overflow_sub-last : goal.overflow_sub-last
overflow_sub-last g c = omega (arith, ap length c.indices-indices.ensures, c.path_of_page-path.ensures.levels, g.met.M.Tables.at_least_four c.args.mapper.now, g.S.PageSize.high)

pub table_mut-entries-requires-clause-reached : goal.table_mut-entries-requires-clause-reached
table_mut-entries-requires-clause-reached g c = rw c.in-Ok.is at c.find_part-part.ensures.reached

pub table_mut-entries-requires-clause-short : goal.table_mut-entries-requires-clause-short
table_mut-entries-requires-clause-short g c = omega (arith, length-take (length c.indices-indices.result.now - 1) c.indices-indices.result.now, ap length c.indices-indices.ensures, c.path_of_page-path.ensures.levels, g.met.M.Tables.at_least_four c.args.mapper.now, g.S.PageSize.high, g.S.PageSize.low)

pub offset_bounds-indices-last : goal.offset_bounds-indices-last
offset_bounds-indices-last g c = omega (arith, c.indices-indices.type_inv.1)

pub bounds-indices-last : goal.bounds-indices-last
bounds-indices-last g c = omega (arith, ap length c.indices-indices.ensures, c.path_of_page-path.ensures.levels, g.met.M.Tables.at_least_four c.args.mapper.now, g.S.PageSize.high)

pub unmap_entries-requires : goal.unmap_entries-requires
unmap_entries-requires g c =
    let levels = (g.M.Tables.hierarchy c.args.mapper.now).layout.levels in
    let level = g.S.PageSize.LEVEL in
    let path = c.indices-indices.result.now in
    let size = has_last_index path (some_index_of levels path level (ap (λ q. length q + level) c.indices-indices.ensures ∙ c.path_of_page-path.ensures.levels) (page_below_root levels level (g.met.M.Tables.at_least_four c.args.mapper.now) g.S.PageSize.high)) in
    let index : c.from.result ≡ last_index path = c.from.ensures.0 ∙ last_item path c.index-indices-last.result size c.index-indices-last.is in
    subst (λ i. i + c.find_part-part.result.pages ≤ 512) (sym index) (rw c.in-Ok.is at c.find_part-part.ensures.fits)

pub returns-clause-layout : goal.returns-clause-layout
returns-clause-layout g c = g.met.M.TableAccess.keeps_layout c.args.mapper.now c.in-Ok.table _

pub returns-clause-lent : goal.returns-clause-lent
returns-clause-lent g c = g.met.M.TableAccess.keeps_lent c.args.mapper.now c.in-Ok.table _

pub returns-in-Err-clause-within : goal.returns-in-Err-clause-within
returns-in-Err-clause-within g c = c.find_part-part.ensures.within

pub returns-in-Err-clause-some : goal.returns-in-Err-clause-some
returns-in-Err-clause-some g c = c.find_part-part.ensures.some

pub returns-clause-within : goal.returns-clause-within
returns-clause-within g c = c.find_part-part.ensures.within

pub returns-clause-some : goal.returns-clause-some
returns-clause-some g c = c.find_part-part.ensures.some
