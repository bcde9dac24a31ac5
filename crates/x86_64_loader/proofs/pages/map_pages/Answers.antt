use Rattle.std.proofs.Common.{◌≡◌, ◌<◌, ◌+◌, ◌*◌, ◌%◌, ◌^◌, ◌∙◌, ℕ, ap, sym, subst, rules}
use Rattle.x86_64_model.specs.MapRule.{parent_part}
use Rattle.x86_64_model.specs.Position.{span}
use Rattle.x86_64_tables.specs.MapperAnswers.{map_refusal}
use Rattle.x86_64_mappers.specs.Ranges.{MapsAll, StopsAt, range_of}
use Rattle.x86_64_loader.specs.private.Loads.{AreMapped, IsStopped}
use Rattle.x86_64_loader.proofs.Made.{supplied}
use Rattle.x86_64_loader.proofs.MappedRanges.{all_mapped, may_map, some_mapped}
use Rattle.x86_64_loader.proofs.pages.map_pages.Goals as goal

pub map_range-requires-clause-may : goal.map_range-requires-clause-may
map_range-requires-clause-may g c =
    may_map (g.M.Tables.hierarchy c.args.mapper.now) (g.met.M.TablesIn.level_count c.args.mapper.now) g.S.PageSize.LEVEL g.S.PageSize.SIZE c.args.page c.args.frame c.args.flags.0 c.parent_flags-parent_flags.result.0 c.args.count
    g.S.PageSize.size c.parent_flags-parent_flags.ensures c.requires.may

pub returns-in-Ok : goal.returns-in-Ok
returns-in-Ok g c =
    let s = c.args.mapper.now in
    let h = g.M.Tables.hierarchy s in
    let supply = supplied g.A.FrameAllocator.supply g.A.FrameKeeper.serves c.args.frames.now in
    let level = g.S.PageSize.LEVEL in
    let page = c.args.page in
    let frame = c.args.frame in
    let given = c.args.flags.0 in
    let count = c.args.count in
    let after = g.M.Tables.hierarchy c.map_range.new.self in
    let rest = supplied g.A.FrameAllocator.supply g.A.FrameKeeper.serves c.map_range.new.frame_allocator in
    let page_aligned : page % g.S.PageSize.SIZE ≡ 0 = search rules in
    let frame_aligned : frame % g.S.PageSize.SIZE ≡ 0 = search rules in
    let frames : (k : ℕ) → k < count → frame + k * span level < 2 ^ 52 = λ k less. subst (λ z. frame + k * z < 2 ^ 52) g.S.PageSize.size (c.requires.may k less).frame_there in
    let maps : MapsAll h supply.frames (range_of level page frame given (parent_part given)) count after rest.frames =
    subst (λ more. MapsAll h supply.frames (range_of level page frame given more) count after rest.frames) c.parent_flags-parent_flags.ensures c.in-Ok.ensures.maps.maps in
    let mapped = subst (λ z. AreMapped h supply level z page frame given count after rest) (sym g.S.PageSize.size)
    (all_mapped h supply level page frame given g.S.PageSize.low g.S.PageSize.high (g.met.M.Tables.at_least_four s) (g.M.Tables.added_flags s).adds (g.met.M.Tables.is_mapping s) c.requires.is_present
    (ap (λ z. page % z) (sym g.S.PageSize.size) ∙ page_aligned) (ap (λ z. frame % z) (sym g.S.PageSize.size) ∙ frame_aligned) c.requires.fits count frames after rest maps c.in-Ok.ensures.maps.serves) in record {
      mapped = mapped;
      stopped = tt;
      page_aligned = page_aligned;
      frame_aligned = frame_aligned;
    }

pub returns-in-Err-clause-stopped : goal.returns-in-Err-clause-stopped
returns-in-Err-clause-stopped g c =
    let s = c.args.mapper.now in
    let h = g.M.Tables.hierarchy s in
    let supply = supplied g.A.FrameAllocator.supply g.A.FrameKeeper.serves c.args.frames.now in
    let level = g.S.PageSize.LEVEL in
    let page = c.args.page in
    let frame = c.args.frame in
    let given = c.args.flags.0 in
    let count = c.args.count in
    let after = g.M.Tables.hierarchy c.map_range.new.self in
    let rest = supplied g.A.FrameAllocator.supply g.A.FrameKeeper.serves c.map_range.new.frame_allocator in
    let page_aligned : page % g.S.PageSize.SIZE ≡ 0 = search rules in
    let frame_aligned : frame % g.S.PageSize.SIZE ≡ 0 = search rules in
    let frames : (k : ℕ) → k < count → frame + k * span level < 2 ^ 52 = λ k less. subst (λ z. frame + k * z < 2 ^ 52) g.S.PageSize.size (c.requires.may k less).frame_there in
    let done = c.count-count.result in
    let why = c.in-Err.error.why in
    let stops : StopsAt h supply.frames (range_of level page frame given (parent_part given)) count c.in-Err.error.mapped.count (map_refusal why) after rest.frames =
    subst (λ more. StopsAt h supply.frames (range_of level page frame given more) count c.in-Err.error.mapped.count (map_refusal why) after rest.frames) c.parent_flags-parent_flags.ensures c.in-Err.ensures.maps.maps in
    subst (λ z. IsStopped h supply level z page frame given count done (map_refusal why) after rest) (sym g.S.PageSize.size)
    (some_mapped h supply level page frame given g.S.PageSize.low g.S.PageSize.high (g.met.M.Tables.at_least_four s) (g.M.Tables.added_flags s).adds (g.met.M.Tables.is_mapping s) c.requires.is_present
    (ap (λ z. page % z) (sym g.S.PageSize.size) ∙ page_aligned) (ap (λ z. frame % z) (sym g.S.PageSize.size) ∙ frame_aligned) c.requires.fits count done why frames after rest
    (subst (λ n. StopsAt h supply.frames (range_of level page frame given (parent_part given)) count n (map_refusal why) after rest.frames) (sym c.count-count.ensures) stops) c.in-Err.ensures.maps.serves)
