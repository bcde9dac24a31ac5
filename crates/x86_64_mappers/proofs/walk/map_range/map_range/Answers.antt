use Rattle.std.proofs.Common.{◌≡◌, ◌<◌, ◌≤◌, ◌+◌, ◌-◌, ◌*◌, ◌^◌, [], ◌∷◌, ◌++◌, length, take, get_or, Ok, Err, sym, ap, ap₂, ◌∙◌, true, subst, subst₂, arith}
use Rattle.x86_64_model.specs.Allowed.{parents_present}
use Rattle.x86_64_model.specs.Call.{Answered}
use Rattle.x86_64_model.specs.Entry.{IsParentFlags}
use Rattle.x86_64_model.specs.Layout.{Layout}
use Rattle.x86_64_model.specs.Hierarchy.{◌laid_in◌, paths, SupplyFits}
use Rattle.x86_64_model.specs.Path.{path_at}
use Rattle.x86_64_model.specs.Position.{span}
use Rattle.x86_64_model.specs.Refusal.{Refused, PageAlreadyMapped}
use Rattle.x86_64_model.specs.Window.{begins_with}
use Rattle.x86_64_model.proofs.Lemmas.Machines.Effects.{map_may}
use Rattle.x86_64_model.proofs.Lemmas.Paths.Pages.{length_taken}
use Rattle.x86_64_tables.specs.MapperAnswers.{map_refusal}
use Rattle.x86_64_tables.specs.FlushRecorder.{FlushRange}
use Rattle.x86_64_mappers.specs.Ranges.{StopsAt, range_of, range_page, range_frame, accepted_maps}
use Rattle.x86_64_mappers.specs.private.OpenWay.{WillBePresent}
use Rattle.x86_64_mappers.specs.private.RangeSteps.{IsRangeRun, IsPart}
use Rattle.x86_64_mappers.specs.private.Results.{create_refusal}
use Rattle.x86_64_mappers.proofs.Map.OpenWays.{will_be_present}
use Rattle.x86_64_mappers.proofs.Range.Parts.{IsSetUp, pages_mapped, page_full, way_refused}
use Rattle.x86_64_mappers.proofs.Range.PartSizes.{later, page_there, few_left, part_inside, part_some, part_fits}
use Rattle.x86_64_mappers.proofs.Range.Runs.{ends_run}
use Rattle.x86_64_mappers.proofs.Way.Pages.{path_parted}
use Rattle.x86_64_mappers.proofs.walk.map_range.map_range.Goals as goal

pub map_part-requires-clause-marks : goal.map_part-requires-clause-marks
map_part-requires-clause-marks g c =
    let h = g.M.Tables.hierarchy c.args.mapper.now in
    (map_may h.layout.levels h.layout.window (paths h) _ c.args.flags.0 c.args.parent_flags.0 (c.requires.may.allowed c.parts.done c.parts-test.true)).marks

pub map_part-requires-clause-outside : goal.map_part-requires-clause-outside
map_part-requires-clause-outside g c =
    let h = g.M.Tables.hierarchy c.args.mapper.now in
    let l = h.layout in
    let level = g.S.PageSize.LEVEL in
    let done = c.parts.done in
    let inv = c.parts.invariant in
    let p = path_at l.levels level (c.args.page + done * span level) in
    let is_path : c.indices-indices.result.now ≡ p =
    c.indices-indices.ensures ∙ c.path_of_page-path.ensures.path ∙ ap₂ (λ (l : Layout) p. path_at l.levels level p) inv.layout (c.page_after.ensures ∙ ap (λ z. c.args.page + done * z) g.S.PageSize.size) in
    ap₂ (λ (l : Layout) q. begins_with l.window q) inv.layout is_path ∙ (map_may l.levels l.window (paths (l laid_in h.memory)) p c.args.flags.0 c.args.parent_flags.0 (c.requires.may.allowed done c.parts-test.true)).outside

pub map_part-requires-clause-present : goal.map_part-requires-clause-present
map_part-requires-clause-present g c =
    let s = c.args.mapper.now in
    let h = g.M.Tables.hierarchy s in
    let l = h.layout in
    let level = g.S.PageSize.LEVEL in
    let done = c.parts.done in
    let inv = c.parts.invariant in
    let now = g.M.Tables.hierarchy c.parts.mapper in
    let more = c.args.parent_flags.0 in
    let levels = g.met.M.Tables.at_least_four s in
    let high = g.S.PageSize.high in
    let low = g.S.PageSize.low in
    let q = c.indices-indices.result.now in
    let p = path_at l.levels level (c.args.page + done * span level) in
    let is_path : q ≡ p =
    c.indices-indices.ensures ∙ c.path_of_page-path.ensures.path ∙ ap₂ (λ (l : Layout) p. path_at l.levels level p) inv.layout (c.page_after.ensures ∙ ap (λ z. c.args.page + done * z) g.S.PageSize.size) in
    let allowed = inv.run.parents p (map_may l.levels l.window (paths (l laid_in h.memory)) p c.args.flags.0 more (c.requires.may.allowed done c.parts-test.true)).parents in
    let size : length p ≡ length p - 1 + 1 = (let long = length_taken (c.args.page + done * span level) (l.levels + 1 - level) l.levels (omega (arith, low)) in omega (arith, long, high, levels)) in
    let there = will_be_present (paths (l laid_in now.memory)) more (take (length p - 1) p) (get_or p (length p - 1) 0) (subst (λ q. parents_present (paths (l laid_in now.memory)) more q ≡ true) (sym (path_parted p (length p - 1) size)) allowed) in
    subst₂ (λ (l : Layout) q. WillBePresent (paths (l laid_in now.memory)) more (take (length q - 1) q)) (sym inv.layout) (sym is_path) there

pub map_part-requires-clause-frames : goal.map_part-requires-clause-frames
map_part-requires-clause-frames g c = λ k less.
    let size = g.S.PageSize.SIZE in
    let done = c.parts.done in
    let few = few_left done k c.args.count (512 - c.from-room.result) c.min-part.result c.parts-test.true c.min-part.ensures less in
    let there : c.args.frame + (done + k) * size < 2 ^ 52 = subst (λ z. c.args.frame + (done + k) * z < 2 ^ 52) (sym g.S.PageSize.size) (c.requires.may.frames (done + k) few) in
    subst (λ a. a < 2 ^ 52) (later c.args.frame done k size ∙ ap (λ a. a + k * size) (sym c.add-from.ensures)) there

pub add-requires : goal.add-requires
add-requires g c =
    let k = c.parts.done + c.in-Ok.mapped in
    let few = few_left c.parts.done c.in-Ok.mapped c.args.count (512 - c.from-room.result) c.min-part.result c.parts-test.true c.min-part.ensures c.if-mapped-part.true in
    subst (λ z. c.args.frame + k * z < 2 ^ 52) (sym g.S.PageSize.size) (c.requires.may.frames k few)

pub returns-then-mapped-part-clause-maps : goal.returns-then-mapped-part-clause-maps
returns-then-mapped-part-clause-maps g c =
    let s = c.args.mapper.now in
    let h = g.M.Tables.hierarchy s in
    let l = h.layout in
    let m = h.memory in
    let supply = g.A.FrameAllocator.supply c.args.frame_allocator.now in
    let level = g.S.PageSize.LEVEL in
    let r = range_of level c.args.page c.args.frame c.args.flags.0 c.args.parent_flags.0 in
    let total = c.args.count in
    let done = c.parts.done in
    let inv = c.parts.invariant in
    let levels = g.met.M.Tables.at_least_four s in
    let high = g.S.PageSize.high in
    let low = g.S.PageSize.low in
    let allowed = c.requires.may.allowed in
    let marks : IsParentFlags r.parent_flags = (map_may l.levels l.window (paths (l laid_in m)) _ r.flags r.parent_flags (allowed done c.parts-test.true)).marks in
    let given : IsSetUp l m r total = record { apart = (g.met.M.Tables.is_mapping s).distinct; adds = (g.M.Tables.added_flags s).adds; marks = marks; low = low; high = high; levels = levels; allowed = allowed } in
    let now = (g.M.Tables.hierarchy c.parts.mapper).memory in
    let left = g.A.FrameAllocator.supply c.parts.frame_allocator in
    let after = g.M.Tables.hierarchy c.map_part.new.mapper in
    let rest = g.A.FrameAllocator.supply c.map_part.new.frame_allocator in
    let q = c.indices-indices.result.now in
    let is_path : q ≡ path_at l.levels level (range_page r done) =
    c.indices-indices.ensures ∙ c.path_of_page-path.ensures.path ∙ ap₂ (λ (l : Layout) p. path_at l.levels level p) inv.layout (c.page_after.ensures ∙ ap (λ z. c.args.page + done * z) g.S.PageSize.size) in
    let a = c.add-from.result in
    let is_frame : a ≡ range_frame r done = c.add-from.ensures ∙ ap (λ z. c.args.frame + done * z) g.S.PageSize.size in
    let count = c.min-part.result in
    let long : length q ≡ l.levels + 1 - level = ap length is_path ∙ length_taken (range_page r done) (l.levels + 1 - level) l.levels (omega (arith, low)) in
    let fits = part_fits q l.levels level c.index-indices-indices.result c.from-room.result (total - done) count long high levels c.index-indices-indices.is c.from-room.ensures.0 c.min-part.ensures c.from-room.ensures.1 in
    let inside = part_inside done total (512 - c.from-room.result) count c.parts-test.true c.min-part.ensures in
    let some = part_some done total c.from-room.result count c.parts-test.true c.from-room.ensures.1 c.min-part.ensures in
    let n = c.in-Ok.mapped in
    let part : IsPart l now left r.parent_flags (take (length q - 1) q) level (get_or q (length q - 1) 0) a r.flags count (Ok n) after.memory rest =
    subst (λ (l : Layout). IsPart l now left r.parent_flags (take (length q - 1) q) level (get_or q (length q - 1) 0) a r.flags count (Ok n) after.memory rest) inv.layout c.in-Ok.ensures.maps.part in
    let frame : c.add.result ≡ range_frame r (done + n) = c.add.ensures ∙ ap (λ z. c.args.frame + (done + n) * z) g.S.PageSize.size in
    let counted : c.new-mapped.result.count ≡ done + n = ap (λ (range : FlushRange). range.count) c.new-mapped.ensures in
    record {
      maps = subst (λ k. StopsAt h supply r total k (PageAlreadyMapped c.add.result) after rest) (sym counted) (
        few_left done n total (512 - c.from-room.result) count c.parts-test.true c.min-part.ensures c.if-mapped-part.true,
        ends_run h supply r (done + n + 1) (accepted_maps r (done + n) ++ Answered (Refused (PageAlreadyMapped c.add.result)) ∷ []) after rest (c.map_part.ensures.layout ∙ inv.layout) (c.map_part.ensures.lent ∙ inv.lent)
            (subst (λ f. IsRangeRun l m supply r (done + n + 1) (accepted_maps r (done + n) ++ Answered (Refused (PageAlreadyMapped f)) ∷ []) after.memory rest) (sym frame)
            (page_full l m supply r total given done now left inv.run q is_path a is_frame count fits inside after.memory rest n c.if-mapped-part.true part)),
      );
      serves = c.map_part.ensures.maps.serves ∙ inv.serves;
    }

pub parts-preserved : goal.parts-preserved
parts-preserved g c =
    let s = c.args.mapper.now in
    let h = g.M.Tables.hierarchy s in
    let l = h.layout in
    let m = h.memory in
    let supply = g.A.FrameAllocator.supply c.args.frame_allocator.now in
    let level = g.S.PageSize.LEVEL in
    let r = range_of level c.args.page c.args.frame c.args.flags.0 c.args.parent_flags.0 in
    let total = c.args.count in
    let done = c.parts.done in
    let inv = c.parts.invariant in
    let levels = g.met.M.Tables.at_least_four s in
    let high = g.S.PageSize.high in
    let low = g.S.PageSize.low in
    let allowed = c.requires.may.allowed in
    let marks : IsParentFlags r.parent_flags = (map_may l.levels l.window (paths (l laid_in m)) _ r.flags r.parent_flags (allowed done c.parts-test.true)).marks in
    let given : IsSetUp l m r total = record { apart = (g.met.M.Tables.is_mapping s).distinct; adds = (g.M.Tables.added_flags s).adds; marks = marks; low = low; high = high; levels = levels; allowed = allowed } in
    let now = (g.M.Tables.hierarchy c.parts.mapper).memory in
    let left = g.A.FrameAllocator.supply c.parts.frame_allocator in
    let after = g.M.Tables.hierarchy c.map_part.new.mapper in
    let rest = g.A.FrameAllocator.supply c.map_part.new.frame_allocator in
    let q = c.indices-indices.result.now in
    let is_path : q ≡ path_at l.levels level (range_page r done) =
    c.indices-indices.ensures ∙ c.path_of_page-path.ensures.path ∙ ap₂ (λ (l : Layout) p. path_at l.levels level p) inv.layout (c.page_after.ensures ∙ ap (λ z. c.args.page + done * z) g.S.PageSize.size) in
    let a = c.add-from.result in
    let is_frame : a ≡ range_frame r done = c.add-from.ensures ∙ ap (λ z. c.args.frame + done * z) g.S.PageSize.size in
    let count = c.min-part.result in
    let long : length q ≡ l.levels + 1 - level = ap length is_path ∙ length_taken (range_page r done) (l.levels + 1 - level) l.levels (omega (arith, low)) in
    let fits = part_fits q l.levels level c.index-indices-indices.result c.from-room.result (total - done) count long high levels c.index-indices-indices.is c.from-room.ensures.0 c.min-part.ensures c.from-room.ensures.1 in
    let inside = part_inside done total (512 - c.from-room.result) count c.parts-test.true c.min-part.ensures in
    let some = part_some done total c.from-room.result count c.parts-test.true c.from-room.ensures.1 c.min-part.ensures in
    let n = c.in-Ok.mapped in
    let most : n ≤ count = c.in-Ok.ensures.within in
    let all : count ≤ n = c.if-mapped-part.false in
    let part : IsPart l now left r.parent_flags (take (length q - 1) q) level (get_or q (length q - 1) 0) a r.flags count (Ok n) after.memory rest =
    subst (λ (l : Layout). IsPart l now left r.parent_flags (take (length q - 1) q) level (get_or q (length q - 1) 0) a r.flags count (Ok n) after.memory rest) inv.layout c.in-Ok.ensures.maps.part in record {
      run = pages_mapped l m supply r total given done now left inv.run q is_path a is_frame count fits inside after.memory rest n (omega (arith, some, all)) most part;
      within = omega (arith, inside, most);
      layout = c.map_part.ensures.layout ∙ inv.layout;
      lent = c.map_part.ensures.lent ∙ inv.lent;
      serves = c.map_part.ensures.maps.serves ∙ inv.serves;
    }

pub returns-in-Err-clause-maps : goal.returns-in-Err-clause-maps
returns-in-Err-clause-maps g c =
    let s = c.args.mapper.now in
    let h = g.M.Tables.hierarchy s in
    let l = h.layout in
    let m = h.memory in
    let supply = g.A.FrameAllocator.supply c.args.frame_allocator.now in
    let level = g.S.PageSize.LEVEL in
    let r = range_of level c.args.page c.args.frame c.args.flags.0 c.args.parent_flags.0 in
    let total = c.args.count in
    let done = c.parts.done in
    let inv = c.parts.invariant in
    let levels = g.met.M.Tables.at_least_four s in
    let high = g.S.PageSize.high in
    let low = g.S.PageSize.low in
    let allowed = c.requires.may.allowed in
    let marks : IsParentFlags r.parent_flags = (map_may l.levels l.window (paths (l laid_in m)) _ r.flags r.parent_flags (allowed done c.parts-test.true)).marks in
    let given : IsSetUp l m r total = record { apart = (g.met.M.Tables.is_mapping s).distinct; adds = (g.M.Tables.added_flags s).adds; marks = marks; low = low; high = high; levels = levels; allowed = allowed } in
    let now = (g.M.Tables.hierarchy c.parts.mapper).memory in
    let left = g.A.FrameAllocator.supply c.parts.frame_allocator in
    let after = g.M.Tables.hierarchy c.map_part.new.mapper in
    let rest = g.A.FrameAllocator.supply c.map_part.new.frame_allocator in
    let q = c.indices-indices.result.now in
    let is_path : q ≡ path_at l.levels level (range_page r done) =
    c.indices-indices.ensures ∙ c.path_of_page-path.ensures.path ∙ ap₂ (λ (l : Layout) p. path_at l.levels level p) inv.layout (c.page_after.ensures ∙ ap (λ z. c.args.page + done * z) g.S.PageSize.size) in
    let a = c.add-from.result in
    let is_frame : a ≡ range_frame r done = c.add-from.ensures ∙ ap (λ z. c.args.frame + done * z) g.S.PageSize.size in
    let count = c.min-part.result in
    let long : length q ≡ l.levels + 1 - level = ap length is_path ∙ length_taken (range_page r done) (l.levels + 1 - level) l.levels (omega (arith, low)) in
    let fits = part_fits q l.levels level c.index-indices-indices.result c.from-room.result (total - done) count long high levels c.index-indices-indices.is c.from-room.ensures.0 c.min-part.ensures c.from-room.ensures.1 in
    let inside = part_inside done total (512 - c.from-room.result) count c.parts-test.true c.min-part.ensures in
    let some = part_some done total c.from-room.result count c.parts-test.true c.from-room.ensures.1 c.min-part.ensures in
    let why = create_refusal c.in-Err.why in
    let part : IsPart l now left r.parent_flags (take (length q - 1) q) level (get_or q (length q - 1) 0) a r.flags count (Err why) after.memory rest =
    subst (λ (l : Layout). IsPart l now left r.parent_flags (take (length q - 1) q) level (get_or q (length q - 1) 0) a r.flags count (Err why) after.memory rest) inv.layout c.in-Err.ensures.maps.part in
    let counted : c.new-mapped-in-Err.result.count ≡ done = ap (λ (range : FlushRange). range.count) c.new-mapped-in-Err.ensures in
    record {
      maps = subst (λ k. StopsAt h supply r total k (map_refusal c.into-why.result) after rest) (sym counted) (
        c.parts-test.true,
        ends_run h supply r (done + 1) (accepted_maps r done ++ Answered (Refused (map_refusal c.into-why.result)) ∷ []) after rest (c.map_part.ensures.layout ∙ inv.layout) (c.map_part.ensures.lent ∙ inv.lent)
            (subst (λ w. IsRangeRun l m supply r (done + 1) (accepted_maps r done ++ Answered (Refused w) ∷ []) after.memory rest) (sym c.into-why.ensures)
            (way_refused l m supply r total given done now left inv.run q is_path a is_frame count fits inside after.memory rest why some part)),
      );
      serves = c.map_part.ensures.maps.serves ∙ inv.serves;
    }

pub new-mapped-requires : goal.new-mapped-requires
new-mapped-requires g c = λ k less. page_there (g.M.Tables.hierarchy c.args.mapper.now).layout.levels g.L.LevelCount.LEVELS g.S.PageSize.LEVEL g.S.PageSize.SIZE c.args.page k g.S.PageSize.size
    (g.met.M.TablesIn.level_count c.args.mapper.now)
    (c.requires.may.pages k (let few = few_left c.parts.done c.in-Ok.mapped c.args.count (512 - c.from-room.result) c.min-part.result c.parts-test.true c.min-part.ensures c.if-mapped-part.true in omega (arith, less, few)))

pub new-mapped-requires-in-Err : goal.new-mapped-requires-in-Err
new-mapped-requires-in-Err g c = λ k less. page_there (g.M.Tables.hierarchy c.args.mapper.now).layout.levels g.L.LevelCount.LEVELS g.S.PageSize.LEVEL g.S.PageSize.SIZE c.args.page k g.S.PageSize.size
    (g.met.M.TablesIn.level_count c.args.mapper.now) (c.requires.may.pages k (let before = c.parts-test.true in omega (arith, less, before)))

pub returns-clause-maps : goal.returns-clause-maps
returns-clause-maps g c =
    let h = g.M.Tables.hierarchy c.args.mapper.now in
    let supply = g.A.FrameAllocator.supply c.args.frame_allocator.now in
    let r = range_of g.S.PageSize.LEVEL c.args.page c.args.frame c.args.flags.0 c.args.parent_flags.0 in
    let inv = c.parts.invariant in
    let after = g.M.Tables.hierarchy c.parts.mapper in
    let rest = g.A.FrameAllocator.supply c.parts.frame_allocator in
    let all : c.parts.done ≡ c.args.count = (let most = inv.within in let least = c.parts-test.false in omega (arith, most, least)) in
    record {
      maps = ends_run h supply r c.args.count (accepted_maps r c.args.count) after rest inv.layout inv.lent (subst (λ k. IsRangeRun h.layout h.memory supply r k (accepted_maps r k) after.memory rest) all inv.run);
      serves = inv.serves;
    }

pub page_after-requires : goal.page_after-requires
page_after-requires g c = page_there (g.M.Tables.hierarchy c.args.mapper.now).layout.levels g.L.LevelCount.LEVELS g.S.PageSize.LEVEL g.S.PageSize.SIZE c.args.page c.parts.done g.S.PageSize.size
    (g.met.M.TablesIn.level_count c.args.mapper.now) (c.requires.may.pages c.parts.done c.parts-test.true)

pub overflow_sub-indices : goal.overflow_sub-indices
overflow_sub-indices g c = omega (arith, ap length c.indices-indices.ensures, c.path_of_page-path.ensures.levels, g.met.M.Tables.at_least_four c.parts.mapper, g.S.PageSize.high)

pub offset_bounds-indices-indices : goal.offset_bounds-indices-indices
offset_bounds-indices-indices g c = omega (arith, c.indices-indices.type_inv.1)

pub bounds-indices-indices : goal.bounds-indices-indices
bounds-indices-indices g c = omega (arith, ap length c.indices-indices.ensures, c.path_of_page-path.ensures.levels, g.met.M.Tables.at_least_four c.parts.mapper, g.S.PageSize.high)

pub add-from-requires : goal.add-from-requires
add-from-requires g c = subst (λ z. c.args.frame + c.parts.done * z < 2 ^ 52) (sym g.S.PageSize.size) (c.requires.may.frames c.parts.done c.parts-test.true)

pub map_part-requires-clause-levels : goal.map_part-requires-clause-levels
map_part-requires-clause-levels g c = omega (arith, ap length c.indices-indices.ensures, c.path_of_page-path.ensures.levels)

pub map_part-requires-clause-ready : goal.map_part-requires-clause-ready
map_part-requires-clause-ready g c = subst (λ (l : Layout). SupplyFits (l laid_in (g.M.Tables.hierarchy c.parts.mapper).memory) (g.A.FrameAllocator.supply c.parts.frame_allocator)) (sym c.parts.invariant.layout) c.parts.invariant.run.owned.ready

pub map_part-requires-clause-within : goal.map_part-requires-clause-within
map_part-requires-clause-within g c =
    let q = c.indices-indices.result.now in
    let levels = (g.M.Tables.hierarchy c.parts.mapper).layout.levels in
    let long : length q ≡ levels + 1 - g.S.PageSize.LEVEL = omega (arith, ap length c.indices-indices.ensures, c.path_of_page-path.ensures.levels) in
    part_fits q levels g.S.PageSize.LEVEL c.index-indices-indices.result c.from-room.result (c.args.count - c.parts.done) c.min-part.result long g.S.PageSize.high (g.met.M.Tables.at_least_four c.parts.mapper) c.index-indices-indices.is c.from-room.ensures.0 c.min-part.ensures c.from-room.ensures.1

pub new-requires : goal.new-requires
new-requires g c = λ k less. page_there (g.M.Tables.hierarchy c.args.mapper.now).layout.levels g.L.LevelCount.LEVELS g.S.PageSize.LEVEL g.S.PageSize.SIZE c.args.page k g.S.PageSize.size
    (g.met.M.TablesIn.level_count c.args.mapper.now) (c.requires.may.pages k less)
