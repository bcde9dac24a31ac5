use Rattle.std.proofs.Common.{◌≡◌, ℕ, ◌<◌, ◌%◌, flat_map, take, get_or}
use Rattle.x86_64_loader.specs.private.Loads.{HoldsSegment, pages_by}
use Rattle.x86_64_loader.specs.Maps.{Accepts}
use Rattle.x86_64_loader.specs.Pages.{LeavesSupply}
use Rattle.x86_64_loader.specs.Segments.{AllStand, SegmentsAreApart}
use Rattle.x86_64_loader.specs.declared.segment.Segment.{Segment}
use Rattle.x86_64_loader.proofs.Made.{supplied}
use Rattle.x86_64_loader.proofs.loader.load_each.Given as goal

abbrev pub invariant-loop-index : goal.invariant-loop-index
invariant-loop-index g l =
    let h = g.M.Tables.hierarchy l.fn.mapper in
    let supply = supplied g.A.FrameAllocator.supply g.A.FrameKeeper.serves l.fn.frames in
    let now = g.M.Tables.hierarchy l.mapper in
    let rest = supplied g.A.FrameAllocator.supply g.A.FrameKeeper.serves l.frames in
    record {
      held : (j : ℕ) (d : Segment) → j < l.index → HoldsSegment now (get_or l.segments j d);
      stand : (j : ℕ) (d : Segment) → j < l.index → AllStand now (pages_by l.sizes (get_or l.segments j d));
      aligned : (j : ℕ) (d : Segment) → j < l.index → (get_or l.segments j d).page % 0x1000 ≡ 0;
      apart : SegmentsAreApart l.segments l.index;
      leaves : LeavesSupply 3 h supply now rest;
      accepted : Accepts h supply.frames (flat_map (pages_by l.sizes) (take l.index l.segments)) now rest.frames;
    }
