use Rattle.std.proofs.Common.{◌≡◌, ◌%◌, flat_map, take, get_or, refl, sym, subst, arith}
use Rattle.std.proofs.lemmas.List.{take_all}
use Rattle.x86_64_loader.specs.private.Loads.{pages_by}
use Rattle.x86_64_loader.specs.Maps.{Accepts}
use Rattle.x86_64_loader.specs.Segments.{AllStand}
use Rattle.x86_64_loader.specs.declared.segment.LoadError.{LoadError}
use Rattle.x86_64_loader.proofs.Made.{accepts_none, accepts_then, kept_none, supplied}
use Rattle.x86_64_loader.proofs.Runs.{kept_then, leaves_then, still_stand}
use Rattle.x86_64_loader.proofs.Segments.{allowed_at, apart_next, held_is_loaded, held_next, next_too, pages_next, refused_here, still_allowed}
use Rattle.x86_64_loader.proofs.Succeeding.{cannot_be_refused}
use Rattle.x86_64_loader.proofs.loader.load_each.Goals as goal

pub loop-index-init : goal.loop-index-init
loop-index-init g c =
    let h = g.M.Tables.hierarchy c.args.mapper.now in
    let supply = supplied g.A.FrameAllocator.supply g.A.FrameKeeper.serves c.args.frames.now in
    record {
      held = λ j d before. absurd (omega (arith, before));
      stand = λ j d before. absurd (omega (arith, before));
      aligned = λ j d before. absurd (omega (arith, before));
      apart = λ i j d less within. absurd (omega (arith, within));
      leaves = record { kept = kept_none h supply c.requires.fits; pages = λ l q f given up stands. stands };
      accepted = accepts_none h supply.frames;
    }

pub load_segment-requires-clause-allowed : goal.load_segment-requires-clause-allowed
load_segment-requires-clause-allowed g c =
    let h = g.M.Tables.hierarchy c.args.mapper.now in
    let s = c.index-segments-index.result in
    still_allowed h (g.M.Tables.hierarchy c.loop-index.mapper) (supplied g.A.FrameAllocator.supply g.A.FrameKeeper.serves c.loop-index.frames) s c.loop-index.invariant.leaves
    (allowed_at c.args.segments.now c.loop-index.index s c.loop-index-test.true c.index-segments-index.is h c.requires.allowed)

pub returns-in-Err : goal.returns-in-Err
returns-in-Err g c =
    let h = g.M.Tables.hierarchy c.args.mapper.now in
    let supply = supplied g.A.FrameAllocator.supply g.A.FrameKeeper.serves c.args.frames.now in
    let now = g.M.Tables.hierarchy c.loop-index.mapper in
    let between = supplied g.A.FrameAllocator.supply g.A.FrameKeeper.serves c.loop-index.frames in
    let after = g.M.Tables.hierarchy c.load_segment.new.mapper in
    let rest = supplied g.A.FrameAllocator.supply g.A.FrameKeeper.serves c.load_segment.new.frames in
    let segments = c.args.segments.now in
    let i = c.loop-index.index in
    let s = c.index-segments-index.result in
    let here = c.loop-index-test.true in
    let item = c.index-segments-index.is in
    let inv = c.loop-index.invariant in
    let cut = pages_by c.args.sizes in
    let error : LoadError = record { segment = i; page = c.page_after.result; mapped = c.in-Err.stopped.mapped; why = c.in-Err.stopped.why } in
    let refused = refused_here segments i s here item now after rest inv.held cut h supply between error inv.leaves refl c.page_after.ensures inv.accepted c.in-Err.ensures.loads in
    record {
      accepted = tt;
      loaded = tt;
      disjoint = tt;
      refused = refused;
      succeeds = λ suffices. absurd (cannot_be_refused h supply.frames c.args.sizes segments (g.met.M.TablesIn.level_count c.args.mapper.now) (g.M.Tables.added_flags c.args.mapper.now).adds c.requires.fits c.requires.allowed suffices
          error after rest.frames (next_too segments i s here item (λ t. t.page % 0x1000 ≡ 0) inv.aligned c.in-Err.ensures.aligned) refused);
      kept = kept_then h now after between rest inv.leaves.kept c.in-Err.ensures.loads.kept;
    }

pub loop-index-preserved : goal.loop-index-preserved
loop-index-preserved g c =
    let h = g.M.Tables.hierarchy c.args.mapper.now in
    let supply = supplied g.A.FrameAllocator.supply g.A.FrameKeeper.serves c.args.frames.now in
    let now = g.M.Tables.hierarchy c.loop-index.mapper in
    let between = supplied g.A.FrameAllocator.supply g.A.FrameKeeper.serves c.loop-index.frames in
    let after = g.M.Tables.hierarchy c.load_segment.new.mapper in
    let rest = supplied g.A.FrameAllocator.supply g.A.FrameKeeper.serves c.load_segment.new.frames in
    let segments = c.args.segments.now in
    let s = c.index-segments-index.result in
    let i = c.loop-index.index in
    let here = c.loop-index-test.true in
    let item = c.index-segments-index.is in
    let inv = c.loop-index.invariant in
    let done = c.in_default.ensures.loads in
    let cut = pages_by c.args.sizes in
    record {
      held = held_next segments i s here item now after rest inv.held done.leaves (λ o starts ends. done.held o starts (omega (arith, ends)));
      stand = next_too segments i s here item (λ t. AllStand after (cut t)) (λ j d before. still_stand now after between rest done.leaves (cut (get_or segments j d)) (inv.stand j d before)) done.stand;
      aligned = next_too segments i s here item (λ t. t.page % 0x1000 ≡ 0) inv.aligned c.in_default.ensures.aligned;
      apart = apart_next segments i s here item now after rest inv.held inv.apart
          (λ l q f g multiple stands p starts ends. done.were_free l q f g multiple stands p (omega (arith, starts)) (omega (arith, ends)));
      leaves = leaves_then h now after between rest 3 3 3 (omega arith) (omega arith) inv.leaves done.leaves;
      accepted = subst (λ pages. Accepts h supply.frames pages after rest.frames) (sym (pages_next segments i s here item cut))
          (accepts_then h now after supply.frames between.frames rest.frames (flat_map cut (take i segments)) (cut s) inv.leaves.kept.layout inv.accepted done.accepted);
    }

pub returns : goal.returns
returns g c =
    let h = g.M.Tables.hierarchy c.args.mapper.now in
    let now = g.M.Tables.hierarchy c.loop-index.mapper in
    let segments = c.args.segments.now in
    let inv = c.loop-index.invariant in
    let cut = pages_by c.args.sizes in
    record {
      accepted = subst (λ these. Accepts h (g.A.FrameAllocator.supply c.args.frames.now) (flat_map cut these) now (g.A.FrameAllocator.supply c.loop-index.frames)) (take_all c.loop-index.index segments (omega arith)) inv.accepted;
      loaded = λ k d within. held_is_loaded cut now h _ inv.leaves.kept.fits.valid (inv.aligned k d (omega arith)) (c.requires.allowed k d within) (inv.stand k d (omega arith)) (inv.held k d (omega arith));
      disjoint = λ i j d less within. inv.apart i j d less (omega arith);
      refused = tt;
      succeeds = λ suffices. refl;
      kept = inv.leaves.kept;
    }
