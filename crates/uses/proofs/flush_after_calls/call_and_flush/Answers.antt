use Rattle.std.proofs.Common.{◌≡◌, true, [], option_map, unwrap_or, sym, ◌∙◌, subst}
use Rattle.x86_64_model.specs.Hierarchy.{◌laid_in◌, PoolFits}
use Rattle.x86_64_model.specs.Window.{Window}
use Rattle.x86_64.specs.Calls.{to_call, page_of_call}
use Rattle.x86_64.specs.FlushesDue.{TellsFlush, executed}
use Rattle.x86_64.specs.Processors.{IsReachable, LeftBy}
use Rattle.x86_64.proofs.AskedCalls.{is_call}
use Rattle.x86_64.proofs.CallsFlushed.{arises_by_flushed_calls}
use Rattle.x86_64.proofs.Processors.{flushed_accesses_go}
use Rattle.uses.proofs.flush_after_calls.call_and_flush.Goals as goal

pub returns-clause-keeps : goal.returns-clause-keeps
returns-clause-keeps g c = c.run_call-reply.ensures.keeps

pub returns-clause-again : goal.returns-clause-again
returns-clause-again g c =
    let mapper = c.args.mapper.now in
    let l = (g.M.Tables.hierarchy mapper).layout in
    let m = (g.M.Tables.hierarchy mapper).memory in
    let n = (g.M.Tables.hierarchy c.run_call-reply.new.mapper).memory in
    let rest = g.F.FrameAllocator.supply c.run_call-reply.new.frames in
    let serves = g.F.FrameKeeper.serves c.args.frames.now in
    let take_back = g.F.FrameDeallocator.take_back in
    let levels : l.levels ≡ g.L.LevelCount.LEVELS = g.met.M.TablesIn.level_count mapper in
    let ran = c.run_call-reply.ensures in
    let call = to_call g.L.LevelCount.LEVELS g.P5.LevelFiveFlags.bits c.args.call in
    let flush = c.flush_after-flush.result in
    let before = g.C.Processor.cached c.args.processor.now in
    let first = g.C.Processor.cached c.cache.new.self in
    let second = g.C.Processor.cached c.cache-2.new.self in
    let after = g.C.Processor.cached c.execute.new.processor in
    let arises : IsReachable l take_back serves n rest after [] =
    arises_by_flushed_calls l take_back serves m n (g.F.FrameAllocator.supply c.args.frames.now) rest call c.run_call-reply.result true
    (is_call l.levels (g.met.M.Tables.at_least_four mapper) g.P5.LevelFiveFlags.bits (λ flags. levels ∙ g.met.P5.LevelFiveFlags.five flags) g.L.LevelCount.LEVELS c.args.call)
    c.requires.fits ran.step ran.free ran.keeps.keeps.fits (λ no. cc)
    flush (subst (λ L. TellsFlush L call c.run_call-reply.result (option_map (λ (w : Window). w.index) l.window) true flush) (sym levels) (rw (c.recursive_index.ensures, ran.keeps.layout) at c.flush_after-flush.ensures))
    before first second after c.requires.arises
    c.cache.ensures
    (rw ran.keeps.layout at c.cache-2.ensures)
    (subst (λ L. LeftBy L (executed flush (unwrap_or (page_of_call L call) 0)) second after) (sym levels) (rw c.page_start.ensures at c.execute.ensures)) in
    let next = g.M.Tables.hierarchy c.run_call-reply.new.mapper in
    let later = g.F.FrameKeeper.serves c.run_call-reply.new.frames in
    let fits : PoolFits (next.layout laid_in n) later rest = rw (ran.keeps.layout, ran.keeps.serves) ran.keeps.keeps.fits in
    let arises_then : IsReachable next.layout take_back later n rest after [] = rw (ran.keeps.layout, ran.keeps.serves) arises in
    record { fits = fits; arises = arises_then }

pub returns-clause-accesses : goal.returns-clause-accesses
returns-clause-accesses g c =
    let h = g.M.Tables.hierarchy c.run_call-reply.new.mapper in
    flushed_accesses_go h.layout g.F.FrameDeallocator.take_back (g.F.FrameKeeper.serves c.run_call-reply.new.frames) h.memory (g.F.FrameAllocator.supply c.run_call-reply.new.frames) (g.C.Processor.cached c.execute.new.processor)
    (returns-clause-again g c).arises
