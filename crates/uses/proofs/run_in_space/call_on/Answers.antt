use Rattle.std.proofs.Common.{rules, ◌≡◌, ◌∙◌, sym, ap, subst, subst₂}
use Rattle.x86_64_mappers.specs.Layouts.{direct_at}
use Rattle.x86_64_model.proofs.Lemmas.Machines.Giving.{giving_from}
use Rattle.x86_64_model.specs.Hierarchy.{◌laid_in◌}
use Rattle.x86_64_model.specs.Layout.{Layout}
use Rattle.x86_64_model.specs.Memory.{Memory}
use Rattle.x86_64_model.specs.Store.{Store, StoreFits}
use Rattle.x86_64.specs.Calls.{to_call}
use Rattle.x86_64.specs.Runs.{LeavesFree, Stepped}
use Rattle.x86_64.proofs.AskedCalls.{is_call}
use Rattle.uses.proofs.SpaceRuns.{after_call}
use Rattle.uses.proofs.run_in_space.call_on.Goals as goal

pub run_call-requires : goal.run_call-requires
run_call-requires g c =
    let store : Store = record {
      frames = g.F.FrameAllocator.supply c.args.frames.now;
      serves = g.F.FrameKeeper.serves c.args.frames.now;
      take_back = g.F.FrameDeallocator.take_back;
    } in
    subst₂ (λ (l : Layout) (m : Memory). StoreFits (l laid_in m) store) (sym c.new-mapper.ensures.layout)
    (sym c.new-mapper.ensures.memory) c.requires

pub returns-clause-step : goal.returns-clause-step
returns-clause-step g c =
    let one = direct_at g.L.LevelCount.LEVELS (g.P.PageTableFrameMapping.places c.args.mapping) c.args.root in
    let store : Store = record {
      frames = g.F.FrameAllocator.supply c.args.frames.now;
      serves = g.F.FrameKeeper.serves c.args.frames.now;
      take_back = g.F.FrameDeallocator.take_back;
    } in
    let call = to_call g.L.LevelCount.LEVELS g.P5.LevelFiveFlags.bits c.args.call in
    let rest = g.F.FrameAllocator.supply c.run_call.new.frames in
    let ran = c.run_call.ensures in
    let named = sym (ap (λ l. l.0.0) (ran.keeps.lent ∙ c.new-mapper.ensures.lent)) in
    let before = g.T.TableMemory.tables c.args.memory.now in
    let after = g.T.TableMemory.tables c.run_call.new.mapper.memory.now in
    subst (λ end. Stepped (one laid_in before) store call c.run_call.result (one laid_in g.T.TableMemory.tables end) rest) (sym (search
    (rules, named)))
    (subst (λ n. Stepped (one laid_in before) store call c.run_call.result (one laid_in n) rest) (sym c.drop-mapper.ensures.memory)
    (subst₂ (λ (l : Layout) (m : Memory). Stepped (l laid_in m) store call c.run_call.result (l laid_in after) rest) c.new-mapper.ensures.layout
    c.new-mapper.ensures.memory ran.step))

pub returns-clause-free : goal.returns-clause-free
returns-clause-free g c =
    let one = direct_at g.L.LevelCount.LEVELS (g.P.PageTableFrameMapping.places c.args.mapping) c.args.root in
    let store : Store = record {
      frames = g.F.FrameAllocator.supply c.args.frames.now;
      serves = g.F.FrameKeeper.serves c.args.frames.now;
      take_back = g.F.FrameDeallocator.take_back;
    } in
    let call = to_call g.L.LevelCount.LEVELS g.P5.LevelFiveFlags.bits c.args.call in
    let rest = g.F.FrameAllocator.supply c.run_call.new.frames in
    let ran = c.run_call.ensures in
    let named = sym (ap (λ l. l.0.0) (ran.keeps.lent ∙ c.new-mapper.ensures.lent)) in
    let before = g.T.TableMemory.tables c.args.memory.now in
    let after = g.T.TableMemory.tables c.run_call.new.mapper.memory.now in
    subst (λ end. LeavesFree (one laid_in before) store call (one laid_in g.T.TableMemory.tables end) rest) (sym (search (rules, named)))
    (subst (λ n. LeavesFree (one laid_in before) store call (one laid_in n) rest) (sym c.drop-mapper.ensures.memory)
    (subst₂ (λ (l : Layout) (m : Memory). LeavesFree (l laid_in m) store call (l laid_in after) rest) c.new-mapper.ensures.layout
    c.new-mapper.ensures.memory ran.free))

pub returns-clause-beside : goal.returns-clause-beside
returns-clause-beside g c =
    let levels = g.L.LevelCount.LEVELS in
    let high = g.L.LevelCount.at_least_four in
    let bits = g.P5.LevelFiveFlags.bits in
    after_call c.spaces_stay.ensures c.shared_halves_stay.ensures c.calls_keep_what_they_avoid.ensures c.calls_keep_root_entries.ensures
    levels high (g.P.PageTableFrameMapping.places c.args.mapping) (g.met.P.PageTableFrameMapping.is_mapping c.args.mapping) c.args.root
    g.F.FrameDeallocator.take_back (giving_from _ g.met.F.FrameDeallocator.take_back_rearranges) _ _ _ _ _ c.requires _ _ _ c.run_call.ensures.keeps.keeps
    (to_call levels bits c.args.call) (is_call levels high bits g.met.P5.LevelFiveFlags.five levels c.args.call) _ c.run_call.ensures.step
    c.new-mapper.ensures.layout c.new-mapper.ensures.memory (search rules)
