use Rattle.std.proofs.Common.{rules, ◌∙◌, sym, ap, subst}
use Rattle.std.proofs.lemmas.Result.{on_err_weaker, on_ok_weaker}
use Rattle.x86_64_mappers.specs.Layouts.{direct_at}
use Rattle.x86_64_model.proofs.Lemmas.Machines.Giving.{giving_from}
use Rattle.x86_64_model.specs.Hierarchy.{◌laid_in◌}
use Rattle.x86_64_model.specs.Layout.{Layout}
use Rattle.x86_64_model.specs.Memory.{Memory}
use Rattle.x86_64_model.specs.Store.{Store, StoreFits}
use Rattle.x86_64.specs.Calls.{to_call}
use Rattle.x86_64.specs.Runs.{Ran}
use Rattle.x86_64.proofs.AskedCalls.{is_call, are_calls}
use Rattle.x86_64.proofs.Moved.{moved}
use Rattle.uses.proofs.SpaceRuns.{after_calls}
use Rattle.uses.proofs.run_in_space.run_on.Goals as goal

pub run-requires : goal.run-requires
run-requires g c =
    let store : Store = record {
      frames = g.F.FrameAllocator.supply c.args.frames.now;
      serves = g.F.FrameKeeper.serves c.args.frames.now;
      take_back = g.F.FrameDeallocator.take_back;
    } in
    subst (λ (l : Layout). StoreFits (l laid_in g.T.TableMemory.tables c.new-mapper.result.memory.now) store) (sym c.new-mapper.ensures.layout)
    (subst (λ (m : Memory). StoreFits (direct_at g.L.LevelCount.LEVELS (g.P.PageTableFrameMapping.places c.args.mapping) c.args.root laid_in m) store)
    (sym c.new-mapper.ensures.memory) c.requires)

pub returns-clause-ran : goal.returns-clause-ran
returns-clause-ran g c =
    let one = direct_at g.L.LevelCount.LEVELS (g.P.PageTableFrameMapping.places c.args.mapping) c.args.root in
    let store : Store = record {
      frames = g.F.FrameAllocator.supply c.args.frames.now;
      serves = g.F.FrameKeeper.serves c.args.frames.now;
      take_back = g.F.FrameDeallocator.take_back;
    } in
    let asks = to_call g.L.LevelCount.LEVELS g.P5.LevelFiveFlags.bits in
    let rest = g.F.FrameAllocator.supply c.run.new.frames in
    let calls = c.args.calls.now in
    let replies = c.args.replies.now.items in
    let now = c.run.new.replies.items in
    let named = sym (ap (λ l. l.0.0) (c.run.ensures.keeps.lent ∙ c.new-mapper.ensures.lent)) in
    let before = g.T.TableMemory.tables c.args.memory.now in
    let after = g.T.TableMemory.tables c.run.new.mapper.memory.now in
    on_ok_weaker c.run.result
    (λ ran. subst (λ end. Ran asks (one laid_in before) store calls replies now (one laid_in g.T.TableMemory.tables end) rest) (sym (search
    (rules, named)))
    (moved (λ l m n. Ran asks (l laid_in m) store calls replies now (l laid_in n) rest) _ one _ before after _ c.new-mapper.ensures.layout
    c.new-mapper.ensures.memory c.drop-mapper.ensures.memory
    (record { replies = ran.replies; one_each = ran.one_each; refused = ran.refused; state = ran.state; free = ran.free })))
    c.run.ensures.ran

pub returns-clause-refused : goal.returns-clause-refused
returns-clause-refused g c =
    on_err_weaker c.run.result
    (λ same. (
      search rules ∙ c.drop-mapper.ensures.memory ∙ ap (λ mapper. g.T.TableMemory.tables mapper.memory.now) same.2 ∙
          c.new-mapper.ensures.memory,
      same.3,
    ))
    c.run.ensures.unchanged

pub returns-clause-beside : goal.returns-clause-beside
returns-clause-beside g c =
    let levels = g.L.LevelCount.LEVELS in
    let high = g.L.LevelCount.at_least_four in
    let bits = g.P5.LevelFiveFlags.bits in
    after_calls c.spaces_stay.ensures c.shared_halves_stay.ensures c.calls_keep_what_they_avoid.ensures c.calls_keep_root_entries.ensures
    levels high (g.P.PageTableFrameMapping.places c.args.mapping) (g.met.P.PageTableFrameMapping.is_mapping c.args.mapping) c.args.root
    g.F.FrameDeallocator.take_back (giving_from _ g.met.F.FrameDeallocator.take_back_rearranges) _ _ _ _ _ c.requires _ _ c.run.ensures.keeps.keeps
    (to_call levels bits) c.args.calls.now (are_calls levels (to_call levels bits) (is_call levels high bits g.met.P5.LevelFiveFlags.five levels) c.args.calls.now) _ _
    c.run.result c.run.ensures.ran c.run.ensures.unchanged (λ same. ap (λ mapper. g.T.TableMemory.tables mapper.memory.now) same.2)
    c.new-mapper.ensures.layout c.new-mapper.ensures.memory (search rules)
