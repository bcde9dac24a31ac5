use Rattle.std.proofs.Common.{◌≡◌, ◌∙◌, ℕ, sym, subst, subst₂}
use Rattle.x86_64_model.specs.Hierarchy.{◌laid_in◌, Valid}
use Rattle.x86_64_model.specs.Layout.{Layout}
use Rattle.x86_64_model.specs.Memory.{Memory, identity_places}
use Rattle.x86_64_model.specs.Store.{StoreFits}
use Rattle.x86_64_mappers.specs.Layouts.{direct_at}
use Rattle.x86_64.specs.Calls.{to_call}
use Rattle.x86_64.specs.Pairs.{pool_store}
use Rattle.pagetab_engine.specs.Frames.{direct_layout}
use Rattle.pagetab_engine.proofs.Answering.{answered_in}
use Rattle.pagetab_engine.proofs.ByMode.{lies_directly}
use Rattle.pagetab_engine.proofs.execution.answer_direct.Goals as goal

pub new-mapper-requires : goal.new-mapper-requires
new-mapper-requires g c =
    let m = c.args.frames.now.memory in
    subst (λ (root : ℕ). Valid (direct_at g.L.LevelCount.LEVELS identity_places root laid_in m)) (sym c.root.ensures) c.requires.valid

pub run_call-requires : goal.run_call-requires
run_call-requires g c =
    let levels = g.L.LevelCount.LEVELS in
    let lies : direct_at levels identity_places c.new-mapper.result.root ≡ direct_layout levels = lies_directly levels _ _ c.root.ensures
    c.new-mapper.ensures.layout in
    subst₂ (λ (l : Layout) (m : Memory). StoreFits (l laid_in m) (pool_store c.args.frames.now.pool)) (sym lies) (sym c.new-mapper.ensures.memory)
    c.requires

pub returns : goal.returns
returns g c =
    let levels = g.L.LevelCount.LEVELS in
    let done = c.run_call.ensures in
    let lies : direct_at levels identity_places c.new-mapper.result.root ≡ direct_layout levels = lies_directly levels _ _ c.root.ensures
    c.new-mapper.ensures.layout in
    answered_in _ _ (pool_store c.args.frames.now.pool) (pool_store c.run_call.new.frames) (to_call levels g.P5.LevelFiveFlags.bits c.args.call)
    c.run_call.result done.keeps done.step done.free
    _ _ c.args.frames.now.memory c.drop-mapper.new.self.0 lies (done.keeps.layout ∙ lies) c.new-mapper.ensures.memory c.drop-mapper.ensures.memory
