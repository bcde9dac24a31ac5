use Rattle.std.proofs.Common.{◌∙◌, ℕ, refl, sym, ap, rules}
use Rattle.x86_64_model.specs.Layout.{Layout}
use Rattle.x86_64_model.specs.Hierarchy.{◌laid_in◌}
use Rattle.x86_64_model.specs.Memory.{Memory}
use Rattle.x86_64_model.specs.Store.{StoreFits}
use Rattle.x86_64_mappers.specs.Layouts.{direct_at}
use Rattle.x86_64_mappers.specs.Offsets.{offset_places}
use Rattle.x86_64.proofs.Moved.{moved}
use Rattle.x86_64.specs.Calls.{to_call}
use Rattle.x86_64.specs.Pairs.{pool_store}
use Rattle.pagetab_engine.proofs.AtOffset.{layout_at, at_offset, answered_after}
use Rattle.pagetab_engine.proofs.execution.answer_at_offset.Goals as goal

pub run_call-requires : goal.run_call-requires
run_call-requires g c =
    let levels = g.L.LevelCount.LEVELS in let offset = c.args.phys_offset in let m = c.args.frames.now.memory in let store = pool_store c.args.frames.now.pool in
    let is = c.new-mapper.ensures.layout ∙ ap (λ (root : ℕ). direct_at levels (offset_places levels offset) root) c.root.ensures in
    moved (λ (l : Layout) (m n : Memory). StoreFits (l laid_in m) store) (layout_at levels offset) _ m _ m m (sym is) (sym c.new-mapper.ensures.memory) refl (at_offset levels offset m store c.requires.offset c.requires.fits)

pub returns-clause-answered : goal.returns-clause-answered
returns-clause-answered g c =
    let levels = g.L.LevelCount.LEVELS in let offset = c.args.phys_offset in let done = c.run_call.ensures in
    let is = c.new-mapper.ensures.layout ∙ ap (λ (root : ℕ). direct_at levels (offset_places levels offset) root) c.root.ensures in
    (answered_after _ _ (pool_store c.args.frames.now.pool) (pool_store c.run_call.new.frames) (to_call g.L.LevelCount.LEVELS g.P5.LevelFiveFlags.bits c.args.call) c.run_call.result done.keeps done.step done.free
    levels offset c.args.frames.now.memory _ (search rules) is c.new-mapper.ensures.memory c.requires.offset c.requires.fits).1

pub returns-clause-offset : goal.returns-clause-offset
returns-clause-offset g c =
    let levels = g.L.LevelCount.LEVELS in let offset = c.args.phys_offset in let done = c.run_call.ensures in
    let is = c.new-mapper.ensures.layout ∙ ap (λ (root : ℕ). direct_at levels (offset_places levels offset) root) c.root.ensures in
    (answered_after _ _ (pool_store c.args.frames.now.pool) (pool_store c.run_call.new.frames) (to_call g.L.LevelCount.LEVELS g.P5.LevelFiveFlags.bits c.args.call) c.run_call.result done.keeps done.step done.free
    levels offset c.args.frames.now.memory _ (search rules) is c.new-mapper.ensures.memory c.requires.offset c.requires.fits).0
