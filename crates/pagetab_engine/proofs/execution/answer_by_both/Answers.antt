use Rattle.std.proofs.Common.{rules, ◌≡◌, ◌∙◌, ℕ, [], ◌∷◌, length, refl, sym, ap, ap₂, subst, subst₂, arith}
use Rattle.std.proofs.lemmas.Result.{err_from_is_err_and}
use Rattle.x86_64_model.specs.Hierarchy.{◌laid_in◌, Valid}
use Rattle.x86_64_model.specs.Memory.{Memory, identity_places}
use Rattle.x86_64_tables.specs.ActiveMemory.{memory_of}
use Rattle.x86_64_tables.specs.FramePool.{FreeFrames}
use Rattle.x86_64_mappers.specs.Layouts.{direct_at}
use Rattle.x86_64_mappers.specs.Recursive.{ValidThrough}
use Rattle.x86_64.specs.Calls.{to_call}
use Rattle.x86_64.specs.Pairs.{pool_store}
use Rattle.pagetab_engine.specs.Frames.{direct_layout}
use Rattle.pagetab_engine.proofs.Answering.{answered_one, one_pushed}
use Rattle.pagetab_engine.proofs.ByMode.{lies_directly, lies_recursively, runs_directly, runs_recursively, answers_recursively, alike_before, twin_after}
use Rattle.pagetab_engine.proofs.execution.answer_by_both.Goals as goal

pub new-direct-requires : goal.new-direct-requires
new-direct-requires g c =
    let m = c.args.frames.now.memory in
    subst (λ (root : ℕ). Valid (direct_at g.L.LevelCount.LEVELS identity_places root laid_in m)) (sym c.root.ensures) c.requires.fits.valid

pub new_unchecked-recursive-requires : goal.new_unchecked-recursive-requires
new_unchecked-recursive-requires g c =
    subst₂ (λ (m : Memory) (root : ℕ). ValidThrough g.L.LevelCount.LEVELS m root c.args.index) (sym c.new-active.ensures.memory)
    (sym (c.new-active.ensures.cr3 ∙ c.root-2.ensures)) c.requires.twin.fits.valid

pub run_pair-requires-clause-one : goal.run_pair-requires-clause-one
run_pair-requires-clause-one g c =
    let levels = g.L.LevelCount.LEVELS in
    let lies : direct_at levels identity_places c.new-direct.result.root ≡ direct_layout levels = lies_directly levels _ _ c.root.ensures c.new-direct.ensures.layout in
    runs_directly (to_call g.L.LevelCount.LEVELS g.P5.LevelFiveFlags.bits) _ levels _ _ c.args.frames.now.pool lies c.new-direct.ensures.memory c.requires.fits

pub run_pair-requires-clause-other : goal.run_pair-requires-clause-other
run_pair-requires-clause-other g c =
    let levels = g.L.LevelCount.LEVELS in
    let also = lies_recursively levels c.args.index _ _ _ _ _ c.root-2.ensures c.new-active.ensures.cr3 c.new-active.ensures.memory c.new_unchecked-recursive.ensures.layout in
    let second : memory_of c.new_unchecked-recursive.result.active ≡ c.args.twin.now.memory = ap memory_of c.new_unchecked-recursive.ensures.active ∙ c.new-active.ensures.memory in
    let one : c.deref.result.now ≡ c.args.call ∷ [] = one_pushed _ _ _ _ c.deref.ensures.value c.push_reserved.ensures.items c.in_ok-calls.ensures.items in
    runs_recursively (to_call g.L.LevelCount.LEVELS g.P5.LevelFiveFlags.bits) _ levels c.args.index _ _ c.args.twin.now.pool also second c.args.call one c.requires.unnamed c.requires.twin.fits

pub run_pair-requires-clause-alike : goal.run_pair-requires-clause-alike
run_pair-requires-clause-alike g c =
    let levels = g.L.LevelCount.LEVELS in
    let lies : direct_at levels identity_places c.new-direct.result.root ≡ direct_layout levels = lies_directly levels _ _ c.root.ensures c.new-direct.ensures.layout in
    let also = lies_recursively levels c.args.index _ _ _ _ _ c.root-2.ensures c.new-active.ensures.cr3 c.new-active.ensures.memory c.new_unchecked-recursive.ensures.layout in
    let second : memory_of c.new_unchecked-recursive.result.active ≡ c.args.twin.now.memory = ap memory_of c.new_unchecked-recursive.ensures.active ∙ c.new-active.ensures.memory in
    alike_before levels c.args.index _ _ c.args.frames.now.memory c.args.twin.now.memory c.args.frames.now.pool c.args.twin.now.pool lies also c.new-direct.ensures.memory second c.requires.twin.alike

pub returns-in_err-replies-clause-twin : goal.returns-in_err-replies-clause-twin
returns-in_err-replies-clause-twin g c =
    let levels = g.L.LevelCount.LEVELS in
    let lies : direct_at levels identity_places c.new-direct.result.root ≡ direct_layout levels = lies_directly levels _ _ c.root.ensures c.new-direct.ensures.layout in
    let also = lies_recursively levels c.args.index _ _ _ _ _ c.root-2.ensures c.new-active.ensures.cr3 c.new-active.ensures.memory c.new_unchecked-recursive.ensures.layout in
    twin_after levels c.args.index _ _ _ _ c.args.frames.now.pool c.run_pair.new.pool_a c.args.twin.now.pool c.run_pair.new.pool_b c.args.twin.now.memory c.drop-direct.new.self.0 _
    lies also c.run_pair.ensures.one.keeps c.run_pair.ensures.other.keeps c.run_pair.ensures.alike c.drop-direct.ensures.memory (search rules)

pub index-requires : goal.index-requires
index-requires g c =
    let one : c.deref.result.now ≡ c.args.call ∷ [] = one_pushed _ _ _ _ c.deref.ensures.value c.push_reserved.ensures.items c.in_ok-calls.ensures.items in
    omega (arith, c.in_ok-replies.ensures.one.ran.one_each, ap length one)

pub returns-clause-answered : goal.returns-clause-answered
returns-clause-answered g c =
    let levels = g.L.LevelCount.LEVELS in
    let one : c.deref.result.now ≡ c.args.call ∷ [] = one_pushed _ _ _ _ c.deref.ensures.value c.push_reserved.ensures.items c.in_ok-calls.ensures.items in
    let lies : direct_at levels identity_places c.new-direct.result.root ≡ direct_layout levels = lies_directly levels _ _ c.root.ensures c.new-direct.ensures.layout in
    let keeps = c.run_pair.ensures.one.keeps in
    answered_one (to_call g.L.LevelCount.LEVELS g.P5.LevelFiveFlags.bits) _ _ (pool_store c.args.frames.now.pool) (pool_store c.run_pair.new.pool_a) c.args.call _ _ _ one c.in_ok-replies.ensures.one.ran keeps c.index.ensures
    _ _ c.args.frames.now.memory c.drop-direct-2.new.self.0 lies (keeps.layout ∙ lies) c.new-direct.ensures.memory c.drop-direct-2.ensures.memory

pub returns-clause-both : goal.returns-clause-both
returns-clause-both g c =
    let levels = g.L.LevelCount.LEVELS in
    let one : c.deref.result.now ≡ c.args.call ∷ [] = one_pushed _ _ _ _ c.deref.ensures.value c.push_reserved.ensures.items c.in_ok-calls.ensures.items in
    let also = lies_recursively levels c.args.index _ _ _ _ _ c.root-2.ensures c.new-active.ensures.cr3 c.new-active.ensures.memory c.new_unchecked-recursive.ensures.layout in
    let second : memory_of c.new_unchecked-recursive.result.active ≡ c.args.twin.now.memory = ap memory_of c.new_unchecked-recursive.ensures.active ∙ c.new-active.ensures.memory in
    answers_recursively (to_call g.L.LevelCount.LEVELS g.P5.LevelFiveFlags.bits) c.args.call _ _ _ levels c.args.index _ _ c.args.twin.now.pool c.run_pair.new.pool_b c.args.twin.now.memory _
    one c.in_ok-replies.ensures.other.ran c.run_pair.ensures.other.keeps c.index.ensures also second (search rules)

pub returns-clause-twin : goal.returns-clause-twin
returns-clause-twin g c =
    let levels = g.L.LevelCount.LEVELS in
    let lies : direct_at levels identity_places c.new-direct.result.root ≡ direct_layout levels = lies_directly levels _ _ c.root.ensures c.new-direct.ensures.layout in
    let also = lies_recursively levels c.args.index _ _ _ _ _ c.root-2.ensures c.new-active.ensures.cr3 c.new-active.ensures.memory c.new_unchecked-recursive.ensures.layout in
    twin_after levels c.args.index _ _ _ _ c.args.frames.now.pool c.run_pair.new.pool_a c.args.twin.now.pool c.run_pair.new.pool_b c.args.twin.now.memory c.drop-direct-2.new.self.0 _
    lies also c.run_pair.ensures.one.keeps c.run_pair.ensures.other.keeps c.run_pair.ensures.alike c.drop-direct-2.ensures.memory (search rules)

pub returns-in_err-calls-clause-unchanged : goal.returns-in_err-calls-clause-unchanged
returns-in_err-calls-clause-unchanged g c =
    let e = err_from_is_err_and c.from_residual.result c.from_residual.ensures.1 in
    rw e.1 (refl, refl)

pub returns-in_err-calls-clause-twin : goal.returns-in_err-calls-clause-twin
returns-in_err-calls-clause-twin g c = c.requires.twin

pub returns-in_err-calls-clause-answered : goal.returns-in_err-calls-clause-answered
returns-in_err-calls-clause-answered g c =
    let e = err_from_is_err_and c.from_residual.result c.from_residual.ensures.1 in
    rw e.1 tt

pub returns-in_err-calls-clause-both : goal.returns-in_err-calls-clause-both
returns-in_err-calls-clause-both g c =
    let e = err_from_is_err_and c.from_residual.result c.from_residual.ensures.1 in
    rw e.1 tt

pub returns-in_err-replies-clause-answered : goal.returns-in_err-replies-clause-answered
returns-in_err-replies-clause-answered g c =
    let e = err_from_is_err_and c.from_residual-in_err-replies.result c.from_residual-in_err-replies.ensures.1 in
    rw e.1 tt

pub returns-in_err-replies-clause-both : goal.returns-in_err-replies-clause-both
returns-in_err-replies-clause-both g c =
    let e = err_from_is_err_and c.from_residual-in_err-replies.result c.from_residual-in_err-replies.ensures.1 in
    rw e.1 tt

pub returns-in_err-replies-clause-unchanged : goal.returns-in_err-replies-clause-unchanged
returns-in_err-replies-clause-unchanged g c =
    let e = err_from_is_err_and c.from_residual-in_err-replies.result c.from_residual-in_err-replies.ensures.1 in
    let same = c.in_err-replies.ensures.refused in
    let second : memory_of c.new_unchecked-recursive.result.active ≡ c.args.twin.now.memory = ap memory_of c.new_unchecked-recursive.ensures.active ∙ c.new-active.ensures.memory in
    rw e.1 (
      ap₂ (λ (m : Memory) (pool : FreeFrames). record { memory = m; pool = pool }) (c.drop-direct.ensures.memory ∙ ap
          (λ direct. direct.memory.now) same.1 ∙ c.new-direct.ensures.memory) same.2,
      ap₂ (λ (m : Memory) (pool : FreeFrames). record { memory = m; pool = pool }) (search rules ∙ ap
          (λ recursive. memory_of recursive.active) same.3 ∙ second) same.4,
    )
