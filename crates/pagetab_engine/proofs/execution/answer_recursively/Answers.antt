use Rattle.std.proofs.Common.{rules, ◌≡◌, ◌∙◌, ℕ, sym, ap, subst, subst₂}
use Rattle.x86_64_model.specs.Call.{Call}
use Rattle.x86_64_model.specs.Hierarchy.{◌laid_in◌, Hierarchy, PoolFits}
use Rattle.x86_64_model.specs.Layout.{Layout}
use Rattle.x86_64_model.specs.Memory.{Memory}
use Rattle.x86_64_model.specs.Store.{StoreFits, Keeps}
use Rattle.x86_64_tables.specs.ActiveMemory.{memory_of}
use Rattle.x86_64_tables.specs.FramePool.{FreeFrames}
use Rattle.x86_64_mappers.specs.Recursive.{ValidThrough, recursive_at}
use Rattle.x86_64.specs.Calls.{to_call}
use Rattle.x86_64.specs.Pairs.{pool_store}
use Rattle.x86_64.specs.Replies.{Reply}
use Rattle.x86_64.specs.Runs.{LeavesFree, Stepped}
use Rattle.pagetab_engine.specs.Frames.{recursive_layout}
use Rattle.pagetab_engine.specs.Hierarchy.{AnswersRecursively}
use Rattle.pagetab_engine.proofs.Answering.{answered_in}
use Rattle.pagetab_engine.proofs.ByMode.{lies_recursively}
use Rattle.pagetab_engine.proofs.execution.answer_recursively.Goals as goal

pub new_unchecked-mapper-requires : goal.new_unchecked-mapper-requires
new_unchecked-mapper-requires g c =
    subst₂ (λ (m : Memory) (root : ℕ). ValidThrough g.L.LevelCount.LEVELS m root c.args.index) (sym c.new-active.ensures.memory)
    (sym (c.new-active.ensures.cr3 ∙ c.root.ensures)) c.requires.valid

pub run_call-requires : goal.run_call-requires
run_call-requires g c =
    let levels = g.L.LevelCount.LEVELS in
    let lies = lies_recursively levels c.args.index _ _ _ _ _ c.root.ensures c.new-active.ensures.cr3 c.new-active.ensures.memory
    c.new_unchecked-mapper.ensures.layout in
    let first : memory_of c.new_unchecked-mapper.result.active ≡ c.args.frames.now.memory = ap memory_of c.new_unchecked-mapper.ensures.active ∙
    c.new-active.ensures.memory in
    subst₂ (λ (l : Layout) (m : Memory). StoreFits (l laid_in m) (pool_store c.args.frames.now.pool)) (sym lies) (sym first) c.requires

-- what the mapper did with the call is done in the memory that was lent to it
answered_through : {Lent : Type 0} (levels index : ℕ) (h after : Hierarchy Lent) (pool rest : FreeFrames) (m n : Memory) (call : Call) (reply : Reply)
    → Keeps h (pool_store pool) after (pool_store rest) → Stepped h (pool_store pool) call reply after rest.frames → LeavesFree h
    (pool_store pool) call after rest.frames
    → h.layout ≡ recursive_layout levels m index → h.memory ≡ m → n ≡ after.memory
    → AnswersRecursively levels index (record { memory = m; pool = pool }) call (record { memory = n; pool = rest }) reply
answered_through levels index h after pool rest m n call reply keeps step free lies first last =
    let fits : StoreFits (h.layout laid_in after.memory) (pool_store rest) = subst (λ serves. PoolFits
    (h.layout laid_in after.memory) serves rest.frames) (sym keeps.serves) keeps.keeps.fits in
    let still : StoreFits (recursive_layout levels m index laid_in n) (pool_store rest) = subst₂ (λ (l : Layout) (n : Memory). StoreFits
    (l laid_in n) (pool_store rest)) lies (sym last) fits in
    answered_in h after (pool_store pool) (pool_store rest) call reply keeps step free (recursive_layout levels m index)
    (recursive_layout levels n index) m n
    lies (keeps.layout ∙ lies ∙ ap (λ entry. recursive_at levels 0x1000
    (record { index = index; self_entry = entry })) still.valid.self.is_word) first last

pub returns : goal.returns
returns g c =
    let levels = g.L.LevelCount.LEVELS in
    let done = c.run_call.ensures in
    let lies = lies_recursively levels c.args.index _ _ _ _ _ c.root.ensures c.new-active.ensures.cr3 c.new-active.ensures.memory
    c.new_unchecked-mapper.ensures.layout in
    let first : memory_of c.new_unchecked-mapper.result.active ≡ c.args.frames.now.memory = ap memory_of c.new_unchecked-mapper.ensures.active ∙
    c.new-active.ensures.memory in
    answered_through levels c.args.index _ _ c.args.frames.now.pool c.run_call.new.frames c.args.frames.now.memory _
    (to_call levels g.P5.LevelFiveFlags.bits c.args.call)
    c.run_call.result done.keeps done.step done.free lies first (search rules)
