use Rattle.std.proofs.Common.{rules, ◌≡◌, ◌∙◌, ℕ, List, [], Vec, Result, Ok, Err, sym, ap, subst, subst₂}
use Rattle.std.specs.Result.{IfOk}
use Rattle.x86_64_model.specs.Alike.{Alike}
use Rattle.x86_64_model.specs.Call.{Call}
use Rattle.x86_64_model.specs.Hierarchy.{◌laid_in◌, Hierarchy, PoolFits, paths}
use Rattle.x86_64_model.specs.Layout.{Layout}
use Rattle.x86_64_model.specs.Memory.{Memory, identity_places}
use Rattle.x86_64_model.specs.Store.{Store, StoreFits, Keeps}
use Rattle.x86_64_tables.specs.ActiveMemory.{memory_of}
use Rattle.x86_64_tables.specs.FramePool.{FreeFrames}
use Rattle.x86_64_mappers.specs.Layouts.{direct_at}
use Rattle.x86_64_mappers.specs.Recursive.{ValidThrough, recursive_at, recursive_now_at}
use Rattle.x86_64.specs.Calls.{to_call}
use Rattle.x86_64.specs.Pairs.{NoCallNames, pool_store}
use Rattle.x86_64.specs.Replies.{Reply}
use Rattle.x86_64.specs.Runs.{Ran}
use Rattle.x86_64.proofs.Moved.{moved}
use Rattle.uses.specs.AlikePair.{AreAlikePair}
use Rattle.uses.proofs.AlikeAfter.{alike_after}
use Rattle.uses.proofs.run_in_pair.run_in_pair.Goals as goal

-- calls that ran with a mapper ran in the memory that was lent to it
module _ {C Lent A E : Type 0} (asks : C → Call) (h after : Hierarchy Lent) (store : Store) (calls : List C) (rest : List ℕ) (one : Layout)
    (m n : Memory)
    (lies : h.layout ≡ one) (first : h.memory ≡ m) (last : n ≡ after.memory) where
  ran_in : (result : Result (Vec Reply A) E) → IfOk result (λ replies. Ran asks h store calls [] replies.items after rest)
      → IfOk result (λ replies. Ran asks (one laid_in m) store calls [] replies.items (one laid_in n) rest)
  ran_in (Ok replies) ran =
      moved (λ l m n. Ran asks (l laid_in m) store calls [] replies.items (l laid_in n) rest) h.layout one h.memory m after.memory n lies first last
      (record { replies = ran.replies; one_each = ran.one_each; refused = ran.refused; state = ran.state; free = ran.free })
  ran_in (Err why) ran = tt

-- what a mapper keeps fits in the memory that was lent to it
fits_in : {Lent : Type 0} (h after : Hierarchy Lent) (pool rest : FreeFrames) (one : Layout) (n : Memory)
    → Keeps h (pool_store pool) after (pool_store rest) → h.layout ≡ one → n ≡ after.memory → StoreFits (one laid_in n) (pool_store rest)
fits_in h after pool rest one n keeps lies last =
    subst₂ (λ (l : Layout) (n : Memory). StoreFits (l laid_in n) (pool_store rest)) lies (sym last)
    (subst (λ serves. PoolFits (h.layout laid_in after.memory) serves rest.frames) (sym keeps.serves) keeps.keeps.fits)

-- the root's word at the recursive index stays
window_stays : (levels root index : ℕ) (m n : Memory) (store : Store) → StoreFits (recursive_now_at levels m root index laid_in n) store
    → recursive_now_at levels m root index ≡ recursive_now_at levels n root index
window_stays levels root index m n store fits = ap (λ entry. recursive_at levels root
    (record { index = index; self_entry = entry })) fits.valid.self.is_word

-- the recursive mapper's layout is that of the memory and the root that it was created with
lies_through : (levels root index here : ℕ) (m memory : Memory) (l : Layout) → m ≡ memory → here ≡ root → l ≡ recursive_now_at levels m here index
    → l ≡ recursive_now_at levels memory root index
lies_through levels root index here m memory l first cr3 lies = lies ∙ ap (λ m. recursive_now_at levels m here index) first ∙ ap
    (λ root. recursive_now_at levels memory root index) cr3

pub new_unchecked-recursive-requires : goal.new_unchecked-recursive-requires
new_unchecked-recursive-requires g c =
    subst₂ (λ (m : Memory) (root : ℕ). ValidThrough g.L.LevelCount.LEVELS m root c.args.index) (sym c.new-active.ensures.memory) (sym
    c.new-active.ensures.cr3)
    c.requires.pair.walked_fits.valid

pub run_pair-requires-clause-one : goal.run_pair-requires-clause-one
run_pair-requires-clause-one g c =
    let levels = g.L.LevelCount.LEVELS in
    let lies = c.new-direct.ensures.layout in
    record {
      fits = subst₂ (λ (l : Layout) (m : Memory). StoreFits (l laid_in m) (pool_store c.args.pool.now)) (sym lies) (sym
          c.new-direct.ensures.memory) c.requires.pair.fits;
      unnamed = subst (λ (l : Layout). NoCallNames (to_call levels g.P5.LevelFiveFlags.bits) levels l.window c.args.calls.now) (sym lies) tt;
    }

pub run_pair-requires-clause-other : goal.run_pair-requires-clause-other
run_pair-requires-clause-other g c =
    let levels = g.L.LevelCount.LEVELS in
    let also = lies_through levels c.args.root c.args.index _ _ _ _ c.new-active.ensures.memory c.new-active.ensures.cr3
    c.new_unchecked-recursive.ensures.layout in
    let second : memory_of c.new_unchecked-recursive.result.active ≡ c.args.walked.now = ap memory_of c.new_unchecked-recursive.ensures.active ∙
    c.new-active.ensures.memory in
    record {
      fits = subst₂ (λ (l : Layout) (m : Memory). StoreFits (l laid_in m) (pool_store c.args.walked_pool.now)) (sym also) (sym second)
          c.requires.pair.walked_fits;
      unnamed = subst (λ (l : Layout). NoCallNames (to_call levels g.P5.LevelFiveFlags.bits) levels l.window c.args.calls.now) (sym also)
          c.requires.unnamed;
    }

pub run_pair-requires-clause-alike : goal.run_pair-requires-clause-alike
run_pair-requires-clause-alike g c =
    let levels = g.L.LevelCount.LEVELS in
    let also = lies_through levels c.args.root c.args.index _ _ _ _ c.new-active.ensures.memory c.new-active.ensures.cr3
    c.new_unchecked-recursive.ensures.layout in
    let second : memory_of c.new_unchecked-recursive.result.active ≡ c.args.walked.now = ap memory_of c.new_unchecked-recursive.ensures.active ∙
    c.new-active.ensures.memory in
    let direct = direct_at levels identity_places c.new-direct.result.root laid_in c.new-direct.result.memory.now in
    record {
      paths = subst₂ (λ (l : Layout) (n : Memory). Alike levels (paths direct) (paths (l laid_in n))) (sym also) (sym second)
          (subst₂ (λ (l : Layout) (m : Memory). Alike levels (paths (l laid_in m)) (paths (recursive_now_at levels c.args.walked.now c.args.root
          c.args.index laid_in c.args.walked.now)))
          (sym c.new-direct.ensures.layout) (sym c.new-direct.ensures.memory) c.requires.pair.alike);
      pools = c.requires.pair.same_free;
    }

pub returns-clause-ran : goal.returns-clause-ran
returns-clause-ran g c =
    let levels = g.L.LevelCount.LEVELS in
    ran_in (to_call levels g.P5.LevelFiveFlags.bits) _ _ (pool_store c.args.pool.now) c.args.calls.now c.run_pair.new.pool_a.frames
    (direct_at levels identity_places c.args.root) c.args.memory.now _ c.new-direct.ensures.layout c.new-direct.ensures.memory (search rules ∙
    c.drop-direct.ensures.memory)
    c.run_pair.result c.run_pair.ensures.one.ran

-- the pair, whose memories end as those of the mappers
again : {Lent Other : Type 0} (levels root index : ℕ) (h after : Hierarchy Lent) (other other_after : Hierarchy Other)
    (pool rest twin left : FreeFrames) (n one two : Memory)
    → Keeps h (pool_store pool) after (pool_store rest) → Keeps other (pool_store twin) other_after (pool_store left) → Alike levels (paths after)
    (paths other_after) → rest.frames ≡ left.frames
    → h.layout ≡ direct_at levels identity_places root → other.layout ≡ recursive_now_at levels n root index → one ≡ after.memory → two
    ≡ other_after.memory
    → AreAlikePair levels root index one rest two left
again levels root index h after other other_after pool rest twin left n one two keeps other_keeps alike same lies also last ends =
    let still = fits_in other other_after twin left (recursive_now_at levels n root index) two other_keeps also ends in
    let stays = window_stays levels root index n two (pool_store left) still in
    record {
      fits = fits_in h after pool rest (direct_at levels identity_places root) one keeps lies last;
      walked_fits = subst (λ (l : Layout). StoreFits (l laid_in two) (pool_store left)) stays still;
      alike = alike_after levels after.layout other_after.layout (direct_at levels identity_places root)
          (λ m. recursive_now_at levels m root index) after.memory other_after.memory one two
          alike (keeps.layout ∙ lies) (other_keeps.layout ∙ also ∙ stays) (sym last) (sym ends);
      same_free = same;
    }

pub returns-clause-again : goal.returns-clause-again
returns-clause-again g c =
    let levels = g.L.LevelCount.LEVELS in
    let also = lies_through levels c.args.root c.args.index _ _ _ _ c.new-active.ensures.memory c.new-active.ensures.cr3
    c.new_unchecked-recursive.ensures.layout in
    let ran = c.run_pair.ensures in
    again levels c.args.root c.args.index _ _ _ _ c.args.pool.now c.run_pair.new.pool_a c.args.walked_pool.now c.run_pair.new.pool_b
    c.args.walked.now _ _
    ran.one.keeps ran.other.keeps ran.alike.paths ran.alike.pools c.new-direct.ensures.layout also (search rules ∙ c.drop-direct.ensures.memory)
    (search rules)
