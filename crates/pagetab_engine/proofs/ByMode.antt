-- The hierarchy of a mode for a number of levels, and what the mapper of the mode does with it.
use Rattle.std.proofs.Common.{◌≡◌, ℕ, List, [], ◌∷◌, get_or, false, Result, Ok, Err, sym, ap, ◌∙◌, subst, subst₂}
use Rattle.std.specs.Result.{IfOk, OnErr}
use Rattle.x86_64_model.specs.Alike.{Alike}
use Rattle.x86_64_model.specs.Call.{Call}
use Rattle.x86_64_model.specs.Layout.{Layout}
use Rattle.x86_64_model.specs.Hierarchy as mapper
use Rattle.x86_64_model.specs.Hierarchy.{◌laid_in◌, paths, PoolFits}
use Rattle.x86_64_model.specs.Memory.{Memory, identity_places}
use Rattle.x86_64_model.specs.Store.{Store, StoreFits, Keeps}
use Rattle.x86_64_tables.specs.FramePool.{FreeFrames}
use Rattle.x86_64_mappers.specs.Layouts.{direct_at}
use Rattle.x86_64_mappers.specs.Recursive.{recursive_at, recursive_now_at}
use Rattle.x86_64.specs.Calls.{names_by}
use Rattle.x86_64.specs.Pairs.{AreAlike, MayRun, NoCallNames, pool_store}
use Rattle.x86_64.specs.Replies.{Reply}
use Rattle.x86_64.specs.Runs.{Ran}
use Rattle.x86_64.proofs.Keeping.{kept_none}
use Rattle.pagetab_engine.specs.Arguments.{count, levels_of}
use Rattle.pagetab_engine.specs.Calls.{IsAnswered}
use Rattle.pagetab_engine.specs.Frames.{direct_layout, recursive_layout}
use Rattle.pagetab_engine.specs.Modes.{layout}
use Rattle.pagetab_engine.specs.Hierarchy.{layout_of, hierarchy_of, ModeReaches, AnswersRecursively, IsTwin, HasTwin, KeepsHierarchy}
use Rattle.pagetab_engine.specs.declared.arguments.Mode.{Mode}
use Rattle.pagetab_engine.specs.declared.arguments.Mode.TheVariants.{Direct, Offset, Recursive, Pair}
use Rattle.pagetab_engine.specs.declared.frames.Frames.{Frames}
use Rattle.pagetab_engine.specs.declared.hierarchy.Hierarchy.{Hierarchy}
use Rattle.pagetab_engine.proofs.Answering.{answered_one}
use Rattle.pagetab_engine.proofs.Keeping.{kept_by}

-- the layout of a mode with this number of levels
abbrev pub layout_in : Mode → (levels : ℕ) → Memory → Layout
layout_in (Direct known) levels memory = direct_layout levels
layout_in (Offset offset) levels memory = direct_layout levels
layout_in (Recursive known index) levels memory = recursive_layout levels memory index
layout_in (Pair known index) levels memory = direct_layout levels

same_layout : (mode : Mode) (levels : ℕ) (memory : Memory) → count (levels_of mode) ≡ levels → layout mode memory ≡ layout_in mode levels memory
same_layout (Direct known) levels memory same = ap direct_layout same
same_layout (Offset offset) levels memory same = ap direct_layout same
same_layout (Recursive known index) levels memory same = ap (λ n. recursive_layout n memory index) same
same_layout (Pair known index) levels memory same = ap direct_layout same

module _ (before : Hierarchy) (levels : ℕ) (known : count (levels_of before.mode) ≡ levels) (mode : Mode) (is : before.mode ≡ mode) where
  pub here : count (levels_of mode) ≡ levels
  here = ap (λ mode. count (levels_of mode)) (sym is) ∙ known

  pub lies : layout_of before ≡ layout_in mode levels before.frames.memory
  lies = ap (λ mode. layout mode before.frames.memory) is ∙ same_layout mode levels before.frames.memory here

  pub fits_in : StoreFits (hierarchy_of before) (pool_store before.frames.pool) → StoreFits (layout_in mode levels before.frames.memory laid_in before.frames.memory) (pool_store before.frames.pool)
  fits_in = subst (λ (l : Layout). StoreFits (l laid_in before.frames.memory) (pool_store before.frames.pool)) lies

  pub kept_in : (after : Hierarchy) → after.mode ≡ before.mode → ModeReaches mode after.frames.memory → HasTwin mode after.frames after.twin
      → Keeps (layout_in mode levels before.frames.memory laid_in before.frames.memory) (pool_store before.frames.pool) (layout_in mode levels after.frames.memory laid_in after.frames.memory) (pool_store after.frames.pool) → KeepsHierarchy before after
  kept_in after same reached twin kept =
      let m = before.frames.memory in let n = after.frames.memory in
      kept_by before after same mode is reached twin
      (subst₂ (λ (l k : Layout). Keeps (l laid_in m) (pool_store before.frames.pool) (k laid_in n) (pool_store after.frames.pool)) (sym (same_layout mode levels m here)) (sym (same_layout mode levels n here)) kept)

-- ---- two hierarchies

-- path maps are alike in the words of a pair
pub alike_as_pair : (levels index : ℕ) (l k : Layout) (m n one other : Memory) → Alike levels (paths (l laid_in m)) (paths (k laid_in n)) → l ≡ direct_layout levels → k ≡ recursive_layout levels other index → m ≡ one → n ≡ other
    → Alike levels (paths (direct_layout levels laid_in one)) (paths (recursive_layout levels other index laid_in other))
alike_as_pair levels index l k m n one other alike lies also here there =
    let first = direct_layout levels in
    let second = recursive_layout levels other index in
    subst (λ (m : Memory). Alike levels (paths (first laid_in m)) (paths (second laid_in other))) here
    (subst (λ (n : Memory). Alike levels (paths (first laid_in m)) (paths (second laid_in n))) there
    (subst (λ (l : Layout). Alike levels (paths (l laid_in m)) (paths (second laid_in n))) lies
    (subst (λ (k : Layout). Alike levels (paths (l laid_in m)) (paths (k laid_in n))) also alike)))

-- the recursive mapper's hierarchy of a pair, if the mode has this number of levels
pub twin_in : (known levels index : ℕ) (frames twin : Frames) → known ≡ levels → IsTwin levels index frames twin → IsTwin known index frames twin
twin_in known levels index frames twin same = subst (λ n. IsTwin n index frames twin) (sym same)

-- what a call keeps in a pair, whether it was executed or nothing changed
pub kept_in_pair : {E : Type 0} (Others : Type 0) (levels : ℕ) (before after : Frames) (call : Call) (result : Result Reply E) → StoreFits (direct_layout levels laid_in before.memory) (pool_store before.pool)
    → IfOk result (IsAnswered (direct_layout levels laid_in before.memory) (pool_store before.pool) call (direct_layout levels laid_in after.memory) (pool_store after.pool)) → OnErr result ((after ≡ before) × Others)
    → Keeps (direct_layout levels laid_in before.memory) (pool_store before.pool) (direct_layout levels laid_in after.memory) (pool_store after.pool)
kept_in_pair Others levels before after call (Ok reply) fits answered unchanged = answered.keeps
kept_in_pair Others levels before after call (Err why) fits answered unchanged =
    subst (λ (after : Frames). Keeps (direct_layout levels laid_in before.memory) (pool_store before.pool) (direct_layout levels laid_in after.memory) (pool_store after.pool)) (sym unchanged.0) (kept_none _ _ fits)

-- the layouts of mappers that were created with the root in the frame 0x1000
pub lies_directly : (levels root : ℕ) (l : Layout) → root ≡ 0x1000 → l ≡ direct_at levels identity_places root → l ≡ direct_layout levels
lies_directly levels root l is lies = lies ∙ ap (direct_at levels identity_places) is

pub lies_recursively : (levels index root here : ℕ) (m memory : Memory) (l : Layout) → root ≡ 0x1000 → here ≡ root → m ≡ memory → l ≡ recursive_now_at levels m here index → l ≡ recursive_layout levels memory index
lies_recursively levels index root here m memory l is cr3 first lies =
    lies ∙ ap (λ m. recursive_now_at levels m here index) first ∙ ap (λ root. recursive_now_at levels memory root index) (cr3 ∙ is)

-- the root's word at the recursive index stays
window_stays : (levels index : ℕ) (m n : Memory) (store : Store) → StoreFits (recursive_layout levels m index laid_in n) store → recursive_layout levels m index ≡ recursive_layout levels n index
window_stays levels index m n store fits = ap (λ entry. recursive_at levels 0x1000 (record { index = index; self_entry = entry })) fits.valid.self.is_word

-- one of the mappers may run the call
pub runs_directly : {C Lent : Type 0} (asks : C → Call) (calls : List C) (levels : ℕ) (h : mapper.Hierarchy Lent) (m : Memory) (pool : FreeFrames) → h.layout ≡ direct_layout levels → h.memory ≡ m
    → StoreFits (direct_layout levels laid_in m) (pool_store pool) → MayRun asks levels calls h pool
runs_directly asks calls levels h m pool lies first fits = record {
  fits = subst₂ (λ (l : Layout) (m : Memory). StoreFits (l laid_in m) (pool_store pool)) (sym lies) (sym first) fits;
  unnamed = subst (λ (l : Layout). NoCallNames asks levels l.window calls) (sym lies) tt;
}

pub runs_recursively : {C Lent : Type 0} (asks : C → Call) (calls : List C) (levels index : ℕ) (h : mapper.Hierarchy Lent) (m : Memory) (pool : FreeFrames) → h.layout ≡ recursive_layout levels m index → h.memory ≡ m
    → (call : C) → calls ≡ call ∷ [] → names_by levels (asks call) index ≡ false → StoreFits (recursive_layout levels m index laid_in m) (pool_store pool) → MayRun asks levels calls h pool
runs_recursively asks calls levels index h m pool lies first call one unnamed fits = record {
  fits = subst₂ (λ (l : Layout) (m : Memory). StoreFits (l laid_in m) (pool_store pool)) (sym lies) (sym first) fits;
  unnamed = subst₂ (λ (l : Layout) calls. NoCallNames asks levels l.window calls) (sym lies) (sym one) (unnamed, tt);
}

-- what a recursive mapper leaves fits the layout of the memory after it
module _ {Lent : Type 0} (levels index : ℕ) (h after : mapper.Hierarchy Lent) (pool rest : FreeFrames) (m n : Memory)
    (lies : h.layout ≡ recursive_layout levels m index) (last : n ≡ after.memory) (keeps : Keeps h (pool_store pool) after (pool_store rest)) where
  fits_still : StoreFits (recursive_layout levels m index laid_in n) (pool_store rest)
  fits_still =
      subst₂ (λ (l : Layout) (n : Memory). StoreFits (l laid_in n) (pool_store rest)) lies (sym last)
      (subst (λ serves. PoolFits (h.layout laid_in after.memory) serves rest.frames) (sym keeps.serves) keeps.keeps.fits)

  lies_after : after.layout ≡ recursive_layout levels n index
  lies_after = keeps.layout ∙ lies ∙ window_stays levels index m n (pool_store rest) fits_still

  fits_after : StoreFits (recursive_layout levels n index laid_in n) (pool_store rest)
  fits_after = subst (λ (l : Layout). StoreFits (l laid_in n) (pool_store rest)) (window_stays levels index m n (pool_store rest) fits_still) fits_still

-- a recursive mapper executes a list of one call
pub answers_recursively : {C Lent : Type 0} (asks : C → Call) (call : C) (calls : List C) (replies : List Reply) (reply : Reply) (levels index : ℕ) (h after : mapper.Hierarchy Lent) (pool rest : FreeFrames) (m n : Memory)
    → calls ≡ call ∷ [] → Ran asks h (pool_store pool) calls [] replies after rest.frames → Keeps h (pool_store pool) after (pool_store rest) → reply ≡ get_or replies 0 reply
    → h.layout ≡ recursive_layout levels m index → h.memory ≡ m → n ≡ after.memory → AnswersRecursively levels index (record { memory = m; pool = pool }) (asks call) (record { memory = n; pool = rest }) reply
answers_recursively asks call calls replies reply levels index h after pool rest m n one ran keeps told lies first last =
    answered_one asks h after (pool_store pool) (pool_store rest) call calls replies reply one ran keeps told
    (recursive_layout levels m index) (recursive_layout levels n index) m n lies (lies_after levels index h after pool rest m n lies last keeps) first last

-- the mappers of a pair are alike before and after calls
pub alike_before : {Lent Other : Type 0} (levels index : ℕ) (h : mapper.Hierarchy Lent) (other : mapper.Hierarchy Other) (m n : Memory) (pool twin : FreeFrames) → h.layout ≡ direct_layout levels → other.layout ≡ recursive_layout levels n index
    → h.memory ≡ m → other.memory ≡ n → AreAlike levels (direct_layout levels laid_in m) pool (recursive_layout levels n index laid_in n) twin → AreAlike levels h pool other twin
alike_before levels index h other m n pool twin lies also first second alike = record {
  paths = subst₂ (λ (l : Layout) (m : Memory). Alike levels (paths (l laid_in m)) (paths other)) (sym lies) (sym first)
      (subst₂ (λ (l : Layout) (n : Memory). Alike levels (paths (direct_layout levels laid_in m)) (paths (l laid_in n))) (sym also) (sym second) alike.paths);
  pools = alike.pools;
}

pub twin_after : {Lent Other : Type 0} (levels index : ℕ) (h after : mapper.Hierarchy Lent) (other other_after : mapper.Hierarchy Other) (pool rest twin left : FreeFrames) (n one two : Memory)
    → h.layout ≡ direct_layout levels → other.layout ≡ recursive_layout levels n index → Keeps h (pool_store pool) after (pool_store rest) → Keeps other (pool_store twin) other_after (pool_store left)
    → AreAlike levels after rest other_after left → one ≡ after.memory → two ≡ other_after.memory → IsTwin levels index (record { memory = one; pool = rest }) (record { memory = two; pool = left })
twin_after levels index h after other other_after pool rest twin left n one two lies also keeps other_keeps alike last ends = record {
  fits = fits_after levels index other other_after twin left n two also ends other_keeps;
  alike = record {
    paths = alike_as_pair levels index after.layout other_after.layout after.memory other_after.memory one two alike.paths
        (keeps.layout ∙ lies) (lies_after levels index other other_after twin left n two also ends other_keeps) (sym last) (sym ends);
    pools = alike.pools;
  };
}
