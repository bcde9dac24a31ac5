-- Two mappers with alike path maps give the same list of replies, and stay alike.
use Rattle.std.proofs.Common.{◌≡◌, ◌<◌, ℕ, List, [], ◌∷◌, map, Option, Some, refl, sym, ap, ap₂, ◌∙◌, subst, subst₂}
use Rattle.std.proofs.lemmas.List.Sorted.{IsPermutation-refl}
use Rattle.x86_64_model.specs.Alike.{Alike}
use Rattle.x86_64_model.specs.Call as machine
use Rattle.x86_64_model.specs.Call.{Call}
use Rattle.x86_64_model.specs.Laws.Pairs.{IsAdded, AlikeRuns, NoneNames as NoCallNames}
use Rattle.x86_64_model.specs.Laws.Steps.{AllCalls}
use Rattle.x86_64_model.specs.Layout.{Layout}
use Rattle.x86_64_model.specs.Machine.{Machine, State, step, replies_of, state_after}
use Rattle.x86_64_model.specs.Hierarchy.{Hierarchy, paths, words}
use Rattle.x86_64_model.specs.Pool.{TakesBack, serves_below}
use Rattle.x86_64_tables.specs.FramePool.{FreeFrames}
use Rattle.x86_64_model.proofs.Lemmas.Machines.Giving.{giving_from}
use Rattle.x86_64_model.proofs.Lemmas.Machines.Laws.{pairs_reply_alike}
use Rattle.x86_64.specs.Pairs.{AreAlike, MayRun, pool_store, put_first}
use Rattle.x86_64.specs.Replies.{Reply, reply_of}
use Rattle.x86_64.specs.Runs.{machine_of, machine_with, state_in, state_with, Ran, replies_to}
use Rattle.x86_64.proofs.AskedCalls.{are_calls}
use Rattle.x86_64.proofs.Named.{none_named}

-- ---- replies, read off the machine's

abbrev answers : {C : Type 0} → (C → Call) → List C → List machine.Reply → List (Option Reply)
answers asks [] rs = []
answers asks (call ∷ calls) [] = []
answers asks (call ∷ calls) (r ∷ rs) = reply_of (asks call) r ∷ answers asks calls rs

replies_are : {C : Type 0} (asks : C → Call) (m : Machine) (s : State) (calls : List C) → replies_to asks m s calls ≡ answers asks calls (replies_of m s (map asks calls))
replies_are asks m s [] = refl
replies_are asks m s (call ∷ calls) =
    let after = step m s (asks call) in
    ap (λ told. reply_of (asks call) after.reply ∷ told) (replies_are asks m after.state calls)

all_some : (xs ys : List Reply) → map Some xs ≡ map Some ys → xs ≡ ys
all_some [] [] e = refl
all_some [] (y ∷ ys) e = cc
all_some (x ∷ xs) [] e = cc
all_some (x ∷ xs) (y ∷ ys) e =
    let first : x ≡ y = cc in
    let next : map Some xs ≡ map Some ys = cc in
    ap₂ (λ z zs. z ∷ zs) first (all_some xs ys next)

-- ---- of two hierarchies

gives_first : TakesBack put_first
gives_first = giving_from put_first (λ held frame. IsPermutation-refl (frame ∷ held))

-- before the calls
pub record IsPair {C : Type 0} (asks : C → Call) (L : ℕ) {Lent Other : Type 0} (h : Hierarchy Lent) (pool : FreeFrames) (k : Hierarchy Other) (others : FreeFrames) (calls : List C) : Type 0 where
  pub levels : h.layout.levels ≡ L
  pub other_levels : k.layout.levels ≡ L
  pub adds : IsAdded h.layout.added_flags
  pub other_adds : IsAdded k.layout.added_flags
  pub one : MayRun asks L calls h pool
  pub other : MayRun asks L calls k others
  pub alike : AreAlike L h pool k others

-- after the calls: if the first mapper gave these replies, so did the second
pub record IsPairAfter {C : Type 0} (asks : C → Call) (L : ℕ) {Lent Other : Type 0} (k : Hierarchy Other) (others : FreeFrames) (calls : List C) (told : List Reply) (after : Hierarchy Lent) (rest : FreeFrames) (other_after : Hierarchy Other) (other_rest : FreeFrames) : Type 0 where
  pub ran : Ran asks k (pool_store others) calls [] told other_after other_rest.frames
  pub alike : AreAlike L after rest other_after other_rest

module _ {C : Type 0} (asks : C → Call) (L : ℕ) (is_call : (call : C) → machine.IsCall L (asks call)) (some : 3 < L) where
  -- after the calls, as the machine leaves it
  ends : {Lent : Type 0} (h after : Hierarchy Lent) (pool : FreeFrames) (rest : List ℕ) (calls : List C) (told : List Reply) → after.layout ≡ h.layout → Ran asks h (pool_store pool) calls [] told after rest
      → state_in after.layout after.memory rest ≡ state_after (machine_with h (pool_store pool)) (state_with h (pool_store pool)) (map asks calls)
  ends h after pool rest calls told layout ran = ap (λ (l : Layout). state_in l after.memory rest) layout ∙ ran.state

  told_by : {Lent : Type 0} (h after : Hierarchy Lent) (pool : FreeFrames) (rest : List ℕ) (calls : List C) (told : List Reply) → Ran asks h (pool_store pool) calls [] told after rest
      → map Some told ≡ answers asks calls (replies_of (machine_with h (pool_store pool)) (state_with h (pool_store pool)) (map asks calls))
  told_by h after pool rest calls told ran = ran.replies ∙ replies_are asks (machine_of h.layout put_first) (state_in h.layout h.memory pool.frames) calls

  module _ {Lent Other : Type 0} (h : Hierarchy Lent) (pool : FreeFrames) (k : Hierarchy Other) (others : FreeFrames) (calls : List C) (pair : IsPair asks L h pool k others calls) where
    abbrev first : Machine
    first = machine_of h.layout put_first

    abbrev second : Machine
    second = machine_of k.layout put_first

    abbrev start : State
    start = state_in h.layout h.memory pool.frames

    abbrev other_start : State
    other_start = state_in k.layout k.memory others.frames

    runs : AlikeRuns h.layout.levels (state_after first start (map asks calls)) (state_after second other_start (map asks calls)) (replies_of first start (map asks calls)) (replies_of second other_start (map asks calls))
    runs = pairs_reply_alike first second (pair.levels ∙ sym pair.other_levels) refl gives_first pair.adds pair.other_adds (words h) (words k) h.layout.root k.layout.root (serves_below pool.limit) (serves_below others.limit) (map asks calls)
        (subst (λ L. AllCalls L (map asks calls)) (sym pair.levels) (are_calls L asks is_call calls))
        (subst (λ L. NoCallNames L h.layout.window (map asks calls)) (sym pair.levels) (none_named asks L some is_call h.layout.window calls pair.one.unnamed))
        (subst (λ L. NoCallNames L k.layout.window (map asks calls)) (sym pair.other_levels) (none_named asks L some is_call k.layout.window calls pair.other.unnamed))
        start other_start pair.one.fits pair.other.fits (subst (λ L. Alike L (paths h) (paths k)) (sym pair.levels) pair.alike.paths) pair.alike.pools

    module _ (after : Hierarchy Lent) (rest : FreeFrames) (told : List Reply) (layout : after.layout ≡ h.layout) (ran : Ran asks h (pool_store pool) calls [] told after rest.frames)
        (other_after : Hierarchy Other) (other_rest : FreeFrames) (other_told : List Reply) (other_layout : other_after.layout ≡ k.layout) (other_ran : Ran asks k (pool_store others) calls [] other_told other_after other_rest.frames) where
      one : state_in after.layout after.memory rest.frames ≡ state_after first start (map asks calls)
      one = ends h after pool rest.frames calls told layout ran

      other : state_in other_after.layout other_after.memory other_rest.frames ≡ state_after second other_start (map asks calls)
      other = ends k other_after others other_rest.frames calls other_told other_layout other_ran

      same_replies : other_told ≡ told
      same_replies =
          all_some other_told told (told_by k other_after others other_rest.frames calls other_told other_ran ∙ ap (answers asks calls) (sym runs.replies) ∙ sym (told_by h after pool rest.frames calls told ran))

      pub still_pair : IsPairAfter asks L k others calls told after rest other_after other_rest
      still_pair = record {
        ran = subst (λ told. Ran asks k (pool_store others) calls [] told other_after other_rest.frames) same_replies other_ran;
        alike = record {
          paths = subst₂ (λ (s t : State). Alike L s.paths t.paths) (sym one) (sym other)
              (subst (λ L. Alike L (state_after first start (map asks calls)).paths (state_after second other_start (map asks calls)).paths) pair.levels runs.paths);
          pools = ap (λ (s : State). s.pool) one ∙ runs.pools ∙ sym (ap (λ (s : State). s.pool) other);
        };
      }

-- if there were no replies before
pub from_none : {C : Type 0} (asks : C → Call) {Lent : Type 0} (h : Hierarchy Lent) (pool : FreeFrames) (calls : List C) (before told : List Reply) (after : Hierarchy Lent) (rest : List ℕ) → before ≡ []
    → Ran asks h (pool_store pool) calls before told after rest → Ran asks h (pool_store pool) calls [] told after rest
from_none asks h pool calls before told after rest none ran = subst (λ before. Ran asks h (pool_store pool) calls before told after rest) none ran
