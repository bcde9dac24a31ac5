-- The caches of a processor arise by calls, flushes and changes, and accesses go with the page walk if nothing is due.
use Rattle.std.proofs.Common.{◌≡◌, ℕ, Bool, List, [], ◌∷◌, ◌++◌, not, filter, Option, Some, None, refl, sym, ap, ◌∙◌, subst, false, cond}
use Rattle.x86_64_model.specs.Caches.{Cached}
use Rattle.x86_64_model.specs.Call.{Call, IsCall}
use Rattle.x86_64_model.specs.Flushing as kernel
use Rattle.x86_64_model.specs.Flushing.{Due, PageDue, StayFree, System, Event, Makes, Writes, Flushes, Changes, MayHappen, MayMake, AllMayHappen, after_event, after_events, due_after, mapped_by, fresh, freed_by}
use Rattle.x86_64_model.specs.Layout.{Layout}
use Rattle.x86_64_model.specs.Laws.Caches.{CachesInTurn, Happens}
use Rattle.x86_64_model.specs.Laws.Steps.{FitsState}
use Rattle.x86_64_model.specs.Lists.{In}
use Rattle.x86_64_model.specs.Machine.{Machine, State, step}
use Rattle.x86_64_model.specs.Hierarchy.{◌laid_in◌, machine_of, state_in, PoolFits, words}
use Rattle.x86_64_model.specs.Memory.{Memory, Words}
use Rattle.x86_64_model.specs.Path.{is_below}
use Rattle.x86_64_model.proofs.Lemmas.Caches.Runs.{flushes_are_enough}
use Rattle.x86_64_model.proofs.Lemmas.Caches.Whole.{calls_may_happen}
use Rattle.x86_64.specs.FlushesDue.{settles_any}
use Rattle.x86_64.specs.FreeFrames.{KeepsFree}
use Rattle.x86_64.specs.Processors.{system_in, IsReachable, LeftBy, NoneLoses, ArisesFirst, ArisesByCaching, ArisesByCalls, ArisesByFlushes, FlushedAccessesGo}
use Rattle.x86_64.proofs.CallEvents.{run_calls_are_events}

-- ---- one more event

module _ (m : Machine) (root : ℕ) where
  more_happen : (s : System) (events : List Event) (e : Event) → AllMayHappen m root s events → MayHappen m root (after_events m s events) e → AllMayHappen m root s (events ++ e ∷ [])
  more_happen s [] e all may = (may, tt)
  more_happen s (f ∷ events) e all may = (all.0, more_happen (after_event m s f) events e all.1 may)

  after_more : (s : System) (events : List Event) (e : Event) → after_events m s (events ++ e ∷ []) ≡ after_event m (after_events m s events) e
  after_more s [] e = refl
  after_more s (f ∷ events) e = after_more (after_event m s f) events e

-- a system that may stand in the middle of a call
record ArisesAs (m : Machine) (root : ℕ) (serves : ℕ → Bool) (now : System) : Type 0 where
  pub start : State
  pub tables : Words
  pub fits : FitsState m tables root serves start
  pub events : List Event
  pub happens : Happens m root tables start events now

module _ (m : Machine) (root : ℕ) (serves : ℕ → Bool) where
  one_more : (now : System) → ArisesAs m root serves now → (e : Event) → MayHappen m root now e → ArisesAs m root serves (after_event m now e)
  one_more now a e may = record {
    start = a.start;
    tables = a.tables;
    fits = a.fits;
    events = a.events ++ e ∷ [];
    happens = record {
      machine = a.happens.machine;
      levels = a.happens.levels;
      happen = more_happen m root (fresh a.start a.tables) a.events e a.happens.happen (subst (λ now. MayHappen m root now e) (sym a.happens.ends) may);
      ends = after_more m root (fresh a.start a.tables) a.events e ∙ ap (λ now. after_event m now e) a.happens.ends;
    };
  }

module _ (l : Layout) (take_back : List ℕ → ℕ → List ℕ) (serves : ℕ → Bool) where
  abbrev machine : Machine
  machine = machine_of l take_back

  abbrev As : System → Type 0
  As now = ArisesAs machine l.root serves now

  to_now : (m : Memory) (pool : List ℕ) (cached : List Cached) (due : List Due) → IsReachable l take_back serves m pool cached due → As (system_in l m pool cached due)
  to_now m pool cached due a = record { start = a.start; tables = a.tables; fits = a.fits; events = a.events; happens = a.happens }

  from_now : (m : Memory) (pool : List ℕ) (cached : List Cached) (due : List Due) → As (system_in l m pool cached due) → IsReachable l take_back serves m pool cached due
  from_now m pool cached due a = record { start = a.start; tables = a.tables; fits = a.fits; events = a.events; happens = a.happens }

  -- ---- changes of the caches

  caches_in_turn : (m : Memory) (pool : List ℕ) (due : List Due) (before : List Cached) (between : List (List Cached)) (after : List Cached)
      → As (system_in l m pool before due) → CachesInTurn l.levels l.root (words (l laid_in m)) before between after → As (system_in l m pool after due)
  caches_in_turn m pool due before [] after a same = subst (λ cached. As (system_in l m pool cached due)) same a
  caches_in_turn m pool due before (next ∷ more) after a turns =
      caches_in_turn m pool due next more after (one_more machine l.root serves (system_in l m pool before due) a (Changes next) turns.0) turns.1

  -- ---- a call

  called : (m n : Memory) (pool rest : List ℕ) (cached : List Cached) (due : List Due) (call : Call) (loses : Bool) → As (system_in l m pool cached due) → IsCall l.levels call
      → StayFree due pool rest → ((q r : List ℕ) (frame : ℕ) → In due (PageDue q frame) → mapped_by l.levels call ≡ Some r → is_below q r ≡ false)
      → (loses ≡ false → NoneLoses machine (state_in l m pool) call) → PoolFits (l laid_in m) serves pool
      → (step machine (state_in l m pool) call).state ≡ state_in l n rest → KeepsFree l m pool (freed_by l.levels (state_in l m pool) call) n rest → PoolFits (l laid_in n) serves rest
      → As (system_in l n rest cached (cond loses (due_after machine (state_in l m pool) call) [] ++ due))
  called m n pool rest cached due call loses a is waits apart kept_all fits steps free kept =
      let now = system_in l m pool cached due in
      let makes : MayMake machine now call loses = record { done = refl; is_call = is; kept = kept_all; waits = subst (λ (s : State). StayFree due pool s.pool) (sym steps) waits; apart = apart } in
      let made = one_more machine l.root serves now a (Makes call loses) makes in
      let after = step machine (state_in l m pool) call in
      let next = run_calls_are_events l take_back serves m n pool rest call steps free kept in
      let written = one_more machine l.root serves (after_event machine now (Makes call loses)) made (Writes after.state.paths (words (l laid_in n)))
      (calls_may_happen machine a.happens.machine l.root serves now fits call loses makes (words (l laid_in n)) next) in
      subst (λ (s : State). As (record { state = s; paths = s.paths; words = words (l laid_in n); cache = cached; due = cond loses (due_after machine (state_in l m pool) call) [] ++ due })) steps written

  -- ---- a flush

  none_settled : (due : List Due) → filter (λ d. not (settles_any l.levels None d)) due ≡ due
  none_settled [] = refl
  none_settled (d ∷ due) = ap (λ rest. d ∷ rest) (none_settled due)

  flushed : (m : Memory) (pool : List ℕ) (due : List Due) (f : Option kernel.Flush) (before after : List Cached) → As (system_in l m pool before due) → LeftBy l.levels f before after
      → As (system_in l m pool after (filter (λ d. not (settles_any l.levels f d)) due))
  flushed m pool due None before after a same = subst (λ due. As (system_in l m pool after due)) (sym (none_settled due)) (subst (λ cached. As (system_in l m pool cached due)) same a)
  flushed m pool due (Some f) before after a left = one_more machine l.root serves (system_in l m pool before due) a (Flushes f after) (record { done = refl; left = left })

pub arises_first : ArisesFirst
arises_first l take_back serves m pool is levels fits = record {
  start = state_in l m pool;
  tables = words (l laid_in m);
  fits = fits;
  events = [];
  happens = record { machine = is; levels = levels; happen = tt; ends = refl };
}

pub arises_by_caching : ArisesByCaching
arises_by_caching l take_back serves m pool due before after a caches =
    from_now l take_back serves m pool after due (caches_in_turn l take_back serves m pool due before caches.0 after (to_now l take_back serves m pool before due a) caches.1)

pub arises_by_calls : ArisesByCalls
arises_by_calls l take_back serves m n pool rest cached due call loses a is waits apart kept_all fits steps free kept =
    from_now l take_back serves n rest cached _ (called l take_back serves m n pool rest cached due call loses (to_now l take_back serves m pool cached due a) is waits apart kept_all fits steps free kept)

pub arises_by_flushes : ArisesByFlushes
arises_by_flushes l take_back serves m pool due f before after a left =
    from_now l take_back serves m pool after _ (flushed l take_back serves m pool due f before after (to_now l take_back serves m pool before due a) left)

pub flushed_accesses_go : FlushedAccessesGo
flushed_accesses_go l take_back serves m pool cached a p w access =
    flushes_are_enough (machine_of l take_back) l.root a.tables serves a.start a.fits a.events (system_in l m pool cached []) a.happens p (λ due i. absurd i) w access
