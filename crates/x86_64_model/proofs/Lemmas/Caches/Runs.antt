-- Lists of events: what has to be flushed after calls is enough, and the processor reads only words of tables.
use Rattle.std.proofs.Common.{◌≡◌, ◌≢◌, ◌⊎◌, inl, inr, ⊎_elim, ◌<◌, ◌+◌, ◌%◌, ℕ, Bool, true, false, List, [], ◌∷◌, Some, IsSome, option_map, refl, sym, ap, ◌∙◌, subst}
use Rattle.std.proofs.lemmas.Option.{same_Some}
use Rattle.x86_64_model.specs.Lists.{In}
use Rattle.x86_64_model.specs.Memory.{Words}
use Rattle.x86_64_model.specs.PathMap.{entry}
use Rattle.x86_64_model.specs.Path.{level_of, begins}
use Rattle.x86_64_model.specs.Pool.{IsTable}
use Rattle.x86_64_model.specs.Position.{span, page_path}
use Rattle.x86_64_model.specs.Window.{entry_at}
use Rattle.x86_64_model.specs.Machine.{Machine, IsMachine, State}
use Rattle.x86_64_model.specs.Caches.{PartialWalk, Table, Page, MayRead, MayAccess, walk_with_rights, walked_in}
use Rattle.x86_64_model.specs.Flushing.{Due, IsEmptied, concerns, System, Event, Makes, Writes, Flushes, Changes, Exchanges, after_event, MayHappen, AllMayHappen, after_events, fresh}
use Rattle.x86_64_model.specs.Laws.Caches.{FlushesAreEnough, AccessesAreWalks, OnlyTablesAreRead, WalksThere, IsStale, StaleAccessesAreOld, IsLetGo, LetGoIsUnreached}
use Rattle.x86_64_model.specs.Laws.Steps.{FitsState}
use Rattle.x86_64_model.specs.PageWalk.{Walked, page_walk}
use Rattle.x86_64_model.specs.Arrivals.{NoWorse}
use Rattle.x86_64_model.proofs.Lemmas.Caches.Walks.{walks_with_rights}
use Rattle.x86_64_model.proofs.Lemmas.Machines.Fitting.{sound_of_fits}
use Rattle.x86_64_model.proofs.Lemmas.Machines.States.{step_sound}
use Rattle.x86_64_model.proofs.Lemmas.Walks.Agrees.{reads}
use Rattle.x86_64_model.proofs.Lemmas.Walks.Walked.{Reads}
use Rattle.x86_64_model.proofs.Lemmas.Caches.Agrees.{leads, agrees_leads, table_there}
use Rattle.x86_64_model.proofs.Lemmas.Caches.Items.{Access, hit_goes, walk_goes}
use Rattle.x86_64_model.proofs.Lemmas.Caches.Stale.{stale, settled_stale, walked_path, let_go}
use Rattle.x86_64_model.proofs.Lemmas.Caches.Safe.{IsSafe, Safe, make_keeps, make_moves, write_keeps, write_moves, flush_keeps, change_keeps, table_safe}
use Rattle.x86_64_model.proofs.Lemmas.Caches.Exchanged.{exchange_safe}
use Rattle.x86_64_model.proofs.Lemmas.Caches.Windowed.{AsBefore, seen_table}

module _ (m : Machine) (is : IsMachine m) (levels : 0 < m.levels) (root : ℕ) (serves : ℕ → Bool) where
  pub event_safe : (s : System) → IsSafe m root serves s → (e : Event) → MayHappen m root s e → IsSafe m root serves (after_event m s e)
  event_safe s safe (Makes call loses) may = record {
    sound = step_sound m.levels m.window root serves s.state safe.sound m.added_flags is.adds m.take_back is.gives call may.is_call;
    valid = safe.valid;
    moves = make_moves m root serves s safe is call loses may;
    items = λ c i. make_keeps m root serves s safe is call loses may c (safe.items c i);
  }
  event_safe s safe (Writes N U) may = record {
    sound = safe.sound;
    valid = may.valid;
    moves = write_moves m root serves s safe N U may;
    items = λ c i. write_keeps m root serves s safe N U may c (safe.items c i);
  }
  event_safe s safe (Flushes f after) may = record {
    sound = safe.sound;
    valid = safe.valid;
    moves = λ q. AsBefore (sym (ap (λ M. entry M q) may.done));
    items = λ c i. let left = may.left c i in flush_keeps m root serves s safe f after c left.1 (safe.items c left.0);
  }
  event_safe s safe (Changes after) may = record {
    sound = safe.sound;
    valid = safe.valid;
    moves = safe.moves;
    items = change_keeps m root serves s safe levels after may;
  }
  event_safe s safe (Exchanges q w U) may = exchange_safe m root serves s safe q w U may

  pub events_safe : (events : List Event) (s : System) → IsSafe m root serves s → AllMayHappen m root s events → IsSafe m root serves (after_events m s events)
  events_safe [] s safe all = safe
  events_safe (e ∷ es) s safe all = events_safe es (after_event m s e) (event_safe s safe e all.0) all.1

  pub fresh_safe : (T : Words) (s : State) → FitsState m T root serves s → IsSafe m root serves (fresh s T)
  fresh_safe T s fits = record { sound = sound_of_fits m.levels m.window T root serves s fits; valid = fits.valid; moves = λ q. AsBefore refl; items = λ c i. absurd i }

  module _ (s : System) (safe : IsSafe m root serves s) where
    -- the entries that the processor reads
    abbrev E : List ℕ → ℕ
    E = entry_at m.window s.paths

    r : Reads m.levels s.words root E
    r = reads m.levels s.words root s.paths m.window safe.valid

    pub stale_or_not : (p : ℕ) (w : PartialWalk) → MayAccess m.levels root s.words s.cache p w → WalksThere (walk_with_rights m.levels s.words root p) w ⊎ IsStale m.levels m.window s.due E w
    stale_or_not p w may = ⊎_elim (λ goes. inl goes) (λ x. inr (stale m.levels m.window s.due E w x)) (by may)
      where
        by : MayAccess m.levels root s.words s.cache p w → Access m.levels root s.words E r levels m.window s.due s.state.pool p w
        by (inl (there, on)) = hit_goes m.levels root s.words E r levels m.window s.due s.state.pool p w (safe.items (Page w) there) on
        by (inr (t, may, on, arrives)) = walk_goes m.levels root s.words E r levels m.window s.due s.state.pool p t w (table_safe m root serves s safe levels t may) on arrives

    pub on_path : (p : ℕ) (w : PartialWalk) → MayAccess m.levels root s.words s.cache p w → begins w.path (page_path m.levels p) ≡ true
    on_path p w (inl (there, on)) = on
    on_path p w (inr (t, may, on, arrives)) = walked_path m.levels s.words p t w on arrives

    pub goes : (p : ℕ) → ((due : Due) → In s.due due → concerns m.levels m.window due p ≡ false) → (w : PartialWalk) → MayAccess m.levels root s.words s.cache p w → WalksThere (walk_with_rights m.levels s.words root p) w
    goes p settled w may = ⊎_elim (λ goes. goes) (λ x. absurd (settled_stale m.levels m.window s.due E w p (on_path p w may) settled x)) (stale_or_not p w may)

    pub unreached : (a : ℕ) → IsLetGo m.levels m.window s.due E a → (p : ℕ) (w : PartialWalk) → MayAccess m.levels root s.words s.cache p w → (walked_in m.levels p w).address ≢ a
    unreached a free p w may = let_go m.levels m.window s.due s.words root E r levels a free p w (stale_or_not p w may)

    pub reads_tables : (t : PartialWalk) → MayRead root s.cache t → (IsTable m.levels root s.paths t.frame × IsSome (s.words t.frame)) ⊎ IsEmptied s.due s.state.pool s.words t.frame
    reads_tables t may = ⊎_elim
        (λ e. table (subst (λ t. leads m.levels root E t.path ≡ Some t.frame) (sym e) refl))
        (λ there. by (safe.items (Table t) there)) may
      where
        table : leads m.levels root E t.path ≡ Some t.frame → (IsTable m.levels root s.paths t.frame × IsSome (s.words t.frame)) ⊎ IsEmptied s.due s.state.pool s.words t.frame
        table there = inl (seen_table m.levels root s.paths s.paths s.due s.state.pool s.words m.window safe.valid.self t.path t.frame there, table_there m.levels s.words root E r t.path t.frame there)

        by : Safe m root s (Table t) → (IsTable m.levels root s.paths t.frame × IsSome (s.words t.frame)) ⊎ IsEmptied s.due s.state.pool s.words t.frame
        by (inl a) = table (agrees_leads m.levels root E t a)
        by (inr (inl x)) = inr x
        by (inr (inr x)) = table x.1

pub flushes_are_enough : FlushesAreEnough
flushes_are_enough m root T serves s fits events now ran = subst
    (λ now. (p : ℕ) → ((due : Due) → In now.due due → concerns m.levels m.window due p ≡ false) → (w : PartialWalk) → MayAccess m.levels root now.words now.cache p w → WalksThere (walk_with_rights m.levels now.words root p) w)
    ran.ends
    (goes m ran.machine ran.levels root serves (after_events m (fresh s T) events) (events_safe m ran.machine ran.levels root serves events (fresh s T) (fresh_safe m ran.machine ran.levels root serves T s fits) ran.happen))

pub stale_accesses_are_old : StaleAccessesAreOld
stale_accesses_are_old m root T serves s fits events now ran = subst
    (λ now. (p : ℕ) (w : PartialWalk) → MayAccess m.levels root now.words now.cache p w → WalksThere (walk_with_rights m.levels now.words root p) w ⊎ IsStale m.levels m.window now.due (entry_at m.window now.paths) w)
    ran.ends
    (stale_or_not m ran.machine ran.levels root serves (after_events m (fresh s T) events) (events_safe m ran.machine ran.levels root serves events (fresh s T) (fresh_safe m ran.machine ran.levels root serves T s fits) ran.happen))

pub let_go_is_unreached : LetGoIsUnreached
let_go_is_unreached m root T serves s fits events now ran = subst
    (λ now. (a : ℕ) → IsLetGo m.levels m.window now.due (entry_at m.window now.paths) a → (p : ℕ) (w : PartialWalk) → MayAccess m.levels root now.words now.cache p w → (walked_in m.levels p w).address ≢ a)
    ran.ends
    (unreached m ran.machine ran.levels root serves (after_events m (fresh s T) events) (events_safe m ran.machine ran.levels root serves events (fresh s T) (fresh_safe m ran.machine ran.levels root serves T s fits) ran.happen))

pub only_tables_are_read : OnlyTablesAreRead
only_tables_are_read m root T serves s fits events now ran = subst
    (λ now. (t : PartialWalk) → MayRead root now.cache t → (IsTable m.levels root now.paths t.frame × IsSome (now.words t.frame)) ⊎ IsEmptied now.due now.state.pool now.words t.frame)
    ran.ends
    (reads_tables m ran.machine ran.levels root serves (after_events m (fresh s T) events) (events_safe m ran.machine ran.levels root serves events (fresh s T) (fresh_safe m ran.machine ran.levels root serves T s fits) ran.happen))

pub accesses_are_walks : AccessesAreWalks
accesses_are_walks m root T serves s fits events now ran p settled w may walked is =
    let there = flushes_are_enough m root T serves s fits events now ran p settled w may in let v = there.0 in
    subst (λ walked. (v : Walked) × (page_walk m.levels now.words root p ≡ Some v) × NoWorse walked v) (same_Some _ _ is) (
      walked_in m.levels p v,
      walks_with_rights m.levels now.words root p ∙ ap (option_map (walked_in m.levels p)) there.1,
      record {
        same_place = λ i. there.3 i + p % span (level_of m.levels (there.2 i));
        write_kept = there.4.write;
        user_kept = there.4.user;
      },
    )
