-- Lists of events of a processor that switches between spaces.
use Rattle.std.proofs.Common.{◌≡◌, inl, inr, ⊎_elim, ◌<◌, true, List, [], ◌∷◌, sym, ap, subst}
use Rattle.x86_64_model.specs.Lists.{In}
use Rattle.x86_64_model.specs.Path.{begins}
use Rattle.x86_64_model.specs.PathMap.{PathMap, entry}
use Rattle.x86_64_model.specs.Pool.{TakesBack}
use Rattle.x86_64_model.specs.Position.{page_path}
use Rattle.x86_64_model.specs.Window.{entry_at}
use Rattle.x86_64_model.specs.Caches.{MayAccess}
use Rattle.x86_64_model.specs.Flushing.{Due, BelowDue}
use Rattle.x86_64_model.specs.Laws.Switches.{IsStarted, Switches, due_here, SwitchesAreFlushed, StaleSwitchesAreOld, CurrentIsASpace, LetGoIsUnreachedHere}
use Rattle.x86_64_model.specs.Tags.{Tag, Of, Tagged, usable}
use Rattle.x86_64_model.specs.Switches.{Kernel, Switching, SwitchEvent, Makes, Writes, Marks, Returns, Pools, Begins, Ends, Loads, Abandons, Flushes, Changes, after_switch}
use Rattle.x86_64_model.specs.MaySwitch.{MaySwitch, AllMaySwitch, after_switches}
use Rattle.x86_64_model.proofs.Lemmas.Caches.Stale.{stale, settled_stale, walked_path, let_go}
use Rattle.x86_64_model.proofs.Lemmas.Walks.Agrees.{reads}
use Rattle.x86_64_model.proofs.Lemmas.Walks.Walked.{Reads}
use Rattle.x86_64_model.proofs.Lemmas.Caches.Windowed.{AsBefore}
use Rattle.x86_64_model.proofs.Lemmas.Switches.Dues.{in_cond}
use Rattle.x86_64_model.proofs.Lemmas.Switches.Safe.{IsSafe, goes, change_keeps}
use Rattle.x86_64_model.proofs.Lemmas.Switches.Makes.{make_keeps}
use Rattle.x86_64_model.proofs.Lemmas.Switches.Writes.{write_keeps}
use Rattle.x86_64_model.proofs.Lemmas.Switches.Marks.{mark_keeps}
use Rattle.x86_64_model.proofs.Lemmas.Switches.Events.{flush_keeps, return_keeps, pool_keeps, begin_keeps, end_keeps, load_keeps, abandon_keeps}

module _ (k : Kernel) (gives : TakesBack k.take_back) (levels : 0 < k.levels) where
  pub event_safe : (s : Switching) → IsSafe k s → (e : SwitchEvent) → MaySwitch k s e → IsSafe k (after_switch k s e)
  event_safe s safe (Makes a call loses reaches everywhere next) may = make_keeps k gives s safe a call loses reaches everywhere next may
  event_safe s safe (Writes U) may = write_keeps k s safe U may
  event_safe s safe (Marks next U) may = mark_keeps k s safe next U may
  event_safe s safe Returns may = return_keeps k s safe may
  event_safe s safe (Pools pool) may = pool_keeps k s safe pool may
  event_safe s safe (Begins a) may = begin_keeps k s safe a may
  event_safe s safe (Ends root) may = end_keeps k s safe root may
  event_safe s safe (Loads root pcid keeps after) may = load_keeps k s safe root pcid keeps after may
  event_safe s safe (Abandons pcid) may = abandon_keeps k s safe pcid may
  event_safe s safe (Flushes f after) may = flush_keeps k s safe f after may
  event_safe s safe (Changes after) may = change_keeps k levels s safe after may

  pub events_safe : (events : List SwitchEvent) (s : Switching) → IsSafe k s → AllMaySwitch k s events → IsSafe k (after_switches k s events)
  events_safe [] s safe all = safe
  events_safe (e ∷ es) s safe all = events_safe es (after_switch k s e) (event_safe s safe e all.0) all.1

pub start_safe : (k : Kernel) (s : Switching) → IsStarted k s → IsSafe k s
start_safe k s start = record {
  held = start.held;
  current = (start.space, start.there, start.is_root);
  holds = start.holds;
  moves = λ a ia q. AsBefore (ap (λ (M : PathMap). entry M q) (sym (start.done a ia)));
  moves_shared = λ a ia q on. AsBefore (ap (λ (M : PathMap). entry M q) (sym (start.done a ia)));
  dues = record {
    covers = λ tag d i. absurd (none_now d (in_cond _ s.under_way d i));
    narrow = λ c q i h. absurd (none_due (Of c) (BelowDue q) i);
    never_all = λ tag i. none_due tag (BelowDue []) i;
    avoids = λ e q i. absurd (none_now _ i);
    never_all_now = λ i. none_now _ i;
  };
  items = λ c x i a ia h. absurd (none_cached _ i);
  globals = λ x i. absurd (none_cached _ i);
}
  where
    none_now : (d : Due) → In s.under_way d → ⊥
    none_now d i = subst (λ due. In due d) start.none_under_way i

    none_due : (tag : Tag) (d : Due) → In (s.due tag) d → ⊥
    none_due tag d i = subst (λ due. In due d) (start.none_due tag) i

    none_cached : (c : Tagged) → In s.cache c → ⊥
    none_cached c i = subst (λ cache. In cache c) start.none_cached i

reached_safe : (k : Kernel) (start : Switching) (events : List SwitchEvent) (now : Switching) → Switches k start events now → IsSafe k now
reached_safe k start events now ran = subst (IsSafe k) ran.ends (events_safe k ran.gives ran.levels events start (start_safe k start ran.started) ran.happen)

pub stale_switches_are_old : StaleSwitchesAreOld
stale_switches_are_old k start events now ran a ia here p w may = ⊎_elim (λ x. inl x) (λ x. inr (stale k.levels a.window (due_here now) (entry_at a.window a.paths) w x))
    (goes k ran.levels now (reached_safe k start events now ran) a ia here p w may)

pub switches_are_flushed : SwitchesAreFlushed
switches_are_flushed k start events now ran a ia here p settled w may = ⊎_elim (λ x. x)
    (λ x. absurd (settled_stale k.levels a.window (due_here now) (entry_at a.window a.paths) w p (on_path may) settled x))
    (stale_switches_are_old k start events now ran a ia here p w may)
  where
    on_path : MayAccess k.levels now.root now.words (usable now.pcid now.cache) p w → begins w.path (page_path k.levels p) ≡ true
    on_path (inl (there, on)) = on
    on_path (inr (t, may, on, arrives)) = walked_path k.levels now.words p t w on arrives

pub current_is_a_space : CurrentIsASpace
current_is_a_space k start events now ran = let safe = reached_safe k start events now ran in let c = safe.current in (safe.held, c.0, c.1, c.2)

pub let_go_is_unreached_here : LetGoIsUnreachedHere
let_go_is_unreached_here k start events now ran a ia here address free p w may = let safe = reached_safe k start events now ran in
    let_go k.levels a.window (due_here now) now.words now.root (entry_at a.window a.paths) (subst (λ root. Reads k.levels now.words root (entry_at a.window a.paths)) here (reads k.levels now.words a.root a.paths a.window (safe.held.valid a ia)))
    ran.levels address free p w (stale_switches_are_old k start events now ran a ia here p w may)
