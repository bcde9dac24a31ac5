-- A processor that switches between address spaces is reached by events, and accesses go with the page walk if nothing is due.
use Rattle.std.proofs.Common.{◌≡◌, ◌≢◌, ◌⊎◌, inl, inr, ⊎_elim, ◌<◌, ℕ, Bool, true, false, true≢false, not, cond, List, [], ◌∷◌, ◌++◌, map, filter, Some, unwrap_or, refl, sym, ap, ◌∙◌, subst, eq-eqb, ne_eqb}
use Rattle.std.proofs.lemmas.Bool.{and_from, cases_eq}
use Rattle.x86_64_model.specs.Call.{Call, IsCall}
use Rattle.x86_64_model.specs.Flushing as kernel
use Rattle.x86_64_model.specs.Flushing.{Due, PageDue, TablesDue, StayFree, LosesNothing, freed_by, mapped_by}
use Rattle.x86_64_model.specs.Laws.SwitchedSpaces.{space_for, between, started_in, call_events, CallsOn}
use Rattle.x86_64_model.specs.Layout.{Layout}
use Rattle.x86_64_model.specs.Lists.{In}
use Rattle.x86_64_model.specs.Machine.{State, step}
use Rattle.x86_64_model.specs.Hierarchy.{machine_of, state_in}
use Rattle.x86_64_model.specs.MaySwitch.{AllMaySwitch, after_switches}
use Rattle.x86_64_model.specs.Memory.{Memory, Places, IsMapping, words_of}
use Rattle.x86_64_model.specs.Path.{is_below}
use Rattle.x86_64_model.specs.PathMap.{entry}
use Rattle.x86_64_model.specs.Pool.{TakesBack}
use Rattle.x86_64_model.specs.Spaces.{Avoids}
use Rattle.x86_64_model.specs.Store.{KeepsPool}
use Rattle.x86_64_model.specs.Switches.{Kernel, Switching, SwitchEvent, Abandons, Flushes, after_switch, is_concerned, is_held, pending}
use Rattle.x86_64_model.specs.Tags.{Tag, Tagged, Of, Global, TaggedFlush, Invlpg, InvpcidAll, is_current, is_left, is_settled}
use Rattle.x86_64_model.proofs.Lemmas.Lists.Members.{in_append, in_map, from_filter, passes}
use Rattle.x86_64_model.proofs.Lemmas.Switches.Calls.{calls_may_switch}
use Rattle.x86_64_model.proofs.Lemmas.Switches.Dues.{in_cond}
use Rattle.x86_64_model.proofs.Lemmas.Switches.Layouts.{like, is_like, spaces_may_start}
use Rattle.x86_64_model.proofs.Lemmas.Switches.Runs.{switches_are_flushed}
use Rattle.x86_64.specs.Calls.{page_of_call}
use Rattle.x86_64.specs.FlushesDue.{InPages, executed, settles_any, flush_for}
use Rattle.x86_64.specs.FreeFrames.{KeepsFree}
use Rattle.x86_64.specs.Processors.{NoneLoses}
use Rattle.x86_64.specs.Replies.{Reply}
use Rattle.x86_64.specs.Runs.{AfterStep, step_by}
use Rattle.x86_64.specs.SwitchingProcessors.{IsReachedBySwitches, NoneDue, RunsOn, made_by, with_due, executed_here, LeftHere, AreGivenUp, flush_events, ReachedFirst, ReachedByEvents, ReachedByCalls, ReachedByFlushes, ReachedByFlushedCalls, ReachedAccessesGo}
use Rattle.x86_64.specs.declared.flushing.Flush.{Flush}
use Rattle.x86_64.specs.declared.flushing.Flush.TheVariants.{Nothing, Tables, Page, Everything}
use Rattle.x86_64.proofs.CallEvents.{run_calls_are_events}
use Rattle.x86_64.proofs.CallsFlushed.{some_in_pages}
use Rattle.x86_64.proofs.FlushesTold.{flushes_settle}

-- ---- more events

module _ (k : Kernel) where
  all_more : (s : Switching) (events more : List SwitchEvent) → AllMaySwitch k s events → AllMaySwitch k (after_switches k s events) more → AllMaySwitch k s (events ++ more)
  all_more s [] more all later = later
  all_more s (e ∷ events) more all later = (all.0, all_more (after_switch k s e) events more all.1 later)

  after_more : (s : Switching) (events more : List SwitchEvent) → after_switches k s (events ++ more) ≡ after_switches k (after_switches k s events) more
  after_more s [] more = refl
  after_more s (e ∷ events) more = after_more (after_switch k s e) events more

pub reached_by_events : ReachedByEvents
reached_by_events k places m n pool rest layouts later s t reached events all ends = let ran = reached.switches in record {
  start = reached.start;
  events = reached.events ++ events;
  switches = record {
    gives = ran.gives;
    levels = ran.levels;
    started = ran.started;
    happen = all_more k reached.start reached.events events ran.happen (subst (λ now. AllMaySwitch k now events) (sym ran.ends) all);
    ends = after_more k reached.start reached.events events ∙ ap (λ now. after_switches k now events) ran.ends ∙ ends;
  };
}

pub reached_first : ReachedFirst
reached_first k places mapping levels gives sharing share m pool layouts are may one ione pcid = (
  record {
    start = started_in k (words_of m places) pool layouts one pcid;
    events = [];
    switches = record {
      gives = gives;
      levels = levels;
      started = spaces_may_start k places mapping levels sharing share m pool layouts are may one ione pcid;
      happen = tt;
      ends = refl;
    };
  },
  record { none_due = λ tag. refl; none_under_way = refl },
)

-- ---- a call

module _ (k : Kernel) (places : Places) (mapping : IsMapping places) (levels : 0 < k.levels) (gives : TakesBack k.take_back) (sharing : (root other : ℕ) → ℕ → Bool) (m n : Memory) (pool rest : List ℕ) (layouts : List Layout) (one : Layout)
    (call : Call) (reply : Reply) (loses : Bool) (reaches : ℕ → Bool) (everywhere : Bool) (runs : RunsOn k places sharing m pool n rest layouts one call reply loses reaches everywhere) where
  -- the layout has the kernel's number of levels and its mapping
  alike : one ≡ like k places one
  alike = is_like k places mapping levels sharing runs.all_share m pool layouts runs.are runs.before one runs.there

  abbrev l : Layout
  l = like k places one

  abbrev from : State
  from = state_in l m pool

  stepped : (step (machine_of l k.take_back) from call).state ≡ state_in l n rest
  stepped = ap (λ (a : AfterStep Reply). a.state)
      (subst (λ (l : Layout). step_by (machine_of l k.take_back) (state_in l m pool) call ≡ record { state = state_in l n rest; reply = Some reply }) alike runs.steps)

  kept : KeepsPool l k.serves m pool n rest
  kept = subst (λ (l : Layout). KeepsPool l k.serves m pool n rest) alike runs.keeps

  loses_nothing : loses ≡ false → NoneLoses (machine_of l k.take_back) from call
  loses_nothing not_so = subst (λ (l : Layout). NoneLoses (machine_of l k.take_back) (state_in l m pool) call) alike (runs.loses_nothing not_so)

  free : KeepsFree l m pool (freed_by l.levels from call) n rest
  free = subst (λ (l : Layout). KeepsFree l m pool (freed_by l.levels (state_in l m pool) call) n rest) alike runs.free

  same_due : made_by k l m pool call loses ≡ made_by k one m pool call loses
  same_due = ap (λ (l : Layout). made_by k l m pool call loses) (sym alike)

  module _ (s : Switching) where
    abbrev now : Switching
    now = between k (words_of m places) pool layouts s

    abbrev events : List SwitchEvent
    events = call_events k (words_of m places) (words_of n places) one call loses reaches everywhere

    abbrev called : Switching
    called = with_due (made_by k l m pool call loses) reaches everywhere s

    module _ (waits : (c : ℕ) → StayFree (s.due (Of c)) pool rest)
        (apart : (tag : Tag) (q r : List ℕ) (frame : ℕ) → In (s.due tag) (PageDue q frame) → mapped_by k.levels call ≡ Some r → is_below q r ≡ false) where
      calls_on : CallsOn k places sharing m pool n rest layouts one s call loses reaches everywhere
      calls_on = record {
        is_sharing = runs.is_sharing;
        all_share = runs.all_share;
        there = runs.there;
        are = runs.are;
        before = runs.before;
        later = runs.later;
        adds = runs.adds;
        is_call = subst (λ (l : Layout). IsCall l.levels call) alike runs.is_call;
        steps = stepped;
        keeps = runs.keeps;
        root_entries = runs.root_entries;
        free = run_calls_are_events l k.take_back k.serves m n pool rest call stepped free kept.fits;
        loses_nothing = λ not_so q u. subst (λ (st : State). LosesNothing (entry from.paths q) (entry st.paths q)) stepped (loses_nothing not_so q u);
        waits = waits;
        apart = apart;
        unreached = λ b ib off. let u = runs.unreached b ib off in
            (u.0, subst (λ (l : Layout). Avoids l.levels (sharing one.root b.root) call) alike u.1);
        avoids = λ off. subst (λ (l : Layout). Avoids l.levels k.shared call) alike (runs.avoids off);
      }

      call_reached : IsReachedBySwitches k places m pool layouts s → IsReachedBySwitches k places n rest layouts (with_due (made_by k one m pool call loses) reaches everywhere s)
      call_reached reached =
          let may = calls_may_switch k places mapping levels gives sharing m n pool rest layouts one s call loses reaches everywhere calls_on in
          subst (λ due. IsReachedBySwitches k places n rest layouts (with_due due reaches everywhere s)) same_due
          (reached_by_events k places m n pool rest layouts layouts s called reached events may.0 may.1)

pub reached_by_calls : ReachedByCalls
reached_by_calls k places mapping levels gives sharing m n pool rest layouts one call reply loses reaches everywhere s runs reached waits apart =
    let same = is_like k places mapping levels sharing runs.all_share m pool layouts runs.are runs.before one runs.there in
    call_reached k places mapping levels gives sharing m n pool rest layouts one call reply loses reaches everywhere runs s
    waits
    (λ tag q r frame i is. apart tag q r frame i (ap (λ (l : Layout). mapped_by l.levels call) same ∙ is)) reached

-- ---- a flush

none_in : {X : Type 0} (xs : List X) → ((x : X) → In xs x → ⊥) → xs ≡ []
none_in [] none = refl
none_in (x ∷ xs) none = absurd (none x (inl refl))

module _ (k : Kernel) (places : Places) (m : Memory) (pool : List ℕ) (layouts : List Layout) where
  abbrev at : Switching → Switching
  at s = between k (words_of m places) pool layouts s

  -- ---- PCIDs are given up

  given_up_stay : (s : Switching) (cs : List ℕ) → after_switches k (at s) (map Abandons cs) ≡ at (after_switches k s (map Abandons cs))
  given_up_stay s [] = refl
  given_up_stay s (c ∷ cs) = given_up_stay (after_switch k s (Abandons c)) cs

  may_give_up : (s : Switching) (cs : List ℕ) → ((c : ℕ) → In cs c → c ≢ s.pcid) → AllMaySwitch k (at s) (map Abandons cs)
  may_give_up s [] others = tt
  may_give_up s (c ∷ cs) others = (others c (inl refl), may_give_up (after_switch k s (Abandons c)) cs (λ d i. others d (inr i)))

  of_same : (c d : ℕ) → Of c ≡ Of d → c ≡ d
  of_same c d is = ap number is
    where
      number : Tag → ℕ
      number (Of c) = c
      number Global = 0

  -- what is due then was due before, for a PCID that isn't given up
  due_then : (s : Switching) (cs : List ℕ) (tag : Tag) (d : Due) → In ((after_switches k s (map Abandons cs)).due tag) d → In (s.due tag) d × ((c : ℕ) → tag ≡ Of c → In cs c → ⊥)
  due_then s [] tag d i = (i, λ c is no. no)
  due_then s (g ∷ cs) tag d i = let more = due_then (after_switch k s (Abandons g)) cs tag d i in by tag more.0 more.1
    where
      by : (tag : Tag) → In ((after_switch k s (Abandons g)).due tag) d → ((c : ℕ) → tag ≡ Of c → In cs c → ⊥) → In (s.due tag) d × ((c : ℕ) → tag ≡ Of c → In (g ∷ cs) c → ⊥)
      by Global i none = (i, λ c is there. cc)
      by (Of c) i none = ⊎_elim
          (λ same. absurd (subst (λ b. In (cond b [] (s.due (Of c))) d) (eq-eqb c g same) i))
          (λ apart. (
            subst (λ b. In (cond b [] (s.due (Of c))) d) (ne_eqb c g apart) i,
            λ e is. ⊎_elim (λ here. apart (of_same c e is ∙ sym here)) (λ there. none e is there),
          ))
          (cases_eq c g)

  none_way : (s : Switching) (cs : List ℕ) → (after_switches k s (map Abandons cs)).under_way ≡ s.under_way
  none_way s [] = refl
  none_way s (c ∷ cs) = none_way (after_switch k s (Abandons c)) cs

  -- ---- a flush of all that is due

  module _ (s : Switching) (none : s.under_way ≡ []) (f : TaggedFlush) (after : List Tagged) where
    abbrev flushed : Switching
    flushed = after_switch k s (Flushes f after)

    -- nothing more is due after it than before, and what it settles isn't
    still_due : (tag : Tag) (d : Due) → In (flushed.due tag) d → In (s.due tag) d × (not (is_settled k.levels s.pcid f tag d) ≡ true)
    still_due tag d i = ⊎_elim
        (λ i. (
          from_filter (λ due. not (is_settled k.levels s.pcid f tag due)) (s.due tag) d i,
          passes (λ due. not (is_settled k.levels s.pcid f tag due)) (s.due tag) d i,
        ))
        (λ i. absurd (subst (λ due. In due d) none (in_cond _ s.under_way d i)))
        (in_append (filter (λ due. not (is_settled k.levels s.pcid f tag due)) (s.due tag)) (pending s tag) d i)

    module _ (given_up : List ℕ) (others : (c : ℕ) → In given_up c → c ≢ s.pcid)
        (settled_here : (tag : Tag) (d : Due) → In (s.due tag) d → is_current s.pcid tag ≡ true → is_settled k.levels s.pcid f tag d ≡ true)
        (or_given_up : (c : ℕ) (d : Due) → In (s.due (Of c)) d → c ≢ s.pcid → (is_settled k.levels s.pcid f (Of c) d ≡ true) ⊎ In given_up c) where
      abbrev then : Switching
      then = after_switches k flushed (map Abandons given_up)

      settled_then : (tag : Tag) (d : Due) → In (s.due tag) d → ((c : ℕ) → tag ≡ Of c → In given_up c → ⊥) → is_settled k.levels s.pcid f tag d ≡ true
      settled_then Global d i counted = settled_here Global d i refl
      settled_then (Of c) d i counted = ⊎_elim
          (λ same. settled_here (Of c) d i (eq-eqb c s.pcid same))
          (λ apart. ⊎_elim (λ settled. settled) (λ gone. absurd (counted c refl gone)) (or_given_up c d i apart))
          (cases_eq c s.pcid)

      none_then : NoneDue then
      none_then = record {
        none_due = λ tag. none_in (then.due tag) (λ d i. let x = due_then flushed given_up tag d i in let y = still_due tag d x.0 in
            true≢false (sym y.1 ∙ ap not (settled_then tag d y.0 x.1)));
        none_under_way = none_way flushed given_up ∙ none;
      }

      flush_reached : IsReachedBySwitches k places m pool layouts s → ((c : Tagged) → In after c → In s.cache c × (is_left k.levels s.pcid f c.tag c.item ≡ true)) → IsReachedBySwitches k places m pool layouts then × NoneDue then
      flush_reached reached left = (
        reached_by_events k places m m pool pool layouts layouts s then reached (Flushes f after ∷ map Abandons given_up) (left, may_give_up flushed given_up others) (given_up_stay flushed given_up),
        none_then,
      )

  module _ (s : Switching) (reached : IsReachedBySwitches k places m pool layouts s) (none : s.under_way ≡ []) (due : List Due) (among : (tag : Tag) (d : Due) → In (s.due tag) d → In due d)
      (held : (c : ℕ) (d : Due) → In (s.due (Of c)) d → is_held s.reaches (s.holder c) ≡ true) (p : ℕ) (within : InPages k.levels due p) (after : List Tagged) (given_up : List ℕ) where
    -- the flush for all that is due settles it
    settled : (d : Due) → In due d → settles_any k.levels (executed (flush_for due) p) d ≡ true
    settled = (flushes_settle k.levels due p).settled within

    -- the state after the flush
    abbrev end : Flush → Switching
    end flush = after_switches k s (flush_events (executed_here flush p) after given_up)

    by_invlpg : ((d : Due) → In due d → kernel.settles k.levels (kernel.Invlpg p) d ≡ true) → (flush : Flush) → (flush ≢ Everything) → AreGivenUp s flush given_up
        → ((c : Tagged) → In after c → In s.cache c × (is_left k.levels s.pcid (Invlpg p) c.tag c.item ≡ true))
        → let t = after_switches k s (Flushes (Invlpg p) after ∷ map Abandons given_up) in IsReachedBySwitches k places m pool layouts t × NoneDue t
    by_invlpg all flush some gone left = flush_reached s none (Invlpg p) after given_up gone.others
        (λ tag d i serves. and_from _ _ serves (all d (among tag d i)))
        (λ c d i apart. inr (gone.all some c apart (held c d i))) reached left

    by_flush : (flush : Flush) → flush_for due ≡ flush → AreGivenUp s flush given_up → LeftHere k.levels s (executed_here flush p) after → IsReachedBySwitches k places m pool layouts (end flush) × NoneDue (end flush)
    by_flush Nothing is gone left = (
      reached_by_events k places m m pool pool layouts layouts s (end Nothing) reached (map Abandons given_up) (may_give_up s given_up gone.others) (given_up_stay s given_up),
      record {
        none_due = λ tag. none_in _ (λ d i. true≢false (sym (ap (λ f. settles_any k.levels (executed f p) d) (sym is) ∙ settled d (among tag d (due_then s given_up tag d i).0))));
        none_under_way = none_way s given_up ∙ none;
      },
    )
    by_flush Tables is gone left = by_invlpg (λ d i. (flushes_settle k.levels due p).tables is p d i) Tables (λ e. cc) gone left
    by_flush Page is gone left = by_invlpg (λ d i. ap (λ f. settles_any k.levels (executed f p) d) (sym is) ∙ settled d i) Page (λ e. cc) gone left
    by_flush Everything is gone left = flush_reached s none InvpcidAll after given_up gone.others (λ tag d i serves. refl) (λ c d i apart. inl refl) reached left

pub reached_by_flushes : ReachedByFlushes
reached_by_flushes k places m pool layouts s reached none due among held p within after left given_up gone =
    by_flush k places m pool layouts s reached none due among held p within after given_up (flush_for due) refl gone left

-- ---- a call with its flush

pub reached_by_flushed_calls : ReachedByFlushedCalls
reached_by_flushed_calls k places mapping levels gives sharing m n pool rest layouts one call reply loses reaches everywhere s runs reached settled flush tells after left given_up gone =
    let new = made_by k one m pool call loses in
    let called = with_due new reaches everywhere s in
    let r = (step (machine_of one k.take_back) (state_in one m pool) call).reply in
    let freed = freed_by one.levels (state_in one m pool) call in
    let p = unwrap_or (page_of_call one.levels call) 0 in
    let is_told : flush ≡ flush_for new = tells one.window freed r refl (ap (λ (a : AfterStep Reply). a.reply) runs.steps) in
    let same : one.levels ≡ k.levels = runs.before.same_levels one runs.there in
    let within : InPages k.levels new p = subst (λ L. InPages L new p) same (some_in_pages one.levels one.window freed r loses call) in
    let then = reached_by_calls k places mapping levels gives sharing m n pool rest layouts one call reply loses reaches everywhere s runs reached
    (λ c f d i. absurd (none_before (Of c) (TablesDue d.0) d.1)) (λ tag q x frame i. absurd (none_before tag (PageDue q frame) i)) in
    by_flush k places n rest layouts called then refl new among held p within after given_up flush (sym is_told) gone left
  where
    none_before : (tag : Tag) (d : Due) → In (s.due tag) d → ⊥
    none_before tag d i = subst (λ due. In due d) (settled.none_due tag) i

    among : (tag : Tag) (d : Due) → In ((with_due (made_by k one m pool call loses) reaches everywhere s).due tag) d → In (made_by k one m pool call loses) d
    among tag d i = ⊎_elim (in_cond (is_concerned s.holder reaches everywhere tag) (made_by k one m pool call loses) d) (λ i. absurd (none_before tag d i))
        (in_append (cond (is_concerned s.holder reaches everywhere tag) (made_by k one m pool call loses) []) (s.due tag) d i)

    held : (c : ℕ) (d : Due) → In ((with_due (made_by k one m pool call loses) reaches everywhere s).due (Of c)) d → is_held reaches (s.holder c) ≡ true
    held c d i = ⊎_elim (by (is_held reaches (s.holder c))) (λ i. absurd (none_before (Of c) d i))
        (in_append (cond (is_held reaches (s.holder c)) (made_by k one m pool call loses) []) (s.due (Of c)) d i)
      where
        by : (b : Bool) → In (cond b (made_by k one m pool call loses) []) d → b ≡ true
        by true i = refl
        by false i = absurd i

-- ---- accesses

pub reached_accesses_go : ReachedAccessesGo
reached_accesses_go k places m pool layouts s reached none one ione here p w may =
    switches_are_flushed k reached.start reached.events (between k (words_of m places) pool layouts s) reached.switches
    (space_for k (words_of m places) one) (in_map (space_for k (words_of m places)) layouts one ione) here p
    (λ due i. absurd (subst (λ all. In all due) none i)) w may
