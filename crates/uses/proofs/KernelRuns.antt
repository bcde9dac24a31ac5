-- A kernel that runs processes on processors runs them still after what it and they do.
use Rattle.std.proofs.Common.{◌≡◌, ⊎_elim, ◌<◌, ◌+◌, ◌==◌, ℕ, Bool, true, false, not, cond, List, [], ◌∷◌, Option, Some, None, refl, sym, ap, ◌∙◌, subst, eq-eqb, ne_eqb}
use Rattle.std.proofs.lemmas.Bool.{cases_Bool, cases_eq}
use Rattle.x86_64_model.specs.Flushing.{Due, PageDue, WindowDue, BelowDue}
use Rattle.x86_64_model.specs.Laws.Caches.{IsLetGo}
use Rattle.x86_64_model.specs.Laws.SwitchedSpaces.{between, space_for}
use Rattle.x86_64_model.specs.Laws.Switches.{due_here}
use Rattle.x86_64_model.specs.Layout.{Layout}
use Rattle.x86_64_model.specs.Lists.{In}
use Rattle.x86_64_model.specs.Hierarchy.{◌laid_in◌, paths}
use Rattle.x86_64_model.specs.MaySwitch.{MaySwitch}
use Rattle.x86_64_model.specs.Memory.{Memory, Words, identity_places, words_of}
use Rattle.x86_64_model.specs.Store.{Store}
use Rattle.x86_64_model.specs.Switches.{Kernel, Space, Switching, SwitchEvent, Loads, Flushes, Changes, after_switch, due_with, holder_with, left_due, pending}
use Rattle.x86_64_model.specs.Tags.{Tag, Tagged, Of, Global, InvpcidContext, is_settled}
use Rattle.x86_64_model.specs.Window.{entry_at}
use Rattle.x86_64_model.proofs.Lemmas.Lists.Members.{in_append, in_map, from_map, from_filter, passes}
use Rattle.x86_64_model.proofs.Lemmas.Switches.Dues.{in_cond}
use Rattle.x86_64_model.proofs.Lemmas.Switches.Runs.{current_is_a_space, let_go_is_unreached_here}
use Rattle.x86_64.specs.SwitchingProcessors.{IsReachedBySwitches}
use Rattle.x86_64.proofs.SwitchingProcessors.{reached_by_events}
use Rattle.uses.specs.SwitchingKernel.{ProcessorState, KernelState, KernelRuns, IsUnreached, FlushesPcid, TaggedCachesInTurn, CachesChange, NeverReaches, space_of, process_spaces, kernel_with, with_processor, IsLate, ProcessRan, FrameIsUnmapped, SwitchesTo}
use Rattle.uses.specs.declared.switching_kernel.Process.{Process}

-- a PCID holds what was loaded, if it is known
held_more : (b : Bool) (new known held : Option ℕ) (r : ℕ) → (known ≡ Some r → held ≡ Some r) → cond b new known ≡ Some r → cond b new held ≡ Some r
held_more true new known held r more e = e
held_more false new known held r more e = more e

-- ---- what a processor does

module _ (processes : List Process) (m : Memory) (store : Store) where
  abbrev k : Kernel
  k = kernel_with store

  abbrev T : Words
  T = words_of m identity_places

  abbrev at : Switching → Switching
  at s = between k T store.frames (process_spaces processes) s

  abbrev Reached : Switching → Type 0
  Reached s = IsReachedBySwitches k identity_places m store.frames (process_spaces processes) s

  event_reached : (s t : Switching) → Reached s → (e : SwitchEvent) → MaySwitch k (at s) e → after_switch k (at s) e ≡ at t → Reached t
  event_reached s t reached e may ends = reached_by_events k identity_places m m store.frames store.frames (process_spaces processes) (process_spaces processes) s t reached (e ∷ []) (may, tt) ends

  -- ---- it caches

  turns_reached : (s : Switching) → Reached s → (between : List (List Tagged)) (now : List Tagged) → TaggedCachesInTurn s.root s.pcid T s.cache between now → Reached (record s { cache = now })
  turns_reached s reached [] now same = subst (λ items. Reached (record s { cache = items })) same reached
  turns_reached s reached (next ∷ more) now turns = turns_reached (record s { cache = next }) (event_reached s (record s { cache = next }) reached (Changes next) turns.0 refl) more now turns.1

  pub ran_cached : (late : Option ℕ) (before now : ProcessorState) → CachesChange m before now → ProcessRan processes m store late before → ProcessRan processes m store late now
  ran_cached late before now caches ran = subst (ProcessRan processes m store late) (sym caches.same) (record {
    system = ran.system;
    reached = turns_reached (with_processor before ran.system) ran.reached caches.between now.cached caches.turns;
    loaded = ran.loaded;
    own = ran.own;
    due = ran.due;
  })

  -- ---- it loads CR3

  still_due : (keeps reaches : Bool) (c : ℕ) (due : Tag → List Due) (tag : Tag) (d : Due) → In (cond keeps due (due_with c (cond reaches [] []) due) tag) d → In (due tag) d
  still_due true reaches c due tag d i = i
  still_due false reaches c due Global d i = i
  still_due false reaches c due (Of e) d i = by (e == c) i
    where
      by : (b : Bool) → In (cond b (cond reaches [] []) (due (Of e))) d → In (due (Of e)) d
      by true i = absurd (in_cond reaches [] d i)
      by false i = i

  module _ (own_pcids : (a b : Process) → In processes a → In processes b → a.root ≡ b.root → a.pcid ≡ b.pcid) (a : Process) (ia : In processes a) where
    own_then : (holder : ℕ → Option ℕ) → ((b : Process) → In processes b → (c : ℕ) → holder c ≡ Some b.root → c ≡ b.pcid)
        → (b : Process) → In processes b → (c : ℕ) → holder_with a.pcid (Some a.root) holder c ≡ Some b.root → c ≡ b.pcid
    own_then holder own b ib c e = ⊎_elim
        (λ same. let loaded : Some a.root ≡ Some b.root = sym (ap (λ x. cond x (Some a.root) (holder c)) (eq-eqb c a.pcid same)) ∙ e in
        let roots : a.root ≡ b.root = cc in same ∙ own_pcids a b ia ib roots)
        (λ apart. own b ib c (sym (ap (λ x. cond x (Some a.root) (holder c)) (ne_eqb c a.pcid apart)) ∙ e))
        (cases_eq c a.pcid)

    pub ran_switched : (late : Option ℕ) (before now : ProcessorState) → SwitchesTo a before now → ProcessRan processes m store late before → ProcessRan processes m store late now
    ran_switched late before now switches ran = let s = with_processor before ran.system in let loads = switches.loads in
        let e = Loads a.root a.pcid switches.keeps now.cached in
        subst (ProcessRan processes m store late) (λ i. record now { root = sym loads.has_root i; pcid = sym loads.has_pcid i }) (record {
          system = after_switch k s e;
          reached = event_reached s (after_switch k s e) ran.reached e (record {
            space = space_for k T (space_of a);
            there = in_map (space_for k T) (process_spaces processes) (space_of a) (in_map space_of processes a ia);
            is_root = refl;
            holds = λ kept. ran.loaded a.pcid a.root (switches.is_own kept);
            left = loads.left;
          }) refl;
          loaded = λ c r is. held_more (c == a.pcid) (Some a.root) (before.loaded c) (ran.system.holder c) r (ran.loaded c r) (loads.loaded c r is);
          own = own_then ran.system.holder ran.own;
          due = λ tag d i. ran.due tag d (still_due switches.keeps (ran.system.reaches a.root) a.pcid ran.system.due tag d i);
        })

  -- ---- it flushes

  -- if nothing was late, anything may be
  pub ran_none_late : (late : Option ℕ) (now : ProcessorState) → ProcessRan processes m store None now → ProcessRan processes m store late now
  ran_none_late late now ran = record {
    system = ran.system;
    reached = ran.reached;
    loaded = ran.loaded;
    own = ran.own;
    due = λ tag d i. let x = ran.due tag d i in let no : None ≡ Some x.pcid = x.is_late in absurd (cc);
  }

  pub ran_flushed : (pcid : ℕ) (before now : ProcessorState) → FlushesPcid pcid before now → ProcessRan processes m store (Some pcid) before → ProcessRan processes m store None now
  ran_flushed pcid before now flushes ran = let s = with_processor before ran.system in let e = Flushes (InvpcidContext pcid) now.cached in
      subst (ProcessRan processes m store None) (sym flushes.same) (record {
        system = after_switch k s e;
        reached = event_reached s (after_switch k s e) ran.reached e flushes.left refl;
        loaded = ran.loaded;
        own = ran.own;
        due = λ tag d i. ⊎_elim
            (λ i. let x = ran.due tag d (from_filter (λ due. not (is_settled 4 s.pcid (InvpcidContext pcid) tag due)) (s.due tag) d i) in
            let left = passes (λ due. not (is_settled 4 s.pcid (InvpcidContext pcid) tag due)) (s.due tag) d i in
            absurd (settled tag d x left))
            (λ i. absurd (in_cond _ [] d i))
            (in_append (left_due k s (InvpcidContext pcid) tag) (pending s tag) d i);
      })
    where
      settled : (tag : Tag) (d : Due) → IsLate (Some pcid) tag d → not (is_settled 4 before.pcid (InvpcidContext pcid) tag d) ≡ true → ⊥
      settled tag d x left = let same : pcid ≡ x.pcid = cc (x.is_late) in
          let is : is_settled 4 before.pcid (InvpcidContext pcid) tag d ≡ true = ap (λ t. is_settled 4 before.pcid (InvpcidContext pcid) t d) x.in_pcid ∙ eq-eqb pcid x.pcid same in
          let no : false ≡ true = sym (ap not is) ∙ left in cc

  -- ---- if nothing is late, it reaches no frame that no process maps

  none_due : (now : ProcessorState) (ran : ProcessRan processes m store None now) (d : Due) → In (due_here (at (with_processor now ran.system))) d → ⊥
  none_due now ran d i = ⊎_elim (no (Of now.pcid)) (no Global) (in_append (ran.system.due (Of now.pcid)) (ran.system.due Global) d i)
    where
      no : (tag : Tag) → In (ran.system.due tag) d → ⊥
      no tag i = let x = ran.due tag d i in let never : None ≡ Some x.pcid = x.is_late in cc

  is_let_go : (now : ProcessorState) (ran : ProcessRan processes m store None now) (b : Process) → In processes b → (frame : ℕ) → FrameIsUnmapped processes m frame → (offset : ℕ) → offset < 4096
      → IsLetGo 4 None (due_here (at (with_processor now ran.system))) (entry_at None (paths (space_of b laid_in m))) (frame + offset)
  unfolding entry_at
  is_let_go now ran b ib frame unmapped offset low = record {
    unmapped = λ q here maps. ⊎_elim (λ inside. absurd (unmapped b ib q (record { here = here; page = maps; offset = offset; low = low; inside = inside }))) (λ none. none) (cases_Bool _);
    none_loose = λ q r i. absurd (none_due now ran (BelowDue q) i);
    not_due = λ q f i. absurd (none_due now ran (PageDue q f) i);
    window_flushed = λ i. none_due now ran WindowDue i;
  }

  pub never_reaches : (now : ProcessorState) → ProcessRan processes m store None now → (frame : ℕ) → FrameIsUnmapped processes m frame → NeverReaches m now frame
  never_reaches now ran frame unmapped p w may offset low =
      let ends = at (with_processor now ran.system) in
      let current = current_is_a_space k ran.reached.start ran.reached.events ends ran.reached.switches in
      let l = from_map (space_for k T) (process_spaces processes) current.1 current.2 in
      let b = from_map space_of processes l.0 l.1 in
      let root : b.0.root ≡ now.root = ap (λ (l : Layout). l.root) b.2 ∙ ap (λ (a : Space). a.root) l.2 ∙ current.3 in
      let_go_is_unreached_here k ran.reached.start ran.reached.events ends ran.reached.switches (space_for k T (space_of b.0))
      (in_map (space_for k T) (process_spaces processes) (space_of b.0) (in_map space_of processes b.0 b.1)) root
      (frame + offset) (is_let_go now ran b.0 b.1 frame unmapped offset low) p w may

pub runs_unreached : (s : KernelState) → KernelRuns s → s.late ≡ None → (frame : ℕ) → FrameIsUnmapped s.processes s.memory frame → IsUnreached s frame
runs_unreached s runs none frame unmapped = record {
  first = never_reaches s.processes s.memory s.store s.first (subst (λ late. ProcessRan s.processes s.memory s.store late s.first) none runs.first) frame unmapped;
  second = never_reaches s.processes s.memory s.store s.second (subst (λ late. ProcessRan s.processes s.memory s.store late s.second) none runs.second) frame unmapped;
}

-- what is flushed on both
pub runs_flushed : (s : KernelState) (first second : ProcessorState) (pcid : ℕ) → KernelRuns s → s.late ≡ Some pcid → FlushesPcid pcid s.first first → FlushesPcid pcid s.second second
    → KernelRuns (record s { late = None; first = first; second = second })
runs_flushed s first second pcid runs late here there = record {
  are = runs.are;
  first = ran_flushed s.processes s.memory s.store pcid s.first first here (subst (λ late. ProcessRan s.processes s.memory s.store late s.first) late runs.first);
  second = ran_flushed s.processes s.memory s.store pcid s.second second there (subst (λ late. ProcessRan s.processes s.memory s.store late s.second) late runs.second);
}

-- if nothing was late, any process may be
pub runs_late : (s : KernelState) (late : Option ℕ) → KernelRuns s → s.late ≡ None → KernelRuns (record s { late = late })
runs_late s late runs none = record {
  are = runs.are;
  first = ran_none_late s.processes s.memory s.store late s.first (subst (λ late. ProcessRan s.processes s.memory s.store late s.first) none runs.first);
  second = ran_none_late s.processes s.memory s.store late s.second (subst (λ late. ProcessRan s.processes s.memory s.store late s.second) none runs.second);
}
