-- A kernel that runs processes on processors runs them still after a call in a process's own half.
use Rattle.std.proofs.Common.{◌≡◌, inl, inr, ⊎_elim, ◌==◌, ◌&&◌, ℕ, Bool, true, false, true≢false, cond, List, [], ◌∷◌, length, bit_or, Option, Some, None, refl, sym, ap, ◌∙◌, subst, eq-eqb, ne_eqb, lit<, arith}
use Rattle.std.proofs.lemmas.Bool.{cases_eq}
use Rattle.x86_64_mappers.specs.Layouts.{direct}
use Rattle.x86_64_model.specs.Call as machine
use Rattle.x86_64_model.specs.Call.{IsCall, Call, MapTo, Unmap}
use Rattle.x86_64_model.specs.Entry.{address, has, present, global}
use Rattle.x86_64_model.specs.Flushing.{Due, PageDue, TablesDue, flush_after, if_window, freed_by}
use Rattle.x86_64_model.specs.Laws.Globals.{GlobalsBelow}
use Rattle.x86_64_model.specs.Laws.SwitchedSpaces.{space_for, started_in, MaySwitchIn}
use Rattle.x86_64_model.specs.Layout.{Layout}
use Rattle.x86_64_model.specs.Lists.{In}
use Rattle.x86_64_model.specs.Machine.{State, step}
use Rattle.x86_64_model.specs.Hierarchy.{◌laid_in◌, machine_of, state_in, paths}
use Rattle.x86_64_model.specs.Mappings.{maps_page}
use Rattle.x86_64_model.specs.Memory.{Memory, identity_places, words_of}
use Rattle.x86_64_model.specs.Path.{is_below, is_small, level_of, path_at}
use Rattle.x86_64_model.specs.PathMap.{entry}
use Rattle.x86_64_model.specs.Pool.{TakesBack}
use Rattle.x86_64_model.specs.Position.{index, page_path}
use Rattle.x86_64_model.specs.Refusal.{Done, Refused}
use Rattle.x86_64_model.specs.Spaces.{is_shared}
use Rattle.x86_64_model.specs.Store.{Store}
use Rattle.x86_64_model.specs.Switches.{Switching, is_concerned, is_held}
use Rattle.x86_64_model.specs.Tags.{Tag, Of, Global}
use Rattle.x86_64_model.specs.Window.{begins_with, entry_at}
use Rattle.x86_64_model.proofs.Lemmas.Entries.Bits.{has_or, only_flags}
use Rattle.x86_64_model.proofs.Lemmas.Hierarchies.Memories.{identity_is_mapping}
use Rattle.x86_64_model.proofs.Lemmas.Lists.Members.{in_append, in_map, from_map}
use Rattle.x86_64_model.proofs.Lemmas.Spaces.Paired.{spaces_are_paired}
use Rattle.x86_64_model.proofs.Lemmas.Switches.Dues.{in_cond}
use Rattle.x86_64_model.proofs.Lemmas.Switches.Globals.{calls_keep_globals}
use Rattle.x86_64.specs.FreeFrames.{KeepsFree}
use Rattle.x86_64.specs.Replies.{Reply}
use Rattle.x86_64.specs.Runs.{AfterStep, step_by}
use Rattle.x86_64.specs.SwitchingProcessors.{IsReachedBySwitches, RunsOn, made_by, with_due}
use Rattle.x86_64.proofs.SwitchingProcessors.{reached_by_calls, reached_first}
use Rattle.uses.specs.Processes.{is_kernels}
use Rattle.uses.specs.SpacesBeside.{OtherSpacesStay, LeavesSpaces}
use Rattle.uses.specs.SwitchingKernel.{ProcessorState, BeginsWith, KernelState, AreProcesses, IsLate, IsOwnCall, ProcessRan, KernelRuns, kernel_with, space_of, process_spaces, with_processor}
use Rattle.uses.specs.declared.switching_kernel.Process.{Process}
use Rattle.uses.proofs.ProcessCalls.{page_avoids}
use Rattle.uses.proofs.SpaceRuns.{no_flags}

-- ---- the calls that a process's own half gets

path_length : (p : ℕ) → length (path_at 4 1 p) ≡ 4
unfolding page_path
path_length p = refl

pub own_unmap_call : (a : Process) (p : ℕ) → is_kernels (index 4 p) ≡ false → IsOwnCall (Some a.pcid) a (Unmap 1 p)
own_unmap_call a p low = record {
  avoids = page_avoids p low;
  not_global = tt;
  small = λ q e. let no : None ≡ Some q = e in cc;
  due = λ freed reply d i. by freed reply d i;
}
  where
    page : (b : Bool) (f : ℕ) (d : Due) → In (PageDue (path_at 4 1 p) f ∷ cond b [] (if_window None)) d → IsLate (Some a.pcid) (Of a.pcid) d
    page b f d (inl e) = record { pcid = a.pcid; is_late = refl; in_pcid = refl; path = path_at 4 1 p; frame = f; is_page = sym e; small = path_length p }
    page true f d (inr i) = absurd i
    page false f d (inr i) = absurd i

    by : (freed : List ℕ) (reply : machine.Reply) (d : Due) → In (flush_after 4 None freed (Unmap 1 p) reply) d → IsLate (Some a.pcid) (Of a.pcid) d
    by freed (machine.Answered (Done f)) d i = page (is_small 4 (path_at 4 1 p)) f d i
    by freed (machine.Answered (Refused why)) d i = absurd i
    by freed machine.NotAllowed d i = absurd i
    by freed (machine.Position t) d i = absurd i
    by freed (machine.Address t) d i = absurd i
    by freed machine.Cleaned d i = absurd i

pub own_map_call : (late : Option ℕ) (a : Process) (p frame given : ℕ) → is_kernels (index 4 p) ≡ false → address frame ≡ frame → global given ≡ false
    → IsOwnCall late a (MapTo 1 p frame given)
own_map_call late a p frame given low at_frame plain = record {
  avoids = page_avoids p low;
  not_global = λ off. by (is_small 4 (path_at 4 1 p));
  small = λ q e. let same : path_at 4 1 p ≡ q = cc in subst (λ q. length q ≡ 4) same (path_length p);
  due = λ freed reply d i. absurd i;
}
  where
    by : (b : Bool) → global (bit_or frame (cond b given (bit_or given 0x80))) ≡ false
    by true = only_flags frame given 0x100 at_frame refl ∙ plain
    by false = only_flags frame (bit_or given 0x80) 0x100 at_frame refl ∙ has_or given 0x80 0x100 refl ∙ plain

-- ---- processes

no_global : global 0 ≡ false
unfolding has
no_global = refl

both_false : (b : Bool) → (b && false) ≡ false
both_false true = refl
both_false false = refl

not_below : (q r : List ℕ) → length q ≡ length r → is_below q r ≡ false
not_below [] [] e = refl
not_below [] (j ∷ r) e = absurd (omega arith)
not_below (i ∷ q) [] e = refl
not_below (i ∷ q) (j ∷ r) e = ap (λ b. (i == j) && b) (not_below q r (omega arith)) ∙ both_false (i == j)

may_switch : (processes : List Process) (m : Memory) (store : Store) → AreProcesses processes m store → MaySwitchIn (kernel_with store) identity_places (words_of m identity_places) (process_spaces processes)
unfolding entry_at
may_switch processes m store are = record {
  mapping = λ l il. let o = from_map space_of processes l il in subst (λ (l : Layout). l.places ≡ identity_places) o.2 refl;
  same_levels = λ l il. let o = from_map space_of processes l il in subst (λ (l : Layout). l.levels ≡ 4) o.2 refl;
  globals = λ l il. let o = from_map space_of processes l il in
      subst (λ (l : Layout). (q : List ℕ) → let e = entry_at l.window (space_for (kernel_with store) (words_of m identity_places) l).paths q in
      present e ≡ true → maps_page (level_of 4 q) e ≡ true → global e ≡ true → is_shared is_kernels q ≡ true) o.2
      (λ q here maps g. are.globals o.0 o.1 q maps g);
  windows = λ l il q e. let o = from_map space_of processes l il in
      let no : false ≡ true = ap (λ (l : Layout). begins_with l.window q) o.2 ∙ e in cc;
  all_or_none = λ l j il ij e. let o = from_map space_of processes j ij in sym (ap (λ (l : Layout). l.window) o.2);
}

-- ---- the start

-- a processor that begins with a process
pub ran_first : (processes : List Process) (m : Memory) (store : Store) → TakesBack store.take_back → AreProcesses processes m store → (a : Process) → In processes a
    → (late : Option ℕ) (now : ProcessorState) → BeginsWith a.root a.pcid now → ProcessRan processes m store late now
ran_first processes m store gives are a ia late now begins =
    let spaces = process_spaces processes in
    let first = started_in (kernel_with store) (words_of m identity_places) store.frames spaces (space_of a) a.pcid in
    let reached = reached_first (kernel_with store) identity_places identity_is_mapping (lit< tt) gives (λ x y. is_kernels) (λ x y i on. on) m store.frames spaces
    (spaces_are_paired is_kernels m store.serves store.frames spaces are.spaces) (may_switch processes m store are) (space_of a) (in_map space_of processes a ia) a.pcid in
    record {
      system = first;
      reached = subst (λ (now : ProcessorState). IsReachedBySwitches (kernel_with store) identity_places m store.frames spaces (with_processor now first))
          (λ i. record { root = sym begins.has_root i; pcid = sym begins.has_pcid i; loaded = now.loaded; cached = sym begins.cached i }) reached.0;
      loaded = begins.loaded;
      own = λ b ib c e. ⊎_elim
          (λ same. let roots : Some a.root ≡ Some b.root = sym (ap (λ x. cond x (Some a.root) None) (eq-eqb c a.pcid same)) ∙ e in
          let root : a.root ≡ b.root = cc in same ∙ are.own_pcids a b ia ib root)
          (λ apart. let no : None ≡ Some b.root = sym (ap (λ x. cond x (Some a.root) None) (ne_eqb c a.pcid apart)) ∙ e in absurd (cc))
          (cases_eq c a.pcid);
      due = λ tag d i. absurd i;
    }

-- ---- a call

module _ (processes : List Process) (store : Store) (m n : Memory) (rest : List ℕ) (a : Process) (ia : In processes a) (call : Call) (reply : Reply) (is_call : IsCall 4 call)
    (late : Option ℕ) (own : IsOwnCall late a call) (gives : TakesBack store.take_back) (are : AreProcesses processes m store)
    (steps : step_by (machine_of (space_of a) store.take_back) (state_in (space_of a) m store.frames) call ≡ record { state = state_in (space_of a) n rest; reply = Some reply })
    (free : KeepsFree (space_of a) m store.frames (freed_by (space_of a).levels (state_in (space_of a) m store.frames) call) n rest)
    (beside : LeavesSpaces (space_of a laid_in m) store (call ∷ []) n rest) where
  abbrev after : Store
  after = record store { frames = rest }

  abbrev spaces : List Layout
  spaces = process_spaces processes

  there : In spaces (space_of a)
  there = in_map space_of processes a ia

  others_stay : OtherSpacesStay spaces (space_of a) m n
  others_stay = (beside.users is_kernels spaces there are.spaces (own.avoids, tt)).1

  own_globals : GlobalsBelow 4 is_kernels (paths (space_of a laid_in n))
  own_globals = subst (λ (s : State). GlobalsBelow 4 is_kernels s.paths) (ap (λ (x : AfterStep Reply). x.state) steps)
      (calls_keep_globals (machine_of (space_of a) store.take_back) (record { adds = no_flags; gives = gives }) no_global (words_of m identity_places) a.root store.serves
      (state_in (space_of a) m store.frames) (are.spaces.fits (space_of a) there) is_kernels call is_call own.not_global (are.globals a ia))

  pub are_then : AreProcesses processes n after
  are_then = record {
    spaces = (beside.users is_kernels spaces there are.spaces (own.avoids, tt)).0;
    own_pcids = are.own_pcids;
    globals = λ b ib. ⊎_elim
        (λ same. subst (λ root. GlobalsBelow 4 is_kernels (paths (direct identity_places root laid_in n))) same own_globals)
        (λ apart. subst (GlobalsBelow 4 is_kernels) (sym (others_stay (space_of b) (in_map space_of processes b ib) apart)) (are.globals b ib))
        (cases_eq a.root b.root);
  }

  runs_on : RunsOn (kernel_with store) identity_places (λ x y. is_kernels) m store.frames n rest spaces (space_of a) call reply true (λ r. r == a.root) false
  runs_on = record {
    steps = steps;
    free = free;
    keeps = beside.keeps;
    is_call = is_call;
    adds = no_flags;
    loses_nothing = λ no. cc;
    is_sharing = record { symmetric = λ x y i on. on; transitive = λ x y z i on more. on };
    all_share = λ x y i on. on;
    there = there;
    are = spaces_are_paired is_kernels m store.serves store.frames spaces are.spaces;
    before = may_switch processes m store are;
    later = may_switch processes n after are_then;
    root_entries = λ b ib apart i on.
        sym ((are_then.spaces.share (space_of a) b there ib apart).root_entries i on) ∙ ap (λ M. entry M (i ∷ [])) (others_stay b ib apart)
        ∙ (are.spaces.share (space_of a) b there ib apart).root_entries i on;
    unreached = λ b ib off. (λ e. true≢false (sym (eq-eqb b.root a.root (sym e)) ∙ off), own.avoids);
    avoids = λ off. own.avoids;
  }

  module _ (now : ProcessorState) (ran : ProcessRan processes m store late now) where
    abbrev s : Switching
    s = with_processor now ran.system

    abbrev new : List Due
    new = made_by (kernel_with store) (space_of a) m store.frames call true

    -- what the call makes due is late
    made_late : (tag : Tag) (d : Due) → In (cond (is_concerned ran.system.holder (λ r. r == a.root) false tag) new []) d → IsLate late tag d
    made_late Global d i = absurd i
    made_late (Of c) d i = by (ran.system.holder c) refl i
      where
        by : (h : Option ℕ) → ran.system.holder c ≡ h → In (cond (is_held (λ r. r == a.root) h) new []) d → IsLate late (Of c) d
        by None e i = absurd i
        by (Some r) e i = ⊎_elim
            (λ same. let its : c ≡ a.pcid = ran.own a ia c (e ∙ ap Some same) in
            subst (λ c. IsLate late (Of c) d) (sym its) (own.due (freed_by 4 (state_in (space_of a) m store.frames) call) (step (machine_of (space_of a) store.take_back) (state_in (space_of a) m store.frames) call).reply d (in_cond (r == a.root) new d i)))
            (λ apart. absurd (subst (λ b. In (cond b new []) d) (ne_eqb r a.root apart) i))
            (cases_eq r a.root)

    pub ran_called : ProcessRan processes n after late now
    ran_called = record {
      system = with_due new (λ r. r == a.root) false s;
      reached = reached_by_calls (kernel_with store) identity_places identity_is_mapping (lit< tt) gives (λ x y. is_kernels) m n store.frames rest spaces (space_of a) call reply true (λ r. r == a.root) false s
          runs_on ran.reached
          (λ c f d i. let x = ran.due (Of c) (TablesDue d.0) d.1 in let no : TablesDue d.0 ≡ PageDue x.path x.frame = x.is_page in absurd (cc))
          (λ tag q r frame i is. let x = ran.due tag (PageDue q frame) i in let same : q ≡ x.path = cc (x.is_page) in
          not_below q r (ap length same ∙ x.small ∙ sym (own.small r is)));
      loaded = ran.loaded;
      own = ran.own;
      due = λ tag d i. ⊎_elim (made_late tag d) (ran.due tag d) (in_append (cond (is_concerned ran.system.holder (λ r. r == a.root) false tag) new []) (ran.system.due tag) d i);
    }

-- ---- the kernel's call

module _ (s : KernelState) (runs : KernelRuns s) (a : Process) (ia : In s.processes a) (call : Call) (reply : Reply) (is_call : IsCall 4 call) (own : IsOwnCall s.late a call)
    (n : Memory) (rest : List ℕ)
    (steps : step_by (machine_of (space_of a) s.store.take_back) (state_in (space_of a) s.memory s.store.frames) call ≡ record { state = state_in (space_of a) n rest; reply = Some reply })
    (free : KeepsFree (space_of a) s.memory s.store.frames (freed_by (space_of a).levels (state_in (space_of a) s.memory s.store.frames) call) n rest)
    (beside : LeavesSpaces (space_of a laid_in s.memory) s.store (call ∷ []) n rest) where
  gives_back : TakesBack s.store.take_back
  gives_back = runs.first.reached.switches.gives

  pub runs_others : OtherSpacesStay (process_spaces s.processes) (space_of a) s.memory n
  runs_others = others_stay s.processes s.store s.memory n rest a ia call reply is_call s.late own gives_back runs.are steps free beside

  pub runs_called : (serves : ℕ → Bool) → serves ≡ s.store.serves
      → KernelRuns (record s { memory = n; store = record { frames = rest; serves = serves; take_back = s.store.take_back } })
  runs_called serves same = subst (λ serves. KernelRuns (record s { memory = n; store = record { frames = rest; serves = serves; take_back = s.store.take_back } })) (sym same) (record {
    are = are_then s.processes s.store s.memory n rest a ia call reply is_call s.late own gives_back runs.are steps free beside;
    first = ran_called s.processes s.store s.memory n rest a ia call reply is_call s.late own gives_back runs.are steps free beside s.first runs.first;
    second = ran_called s.processes s.store s.memory n rest a ia call reply is_call s.late own gives_back runs.are steps free beside s.second runs.second;
  })
