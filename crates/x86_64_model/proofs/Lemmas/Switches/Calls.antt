-- A call on one of the address spaces of a memory, as an event of a processor that switches between them.
use Rattle.std.proofs.Common.{◌≡◌, ◌⊎◌, inr, ⊎_elim, ◌<◌, ℕ, Bool, true, false, List, [], ◌∷◌, map, Some, None, refl, sym, ap, ◌∙◌, subst}
use Rattle.std.proofs.lemmas.Bool.{cases_Bool}
use Rattle.x86_64_model.specs.Lists.{In}
use Rattle.x86_64_model.specs.Call.{Call}
use Rattle.x86_64_model.specs.Flushing as flushing
use Rattle.x86_64_model.specs.Flushing.{HasZeros, StayFree, LosesNothing, MayWrite, after_event}
use Rattle.x86_64_model.specs.Layout.{Layout}
use Rattle.x86_64_model.specs.Laws.SwitchedSpaces.{space_for, between, CallsOn, call_events, CallsMaySwitch}
use Rattle.x86_64_model.specs.Machine.{IsMachine, State, step}
use Rattle.x86_64_model.specs.Memory.{Memory, Words, Places, IsMapping, words_of}
use Rattle.x86_64_model.specs.PathMap.{entry, table_of, table_at}
use Rattle.x86_64_model.specs.Pool.{TakesBack, Fits}
use Rattle.x86_64_model.specs.Spaces.{is_shared, Avoids}
use Rattle.x86_64_model.specs.Tags.{Of}
use Rattle.x86_64_model.specs.Switches.{Kernel, Space, AreHeld, held_by, Switching, AreDone, machine_at, with_next, with_words, Makes, Writes, after_switch}
use Rattle.x86_64_model.specs.MaySwitch.{after_switches, MayMakeOn, MayWriteAll}
use Rattle.x86_64_model.proofs.Lemmas.Hierarchies.Trees.{some_not_none}
use Rattle.x86_64_model.proofs.Lemmas.Lists.Members.{in_map, from_map}
use Rattle.x86_64_model.proofs.Lemmas.Machines.Fitting.{sound_of_fits}
use Rattle.x86_64_model.proofs.Lemmas.Spaces.Calls.{step_avoids}
use Rattle.x86_64_model.proofs.Lemmas.Spaces.Paired.{paired_spaces_stay}
use Rattle.x86_64_model.proofs.Lemmas.Caches.Whole.{free_after, same_zeros, calls_may_happen}
use Rattle.x86_64_model.proofs.Lemmas.Switches.Layouts.{fits_like, alike_pair, held_in, stays_in, changes_alike}

-- the spaces after a call are those of the layouts
fused : (k : Kernel) (T U : Words) (layouts : List Layout) → map (with_words k U) (map (with_next (held_by k U)) (map (space_for k T) layouts)) ≡ map (space_for k U) layouts
fused k T U [] = refl
fused k T U (l ∷ layouts) = ap (λ more. space_for k U l ∷ more) (fused k T U layouts)

module _ (k : Kernel) (places : Places) (mapping : IsMapping places) (some : 0 < k.levels) (gives : TakesBack k.take_back) (sharing : (root other : ℕ) → ℕ → Bool) (m n : Memory) (pool rest : List ℕ) (layouts : List Layout) (one : Layout) (s : Switching)
    (call : Call) (loses : Bool) (reaches : ℕ → Bool) (everywhere : Bool) (c : CallsOn k places sharing m pool n rest layouts one s call loses reaches everywhere) where
  abbrev T : Words
  T = words_of m places

  abbrev U : Words
  U = words_of n places

  abbrev a : Space
  a = space_for k T one

  abbrev start : State
  start = record { paths = a.paths; pool = pool }

  abbrev now : Switching
  now = between k T pool layouts s

  abbrev called : Switching
  called = after_switch k now (Makes a call loses reaches everywhere (held_by k U))

  is : IsMachine (machine_at k a)
  is = record { adds = c.adds; gives = gives }

  fits : Fits k.levels one.window T one.root a.paths k.serves pool
  fits = fits_like k places mapping some sharing c.all_share m pool layouts c.are c.before one c.there

  -- the entries below indices that the call avoids stay
  own_still : (shared : ℕ → Bool) → Avoids k.levels shared call → (q : List ℕ) → is_shared shared q ≡ true → entry (space_for k U one).paths q ≡ entry a.paths q
  own_still shared off q on = sym (ap (λ (st : State). entry st.paths q) c.steps)
      ∙ step_avoids shared k.levels one.window one.root one.added_flags k.take_back start (sound_of_fits k.levels one.window T one.root k.serves start fits).hierarchy q on call c.is_call off

  still : (l : Layout) → In layouts l → reaches l.root ≡ false → (q : List ℕ) → entry (space_for k U l).paths q ≡ entry (space_for k T l).paths q
  still l il off q = let u = c.unreached l il off in
      let stays = stays_in k places mapping some sharing c.all_share m pool layouts c.are c.before one c.there n rest c.keeps c.root_entries l il u.0 in ⊎_elim
      (λ on. stays.below_shared q on ∙ own_still (sharing one.root l.root) u.1 q on ∙ sym (alike_pair k places mapping some sharing c.all_share m pool layouts c.are c.before one l c.there il u.0 q on))
      (λ off. stays.elsewhere q off) (cases_Bool (is_shared (sharing one.root l.root) q))

  makes : MayMakeOn k now a call loses reaches everywhere (held_by k U)
  makes = record {
    there = in_map (space_for k T) layouts one c.there;
    done = λ b ib. let o = from_map (space_for k T) layouts b ib in subst (λ (b : Space). b.paths ≡ b.next) o.2 refl;
    fits = fits;
    adds = c.adds;
    is_call = c.is_call;
    kept = λ f q u. subst (λ (st : State). LosesNothing (entry a.paths q) (entry st.paths q)) (sym c.steps) (c.loses_nothing f q u);
    waits = λ p. subst (λ (st : State). StayFree (s.due (Of p)) pool st.pool) (sym c.steps) (c.waits p);
    apart = c.apart;
    own = ap (λ (st : State). st.paths) (sym c.steps);
    others = λ b ib q. let o = from_map (space_for k T) layouts b ib in
        subst (λ (b : Space). (entry (held_by k U b) q ≡ entry b.paths q) ⊎ ((entry b.paths q ≡ entry a.paths q) × (entry (held_by k U b) q ≡ entry (held_by k U a) q))) o.2
        (changes_alike k places mapping some sharing c.all_share m pool layouts c.are c.before one c.there n rest c.keeps c.root_entries o.0 o.1 q);
    unreached = λ b ib. let o = from_map (space_for k T) layouts b ib in
        subst (λ (b : Space). reaches b.root ≡ false → (q : List ℕ) → entry (held_by k U b) q ≡ entry b.paths q) o.2 (still o.0 o.1);
    avoids = c.avoids;
  }

  -- ---- the words after the call

  later_held : AreHeld k U (map (space_for k U) layouts)
  later_held = held_in k places mapping some sharing c.all_share n rest layouts
      (paired_spaces_stay sharing c.is_sharing layouts one c.there (subst IsMapping (sym (c.before.mapping one c.there)) mapping) (subst (λ L. 0 < L) (sym (c.before.same_levels one c.there)) some) k.serves m n pool rest c.are c.keeps c.root_entries) c.later

  -- a table that the call removes from its own space has only words 0
  one_emptied : (q : List ℕ) (f : ℕ) → table_at k.levels one.root a.paths q ≡ Some f → table_at k.levels one.root (space_for k U one).paths q ≡ None → HasZeros U f
  one_emptied q f t z = may.empty q f t (ap (λ (st : State). table_at k.levels one.root st.paths q) c.steps ∙ z)
    where
      may : MayWrite (machine_at k a) one.root (after_event (machine_at k a) (record { state = start; paths = a.paths; words = T; cache = []; due = [] }) (flushing.Makes call true)) (step (machine_at k a) start call).state.paths U
      may = calls_may_happen (machine_at k a) is one.root k.serves (record { state = start; paths = a.paths; words = T; cache = []; due = [] }) fits call true
          (record { done = refl; is_call = c.is_call; kept = λ f q u. cc; waits = λ f d. absurd d.1; apart = λ q r f i. absurd i }) U c.free

  emptied : (l : Layout) → In layouts l → (q : List ℕ) (f : ℕ) → table_at k.levels l.root (space_for k T l).paths q ≡ Some f → table_at k.levels l.root (space_for k U l).paths q ≡ None → HasZeros U f
  emptied l il [] f t z = absurd (some_not_none l.root z)
  emptied l il (i ∷ q) f t z = ⊎_elim
      (λ same. absurd (some_not_none f (sym t ∙ ap (table_of k.levels (i ∷ q)) (sym same) ∙ z)))
      (λ x. one_emptied (i ∷ q) f (ap (table_of k.levels (i ∷ q)) (sym x.0) ∙ t) (ap (table_of k.levels (i ∷ q)) (sym x.1) ∙ z))
      (changes_alike k places mapping some sharing c.all_share m pool layouts c.are c.before one c.there n rest c.keeps c.root_entries l il (i ∷ q))

  of_layout : (b : Space) → In called.spaces b → (l : Layout) × In layouts l × (with_next (held_by k U) (space_for k T l) ≡ b)
  of_layout b ib = let o = from_map (with_next (held_by k U)) (map (space_for k T) layouts) b ib in let p = from_map (space_for k T) layouts o.0 o.1 in
      (p.0, p.1, ap (with_next (held_by k U)) p.2 ∙ o.2)

  writes : MayWriteAll k called U
  writes = record {
    held = subst (AreHeld k U) (sym (fused k T U layouts)) later_held;
    between = λ b ib q. let o = of_layout b ib in subst (λ (b : Space). (entry (held_by k U b) q ≡ entry b.paths q) ⊎ (entry (held_by k U b) q ≡ entry b.next q)) o.2 (inr refl);
    empty = λ b ib. let o = of_layout b ib in
        subst (λ (b : Space). (q : List ℕ) (f : ℕ) → table_at k.levels b.root b.paths q ≡ Some f → table_at k.levels b.root (held_by k U b) q ≡ None → HasZeros U f) o.2 (emptied o.0 o.1);
    keeps = λ p f unflushed free zeros. ⊎_elim (λ z. z) (λ x. same_zeros T U f x.1 zeros) (free_after (machine_at k a) one.root T U start call c.free f free);
  }

  abbrev written : Switching
  written = after_switch k called (Writes U)

  returns : AreDone written
  returns b ib = let o = from_map (space_for k U) layouts b (subst (λ (spaces : List Space). In spaces b) (fused k T U layouts) ib) in subst (λ (b : Space). b.paths ≡ b.next) o.2 refl

  abbrev end : Switching
  end = after_switches k now (call_events k T U one call loses reaches everywhere)

  ends : end ≡ between k U rest layouts end
  ends = let at_spaces = fused k T U layouts in let at_pool = ap (λ (st : State). st.pool) c.steps in λ i. record end { spaces = at_spaces i; pool = at_pool i; words = U }

pub calls_may_switch : CallsMaySwitch
calls_may_switch k places mapping some gives sharing m n pool rest layouts one s call loses reaches everywhere c = (
  (
    makes k places mapping some gives sharing m n pool rest layouts one s call loses reaches everywhere c,
    (
      writes k places mapping some gives sharing m n pool rest layouts one s call loses reaches everywhere c,
      (returns k places mapping some gives sharing m n pool rest layouts one s call loses reaches everywhere c, tt),
    ),
  ),
  ends k places mapping some gives sharing m n pool rest layouts one s call loses reaches everywhere c,
)
