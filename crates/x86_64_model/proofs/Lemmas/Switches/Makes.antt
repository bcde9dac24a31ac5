-- A call on one of several spaces begins: an event of each of them.
use Rattle.std.proofs.Common.{◌≡◌, ◌≢◌, inl, inr, ⊎_elim, ℕ, Bool, true, false, cond, List, [], ◌++◌, map, Some, None, Option, refl, sym, ap, ◌∙◌, subst, subst₂}
use Rattle.std.proofs.lemmas.Bool.{cases_Bool}
use Rattle.x86_64_model.specs.Lists.{In}
use Rattle.x86_64_model.specs.Memory.{Words}
use Rattle.x86_64_model.specs.PathMap.{PathMap, entry}
use Rattle.x86_64_model.specs.Pool.{TakesBack}
use Rattle.x86_64_model.specs.Window.{Window, begins_with, entry_at, IsValidFor}
use Rattle.x86_64_model.specs.Entry.{LeadAlike, present, global}
use Rattle.x86_64_model.specs.Mappings.{maps_page}
use Rattle.x86_64_model.specs.Path.{level_of}
use Rattle.x86_64_model.specs.Call.{Call}
use Rattle.x86_64_model.specs.Machine.{Machine, IsMachine, State, step}
use Rattle.x86_64_model.specs.Spaces.{is_shared}
use Rattle.x86_64_model.specs.Caches.{PartialWalk, Cached}
use Rattle.x86_64_model.specs.Flushing.{Due, BelowDue, freed_by}
use Rattle.x86_64_model.specs.Tags.{Of, Global}
use Rattle.x86_64_model.specs.Switches.{Kernel, Space, AreHeld, Switching, machine_at, state_at, made_due, with_next, is_held, is_concerned, Makes, after_switch}
use Rattle.x86_64_model.specs.MaySwitch.{MayMakeOn}
use Rattle.x86_64_model.proofs.Lemmas.Lists.Members.{in_left, in_right, in_append, in_map, from_map}
use Rattle.x86_64_model.proofs.Lemmas.Machines.Fitting.{sound_of_fits}
use Rattle.x86_64_model.proofs.Lemmas.Machines.States.{IsSound}
use Rattle.x86_64_model.proofs.Lemmas.Spaces.Calls.{step_avoids}
use Rattle.x86_64_model.proofs.Lemmas.Caches.Calls.{told_moves}
use Rattle.x86_64_model.proofs.Lemmas.Caches.Items as items
use Rattle.x86_64_model.proofs.Lemmas.Caches.Items.{item_stays}
use Rattle.x86_64_model.proofs.Lemmas.Caches.Windowed.{Becomes, AsBefore, HasWindow}
use Rattle.x86_64_model.proofs.Lemmas.Switches.Alike.{become_more, part}
use Rattle.x86_64_model.proofs.Lemmas.Switches.Dues.{AreDue, in_cond, made_below}
use Rattle.x86_64_model.proofs.Lemmas.Switches.Safe.{IsSafe, IsGlobal, GlobalIn, tagged, stale_more}

windows_due : (due : List Due) (x y : Option Window) → (x ≡ None → y ≡ None) → HasWindow x due → HasWindow y due
windows_due due None y none w v e = let z : y ≡ None = none refl in cc
windows_due due (Some u) y none w v e = w u refl

-- the spaces keep what the words hold
held_next : (k : Kernel) (T : Words) (spaces : List Space) (next : Space → PathMap) → AreHeld k T spaces → AreHeld k T (map (with_next next) spaces)
held_next k T spaces next held = record {
  valid = λ a i. let m = from_map (with_next next) spaces a i in subst Valid m.2 (held.valid m.0 m.1);
  alike = λ a b i j q on. let m = from_map (with_next next) spaces a i in let n = from_map (with_next next) spaces b j in
      subst₂ (λ (a b : Space). LeadAlike (entry a.paths q) (entry b.paths q)) m.2 n.2 (held.alike m.0 n.0 m.1 n.1 q on);
  globals = λ a i. let m = from_map (with_next next) spaces a i in subst Globals m.2 (held.globals m.0 m.1);
  windows = λ a i. let m = from_map (with_next next) spaces a i in subst Windows m.2 (held.windows m.0 m.1);
  all_or_none = λ a b i j e. let m = from_map (with_next next) spaces a i in let n = from_map (with_next next) spaces b j in
      sym (ap (λ (b : Space). b.window) n.2) ∙ held.all_or_none m.0 n.0 m.1 n.1 (ap (λ (a : Space). a.window) m.2 ∙ e);
}
  where
    Valid : Space → Type 0
    Valid a = IsValidFor k.levels a.window T a.root a.paths

    Globals : Space → Type 0
    Globals a = (q : List ℕ) → present (entry_at a.window a.paths q) ≡ true → maps_page (level_of k.levels q) (entry_at a.window a.paths q) ≡ true → global (entry_at a.window a.paths q) ≡ true → is_shared k.shared q ≡ true

    Windows : Space → Type 0
    Windows a = (q : List ℕ) → begins_with a.window q ≡ true → is_shared k.shared q ≡ false

module _ (k : Kernel) (gives : TakesBack k.take_back) (s : Switching) (safe : IsSafe k s) (a : Space) (call : Call) (loses : Bool) (reaches : ℕ → Bool) (everywhere : Bool) (next : Space → PathMap)
    (may : MayMakeOn k s a call loses reaches everywhere next) where
  abbrev m : Machine
  m = machine_at k a

  is : IsMachine m
  is = record { adds = may.adds; gives = gives }

  sound : IsSound k.levels a.window a.root k.serves (state_at s a)
  sound = sound_of_fits k.levels a.window s.words a.root k.serves (state_at s a) may.fits

  abbrev after : State
  after = (step (machine_at k a) (state_at s a) call).state

  abbrev new : List Due
  new = made_due k s a call loses

  -- ---- how entries change

  stepped : (q : List ℕ) → Becomes k.levels a.window new after.pool q (entry a.paths q) (entry after.paths q)
  stepped q = become_more k.levels a.window a.window (new ++ []) new after.pool q _ _ same (λ w v e. same _ (w v e)) (told_moves m is a.root k.serves (state_at s a) sound [] call may.is_call loses may.kept q)
    where
      same : (d : Due) → In (new ++ []) d → In new d
      same d i = ⊎_elim (λ i. i) (λ i. absurd i) (in_append new [] d i)

  -- an entry that is the caller's before and after, as another space has it
  seen_move : (b : Space) → (window : Option Window) → (a.window ≡ None → window ≡ None) → (q : List ℕ) → (entry b.paths q ≡ entry a.paths q) × (entry (next b) q ≡ entry (next a) q)
      → Becomes k.levels window new after.pool q (entry b.paths q) (entry (next b) q)
  seen_move b window none q same = subst₂ (Becomes k.levels window new after.pool q) (sym same.0) (sym (same.1 ∙ ap (λ (M : PathMap). entry M q) may.own))
      (become_more k.levels a.window window new new after.pool q _ _ (λ d i. i) (windows_due new a.window window none) (stepped q))

  moved : (b : Space) → In s.spaces b → (q : List ℕ) → Becomes k.levels b.window (cond (reaches b.root) new []) after.pool q (entry b.paths q) (entry (next b) q)
  moved b ib q = ⊎_elim
      (λ on. ⊎_elim (λ still. AsBefore still)
      (λ x. subst (λ x. Becomes k.levels b.window (cond x new []) after.pool q (entry b.paths q) (entry (next b) q)) (sym on) (seen_move b b.window (safe.held.all_or_none a b may.there ib) q x))
      (may.others b ib q))
      (λ off. AsBefore (may.unreached b ib off q)) (cases_Bool (reaches b.root))

  -- the entries below shared indices stay, if the call avoids them
  still : (b : Space) → In s.spaces b → (q : List ℕ) → is_shared k.shared q ≡ true → everywhere ≡ false → entry (next b) q ≡ entry b.paths q
  still b ib q on f = ⊎_elim (λ e. e)
      (λ x. x.1 ∙ ap (λ (M : PathMap). entry M q) may.own
      ∙ step_avoids k.shared k.levels a.window a.root a.added_flags k.take_back (state_at s a) sound.hierarchy q on call may.is_call (may.avoids f) ∙ sym x.0)
      (may.others b ib q)

  moved_shared : (b : Space) → In s.spaces b → (q : List ℕ) → is_shared k.shared q ≡ true → Becomes k.levels None (cond everywhere new []) after.pool q (entry b.paths q) (entry (next b) q)
  moved_shared b ib q on = ⊎_elim
      (λ e. ⊎_elim (λ still. AsBefore still)
      (λ x. subst (λ x. Becomes k.levels None (cond x new []) after.pool q (entry b.paths q) (entry (next b) q)) (sym e) (seen_move b None (λ e. refl) q x))
      (may.others b ib q))
      (λ f. AsBefore (still b ib q on f)) (cases_Bool everywhere)

  -- ---- what is due

  abbrev later : Switching
  later = after_switch k s (Makes a call loses reaches everywhere next)

  fine : (q : List ℕ) → In new (BelowDue q) → (q ≢ []) × (everywhere ≡ false → is_shared k.shared q ≡ false)
  fine q i = let x = made_below k.shared k.levels a.window (freed_by k.levels (state_at s a) call) (step (machine_at k a) (state_at s a) call).reply call may.is_call q (in_cond loses _ _ i) in (x.0, λ f. x.1 (may.avoids f))

  dues : AreDue k.shared later
  dues = record {
    covers = λ tag d i. in_left _ (s.due tag) d i;
    narrow = λ c q i h. ⊎_elim
        (λ i. in_left (cond everywhere new []) (s.due Global) _ (⊎_elim
        (λ e. subst (λ b. In (cond b new []) (BelowDue q)) (sym e) (in_cond _ new _ i))
        (λ f. absurd (let t : true ≡ false = sym h ∙ (fine q (in_cond _ new _ i)).1 f in cc))
        (cases_Bool everywhere)))
        (λ i. in_right (cond everywhere new []) (s.due Global) _ (safe.dues.narrow c q i h))
        (in_append (cond (is_held reaches (s.holder c)) new []) (s.due (Of c)) _ i);
    never_all = λ tag i. ⊎_elim (λ i. (fine [] (in_cond _ new _ i)).0 refl) (λ i. safe.dues.never_all tag i) (in_append (cond (is_concerned s.holder reaches everywhere tag) new []) (s.due tag) _ i);
    avoids = λ f q i. (fine q i).1 f;
    never_all_now = λ i. (fine [] i).0 refl;
  }

  -- ---- items

  made_items : (c : ℕ) (x : Cached) → In s.cache (tagged (Of c) x) → (b : Space) → In (map (with_next next) s.spaces) b → s.holder c ≡ Some b.root
      → items.Safe k.levels b.root b.window (later.due (Of c)) after.pool s.words (entry_at b.window b.paths) x
  made_items c x i b ib = let o = from_map (with_next next) s.spaces b ib in
      subst (λ (b : Space). s.holder c ≡ Some b.root → items.Safe k.levels b.root b.window (later.due (Of c)) after.pool s.words (entry_at b.window b.paths) x) o.2
      (λ h. item_stays k.levels o.0.root o.0.window (s.due (Of c)) (later.due (Of c)) s.pool after.pool s.words (entry_at o.0.window o.0.paths) x (record {
        pages = λ w e f d. in_right (cond (is_held reaches (s.holder c)) new []) (s.due (Of c)) _ d;
        tables = λ t e d. ((d.0, in_right (cond (is_held reaches (s.holder c)) new []) (s.due (Of c)) _ d.1, d.2), may.waits c t.frame d);
        loose = λ d i l. in_right (cond (is_held reaches (s.holder c)) new []) (s.due (Of c)) _ i;
      }) (safe.items c x i o.0 o.1 h))

  made_globals : (x : Cached) → In s.cache (tagged Global x) → IsGlobal k later x
  made_globals x i = let g = safe.globals x i in (
    g.0,
    g.1,
    g.2,
    λ b ib. let o = from_map (with_next next) s.spaces b ib in
        subst (λ (b : Space). GlobalIn k later b g.0) o.2 (grown o.0 g.0 (g.3 o.0 o.1)),
  )
    where
      grown : (b : Space) (w : PartialWalk) → GlobalIn k s b w → GlobalIn k later b w
      grown b w (inl y) = inl y
      grown b w (inr y) = inr (stale_more k.levels None (s.due Global) (later.due Global) (part k.shared b.paths) w (λ d i. in_right (cond everywhere new []) (s.due Global) d i) y)

  pub make_keeps : IsSafe k later
  make_keeps = record {
    held = held_next k s.words s.spaces next safe.held;
    current = let c = safe.current in (with_next next c.0, in_map (with_next next) s.spaces c.0 c.1, c.2);
    holds = safe.holds;
    moves = λ b ib q. let o = from_map (with_next next) s.spaces b ib in
        subst (λ (b : Space). Becomes k.levels b.window (cond (reaches b.root) new []) after.pool q (entry b.paths q) (entry b.next q)) o.2 (moved o.0 o.1 q);
    moves_shared = λ b ib q on. let o = from_map (with_next next) s.spaces b ib in
        subst (λ (b : Space). Becomes k.levels None (cond everywhere new []) after.pool q (entry b.paths q) (entry b.next q)) o.2 (moved_shared o.0 o.1 q on);
    dues = dues;
    items = made_items;
    globals = made_globals;
  }
