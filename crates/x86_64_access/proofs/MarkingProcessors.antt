-- What has to be flushed after calls is enough for a processor that marks.
use Rattle.std.proofs.Common.{◌≡◌, inl, inr, ◌<◌, ◌+◌, ◌%◌, ◌==◌, ℕ, Bool, true≢false, true, false, cond, List, [], ◌∷◌, ◌++◌, Some, None, Option, option_map, refl, sym, ap, ◌∙◌, subst, subst₂}
use Rattle.std.proofs.lemmas.Option.{same_Some}
use Rattle.x86_64_model.specs.Arrivals.{NoWorse}
use Rattle.x86_64_model.specs.Caches.{Cached, Page, Table, PartialWalk, MayAccess, walk_with_rights, walked_in}
use Rattle.x86_64_model.specs.Entry.{LeadAlike, present}
use Rattle.x86_64_model.specs.Flushing.{BelowDue, Due, IsDone, PageDue, System, TablesDue, WindowDue, after_event, concerns, fresh, loosens}
use Rattle.x86_64_model.specs.Validity.{IsValid, paths_of}
use Rattle.x86_64_model.specs.Laws.Caches.{WalksThere}
use Rattle.x86_64_model.specs.Laws.Steps.{FitsState}
use Rattle.x86_64_model.specs.Lists.{In}
use Rattle.x86_64_model.specs.Machine.{IsMachine, Machine, State}
use Rattle.x86_64_model.specs.Memory.{Words, word}
use Rattle.x86_64_model.specs.PageWalk.{Walked, page_walk}
use Rattle.x86_64_model.specs.Path.{level_of}
use Rattle.x86_64_model.specs.PathMap.{HasUsedAlone, PathMap, entry, table_at}
use Rattle.x86_64_model.specs.Pool.{IsOwn}
use Rattle.x86_64_model.specs.Position.{page_path, span}
use Rattle.x86_64_model.specs.Window.{IsValidFor, SelfEntry, Window, begins_with, entry_at, outside_window, windowed}
use Rattle.x86_64_model.proofs.Lemmas.Caches.Items as items
use Rattle.x86_64_model.proofs.Lemmas.Caches.Kept.{LooseAt}
use Rattle.x86_64_model.proofs.Lemmas.Caches.Runs.{event_safe, fresh_safe, goes, reads_tables, stale_or_not, unreached}
use Rattle.x86_64_model.proofs.Lemmas.Caches.Safe.{IsSafe, Safe}
use Rattle.x86_64_model.proofs.Lemmas.Caches.Walks.{walks_with_rights}
use Rattle.x86_64_model.proofs.Lemmas.Caches.Windowed.{AsBefore, Becomes, HasWindow, Made, Marked, Reflagged, Remapped, Removed}
use Rattle.x86_64_model.proofs.Lemmas.Entries.Bits.{zero_absent}
use Rattle.x86_64_model.proofs.Lemmas.Hierarchies.Exists.{held_is_paths_of}
use Rattle.x86_64_model.proofs.Lemmas.Hierarchies.Trees.{IsHierarchy}
use Rattle.x86_64_model.proofs.Lemmas.Machines.States.{Aside, IsSound}
use Rattle.x86_64_model.proofs.Lemmas.Switches.Marks.{becomes_marked, item_marked}
use Rattle.x86_64_access.specs.Marks.{GetsMarks, OnlyMarks, window_now}
use Rattle.x86_64_access.specs.MarkingProcessors.{AllMarkingMayHappen, FlushesAreEnoughWithMarks, IsCovered, IsReachedWithMarks, MarkingEvent, MarkingMayHappen, Marks, MarksMayHappen, MayMark, Other, after_all_marking, after_marking, paths_held, machine_in}
use Rattle.x86_64_access.proofs.MarkedHierarchies.{entries_marked, outside_marked, same_table_of, same_used, self_still, valid_still}
use Rattle.x86_64_access.proofs.Marks.{same_address, same_has}

-- ---- one entry

-- an absent entry gets no marks
pub zero_stays : (e g : ℕ) → GetsMarks e g → e ≡ 0 → g ≡ 0
zero_stays e g (inl same) z = same ∙ z
zero_stays e g (inr (here, bits, marks, is)) z = absurd (true≢false (sym here ∙ ap present z ∙ zero_absent))

-- what gets marks leads where it led, with the same rights
pub alike : (e g : ℕ) → GetsMarks e g → LeadAlike e g
alike e g gets = record {
  same_used = same_used e g gets;
  same_present = same_has e g 0x1 gets refl;
  same_huge = same_has e g 0x80 gets refl;
  same_address = same_address e g gets;
  same_write = same_has e g 0x2 gets refl;
  same_user = same_has e g 0x4 gets refl;
  same_execute = same_has e g 0x8000_0000_0000_0000 gets refl;
}

one_of_two : (b : Bool) (x y x' y' : ℕ) → GetsMarks x x' → GetsMarks y y' → GetsMarks (cond b x y) (cond b x' y')
one_of_two true x y x' y' h k = h
one_of_two false x y x' y' h k = k

-- ---- the recursive index

window_had : (v : Option Window) (U : Words) (root : ℕ) (due : List Due) → HasWindow v due → HasWindow (window_now U root v) due
window_had None U root due h w is = h w is
window_had (Some a) U root due h w is = h a refl

same_begins : (v : Option Window) (U : Words) (root : ℕ) (q : List ℕ) → begins_with (window_now U root v) q ≡ begins_with v q
same_begins None U root q = refl
same_begins (Some a) U root [] = refl
same_begins (Some a) U root (i ∷ q) = refl

same_concerns : (L : ℕ) (v : Option Window) (U : Words) (root : ℕ) (due : Due) (p : ℕ) → concerns L (window_now U root v) due p ≡ concerns L v due p
same_concerns L v U root (PageDue q frame) p = refl
same_concerns L v U root (TablesDue freed) p = refl
same_concerns L v U root WindowDue p = same_begins v U root (page_path L p)
same_concerns L v U root (BelowDue q) p = refl

pub same_outside : (v : Option Window) (U T : Words) (root : ℕ) → outside_window (window_now U root v) root T ≡ outside_window v root T
same_outside None U T root = refl
same_outside (Some a) U T root = refl

again : (v : Option Window) (T U : Words) (root : ℕ) → window_now U root (window_now T root v) ≡ window_now U root v
again None T U root = refl
again (Some a) T U root = refl

pub own_self : (v : Option Window) (T : Words) (root : ℕ) → SelfEntry T root v → v ≡ window_now T root v
own_self None T root self = refl
own_self (Some a) T root self = ap (λ x. Some (record { index = a.index; self_entry = x })) self.is_word

-- what is read through the window gets marks
module _ (T U : Words) (root : ℕ) (only : OnlyMarks T U) (M N : PathMap) (gets : (q : List ℕ) → GetsMarks (entry M q) (entry N q)) where
  module _ (a : Window) (is_word : a.self_entry ≡ word T root a.index) where
    self_marked : GetsMarks a.self_entry (word U root a.index)
    self_marked = subst (λ x. GetsMarks x (word U root a.index)) (sym is_word) (only.words root a.index)

    through : (q : List ℕ) → GetsMarks (windowed a M q) (windowed (record { index = a.index; self_entry = word U root a.index }) N q)
    through [] = inl refl
    through (i ∷ []) = one_of_two (i == a.index) _ _ _ _ self_marked (gets (i ∷ []))
    through (i ∷ j ∷ q) = one_of_two (i == a.index) _ _ _ _ (through (j ∷ q)) (gets (i ∷ j ∷ q))

  pub seen_marked : (v : Option Window) → SelfEntry T root v → (q : List ℕ) → GetsMarks (entry_at v M q) (entry_at (window_now U root v) N q)
  unfolding entry_at
  seen_marked None self q = gets q
  seen_marked (Some a) self q = through a self.is_word q

-- ---- a state

module _ (L root : ℕ) (M N : PathMap) (gets : (q : List ℕ) → GetsMarks (entry M q) (entry N q)) where
  same_table : (q : List ℕ) → table_at L root N q ≡ table_at L root M q
  same_table [] = refl
  same_table (i ∷ q) = same_table_of L (i ∷ q) (entry M (i ∷ q)) (entry N (i ∷ q)) (gets (i ∷ q))

  pub led : (q : List ℕ) (f : ℕ) → table_at L root N q ≡ Some f → table_at L root M q ≡ Some f
  led q f t = sym (same_table q) ∙ t

  hierarchy_marked : HasUsedAlone N → IsHierarchy L root M → IsHierarchy L root N
  hierarchy_marked alone h = record {
    tree = record {
      nothing_above = zero_stays _ _ (gets []) h.tree.nothing_above;
      used_alone = alone;
      below = λ q i none. zero_stays _ _ (gets (q ++ i ∷ [])) (h.tree.below q i (sym (same_table q) ∙ none));
      small = λ q i past. zero_stays _ _ (gets (q ++ i ∷ [])) (h.tree.small q i past);
    };
    not_zero = λ i q t. h.not_zero i q (led (i ∷ q) 0 t);
    none_huge = λ q high. same_has _ _ 0x80 (gets q) refl ∙ h.none_huge q high;
  }

  aside_marked : (v : Option Window) (U : Words) → Aside v M → Aside (window_now U root v) N
  aside_marked None U a = tt
  aside_marked (Some w) U a = zero_stays _ _ (gets (w.index ∷ [])) a

  pub own_before : (pool : List ℕ) (f : ℕ) → IsOwn L root N pool f → IsOwn L root M pool f
  own_before pool f (inl free) = inl free
  own_before pool f (inr (q, t)) = inr (q, led q f t)

  sound_marked : (v : Option Window) (U : Words) (serves : ℕ → Bool) (pool : List ℕ) → HasUsedAlone N
      → IsSound L v root serves (record { paths = M; pool = pool }) → IsSound L (window_now U root v) root serves (record { paths = N; pool = pool })
  sound_marked v U serves pool alone sound = record {
    hierarchy = hierarchy_marked alone sound.hierarchy;
    aside = aside_marked v U sound.aside;
    one_each = record {
      own_frames = λ p q f s t. sound.one_each.own_frames p q f (led p f s) (led q f t);
      each_once = sound.one_each.each_once;
      no_table = λ f free (q, t). sound.one_each.no_table f free (q, led q f t);
    };
    frames = sound.frames;
    served = λ f own. sound.served f (own_before pool f own);
  }

-- ---- the index of the window decides, whatever its self-entry is

becomes_seen : (L : ℕ) (v w : Option Window) (due : List Due) (pool q : List ℕ) (e f : ℕ) → (HasWindow v due → HasWindow w due)
    → Becomes L v due pool q e f → Becomes L w due pool q e f
becomes_seen L v w due pool q e f had (AsBefore is) = AsBefore is
becomes_seen L v w due pool q e f had (Made u) = Made u
becomes_seen L v w due pool q e f had (Marked k same) = Marked k same
becomes_seen L v w due pool q e f had (Remapped none d h) = Remapped none d (λ l. had (h l))
becomes_seen L v w due pool q e f had (Reflagged same r d b h) = Reflagged same r d b (had h)
becomes_seen L v w due pool q e f had (Removed z h g names d free) = Removed z (had h) g names d free

module _ (v : Option Window) (U : Words) (root : ℕ) (due : List Due) where
  loosens_still : (d : Due) (x : List ℕ) → loosens v d x ≡ true → loosens (window_now U root v) d x ≡ true
  loosens_still (PageDue q frame) x l = l
  loosens_still (TablesDue freed) x l = l
  loosens_still WindowDue x l = same_begins v U root x ∙ l
  loosens_still (BelowDue q) x l = l

  loose_still : (x : List ℕ) → LooseAt v due x → LooseAt (window_now U root v) due x
  loose_still x (d, i, l) = (d, i, loosens_still d x l)

  -- an item is safe still
  safe_seen : (L : ℕ) (pool : List ℕ) (T : Words) (E : List ℕ → ℕ) (c : Cached) → items.Safe L root v due pool T E c → items.Safe L root (window_now U root v) due pool T E c
  safe_seen L pool T E c (inl a) = inl a
  safe_seen L pool T E (Table t) (inr (inl x)) = inr (inl x)
  safe_seen L pool T E (Table t) (inr (inr x)) = inr (inr (loose_still t.path x.0, x.1))
  safe_seen L pool T E (Page w) (inr (inl (f, inl d, there))) = inr (inl (f, inl d, there))
  safe_seen L pool T E (Page w) (inr (inl (f, inr d, there))) = inr (inl (f, inr (d.0, same_begins v U root w.path ∙ d.1), there))
  safe_seen L pool T E (Page w) (inr (inr x)) = inr (inr (loose_still w.path x.0, x.1))

-- ---- marks

module _ (m : Machine) (levels : 0 < m.levels) (root : ℕ) (serves : ℕ → Bool) (s : System) (safe : IsSafe m root serves s) (U : Words) (only : OnlyMarks s.words U) where
  abbrev L : ℕ
  L = m.levels

  abbrev marked : Machine
  marked = machine_in U root m

  -- the path map that the words hold, before and after
  abbrev M : PathMap
  M = s.paths

  abbrev N : PathMap
  N = paths_held m root U

  -- the words outside the window
  abbrev T' : Words
  T' = outside_window m.window root s.words

  abbrev U' : Words
  U' = outside_window m.window root U

  outside : OnlyMarks T' U'
  outside = subst (OnlyMarks T') (same_outside m.window U U root) (outside_marked m.window root s.words U only)

  held : M ≡ paths_of L T' root
  held = held_is_paths_of L T' root levels M safe.valid.valid.holds

  pub gets : (q : List ℕ) → GetsMarks (entry M q) (entry N q)
  gets q = subst (λ (P : PathMap). GetsMarks (entry P q) (entry N q)) (sym held) (entries_marked T' U' outside L root levels q)

  seen : (q : List ℕ) → GetsMarks (entry_at m.window M q) (entry_at marked.window N q)
  seen = seen_marked s.words U root only M N gets m.window safe.valid.self

  pub valid_marked : IsValidFor L marked.window U root N
  valid_marked = record {
    valid = subst (λ V. IsValid L V root N) (sym (same_outside m.window U U root)) (valid_still T' U' outside L root levels (subst (IsValid L T' root) held safe.valid.valid));
    self = self_still m.window root s.words U only safe.valid.self;
  }

  module _ (called : PathMap) (may : MayMark s called U) where
    abbrev after : System
    after = after_marking m root s (Marks called U)

    item_safe : (c : Cached) → Safe m root s c → Safe marked root after c
    item_safe c x = safe_seen m.window U root s.due L s.state.pool U (entry_at marked.window N) c
        (item_marked L root m.window s.due s.state.pool s.words U (entry_at m.window M) (entry_at marked.window N)
        (λ q. alike _ _ (seen q)) (λ f zeros i. zero_stays _ _ (only.words f i) (zeros i)) c x)

    pub marks_safe : IsSafe marked root serves after
    marks_safe = record {
      sound = sound_marked L root s.state.paths called may.paths m.window U serves s.state.pool may.used_alone safe.sound;
      valid = valid_marked;
      moves = λ q. becomes_seen L m.window marked.window s.due s.state.pool q _ _ (window_had m.window U root s.due)
          (becomes_marked L m.window s.due s.state.pool q _ _ _ _ (alike _ _ (gets q)) (alike _ _ (may.paths q)) (safe.moves q));
      items = λ c i. item_safe c (safe.items c i);
    }

-- ---- lists of events

module _ (m : Machine) (is : IsMachine m) (levels : 0 < m.levels) (root : ℕ) (serves : ℕ → Bool) where
  abbrev with_window : Option Window → Machine
  with_window v = record { levels = m.levels; window = v; added_flags = m.added_flags; take_back = m.take_back }

  is_machine : (T : Words) → IsMachine (machine_in T root m)
  is_machine T = record { adds = is.adds; gives = is.gives }

  -- the system is safe, with the self-entry that its words have
  abbrev IsSafeNow : System → Type 0
  IsSafeNow s = IsSafe (machine_in s.words root m) root serves s

  one_safe : (s : System) → IsSafeNow s → (e : MarkingEvent) → MarkingMayHappen m root s e → IsSafeNow (after_marking m root s e)
  one_safe s safe (Other e) may =
      let next = after_event (machine_in s.words root m) s e in
      let then = event_safe (machine_in s.words root m) (is_machine s.words) levels root serves s safe e may in
      subst (λ v. IsSafe (with_window v) root serves next)
      (own_self (window_now s.words root m.window) next.words root then.valid.self ∙ again m.window s.words next.words root) then
  one_safe s safe (Marks called U) may = subst₂ (λ v (N : PathMap). IsSafe (with_window v) root serves
      (record { state = record { paths = called; pool = s.state.pool }; paths = N; words = U; cache = s.cache; due = s.due }))
      (again m.window s.words U root) (ap (λ V. paths_of m.levels V root) (same_outside m.window s.words U root))
      (marks_safe (machine_in s.words root m) levels root serves s safe U may.words called may)

  all_safe : (events : List MarkingEvent) (s : System) → IsSafeNow s → AllMarkingMayHappen m root s events → IsSafeNow (after_all_marking m root s events)
  all_safe [] s safe all = safe
  all_safe (e ∷ es) s safe all = all_safe es (after_marking m root s e) (one_safe s safe e all.0) all.1

  first_safe : (T : Words) (s : State) → FitsState m T root serves s → IsSafeNow (fresh s T)
  first_safe T s fits = subst (λ v. IsSafe (with_window v) root serves (fresh s T)) (own_self m.window T root fits.valid.self)
      (fresh_safe m is levels root serves T s fits)

  module _ (s : System) (safe : IsSafeNow s) where
    goes_there : (p : ℕ) → ((due : Due) → In s.due due → concerns m.levels m.window due p ≡ false)
        → (w : PartialWalk) → MayAccess m.levels root s.words s.cache p w → WalksThere (walk_with_rights m.levels s.words root p) w
    goes_there p settled w may = goes (machine_in s.words root m) (is_machine s.words) levels root serves s safe p
        (λ due i. same_concerns m.levels m.window s.words root due p ∙ settled due i) w may

    covered : IsCovered m root s
    covered = record {
      goes = goes_there;
      arrives = λ p settled w may walked same. let there = goes_there p settled w may in let v = there.0 in
          subst (λ walked. (v : Walked) × (page_walk m.levels s.words root p ≡ Some v) × NoWorse walked v) (same_Some _ _ same) (
            walked_in m.levels p v,
            walks_with_rights m.levels s.words root p ∙ ap (option_map (walked_in m.levels p)) there.1,
            record {
              same_place = λ i. there.3 i + p % span (level_of m.levels (there.2 i));
              write_kept = there.4.write;
              user_kept = there.4.user;
            },
          );
      stale = stale_or_not (machine_in s.words root m) (is_machine s.words) levels root serves s safe;
      let_go = unreached (machine_in s.words root m) (is_machine s.words) levels root serves s safe;
      reads = reads_tables (machine_in s.words root m) (is_machine s.words) levels root serves s safe;
    }

  -- the systems that events lead to
  reached_safe : (T : Words) (s : State) → FitsState m T root serves s → (events : List MarkingEvent) (now : System) → IsReachedWithMarks m root T s events now → IsSafeNow now
  reached_safe T s fits events now reached = subst IsSafeNow reached.ends (all_safe events (fresh s T) (first_safe T s fits) reached.happen)

  any_marks : (s : System) → IsSafeNow s → IsDone s → (U : Words) → OnlyMarks s.words U → MayMark s (paths_held m root U) U
  any_marks s safe done U only = subst (λ V. MayMark s (paths_of m.levels V root) U) (same_outside m.window s.words U root) (record {
    words = only;
    paths = λ q. subst (λ (M : PathMap). GetsMarks (entry M q) (entry (paths_held (machine_in s.words root m) root U) q)) done
        (gets (machine_in s.words root m) levels root serves s safe U only q);
    used_alone = (valid_marked (machine_in s.words root m) levels root serves s safe U only).valid.holds.used_alone;
  })

pub flushes_are_enough_with_marks : FlushesAreEnoughWithMarks
flushes_are_enough_with_marks m root T serves s fits events now reached =
    covered m reached.machine reached.levels root serves now (reached_safe m reached.machine reached.levels root serves T s fits events now reached)

pub marks_may_happen : MarksMayHappen
marks_may_happen m root T serves s fits events now reached done U only = (
  any_marks m reached.machine reached.levels root serves now (reached_safe m reached.machine reached.levels root serves T s fits events now reached) done U only,
  refl,
)
