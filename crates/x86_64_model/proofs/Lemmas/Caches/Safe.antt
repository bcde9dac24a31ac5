-- Each cached item agrees with the entries that the processor reads, or what is due drops it: each event keeps this.
use Rattle.std.proofs.Common.{◌≡◌, inl, inr, ⊎_elim, ◌<◌, ℕ, Bool, true, false, not, cond, List, [], ◌++◌, filter, refl, sym, ap, ◌∙◌, subst}
use Rattle.x86_64_model.specs.Lists.{In}
use Rattle.x86_64_model.specs.Memory.{Words}
use Rattle.x86_64_model.specs.Path.{begins}
use Rattle.x86_64_model.specs.Position.{page_path}
use Rattle.x86_64_model.specs.PathMap.{PathMap, entry}
use Rattle.x86_64_model.specs.Window.{entry_at, outside_window, IsValidFor}
use Rattle.x86_64_model.specs.Call.{Call}
use Rattle.x86_64_model.specs.Machine.{Machine, IsMachine, step}
use Rattle.x86_64_model.specs.Caches.{PartialWalk, Cached, Table, Page, MayRead, Caches}
use Rattle.x86_64_model.specs.Flushing.{Due, PageDue, TablesDue, WindowDue, BelowDue, loosens, due_after, Flush, Invlpg, LoadCr3, FlushAll, survives, settles, System, Makes, Writes, Flushes, after_event, MayMake, MayWrite}
use Rattle.x86_64_model.proofs.Lemmas.Hierarchies.Trees.{IsTree, hierarchy_of_valid}
use Rattle.x86_64_model.proofs.Lemmas.Lists.Members.{in_filter, in_right}
use Rattle.x86_64_model.proofs.Lemmas.Machines.States.{IsSound}
use Rattle.x86_64_model.proofs.Lemmas.Walks.Agrees.{reads}
use Rattle.x86_64_model.proofs.Lemmas.Walks.Walked.{Reads}
use Rattle.x86_64_model.proofs.Lemmas.Caches.Agrees.{AgreesTable, start_agrees}
use Rattle.x86_64_model.proofs.Lemmas.Caches.Calls.{told_moves}
use Rattle.x86_64_model.proofs.Lemmas.Caches.Items as items
use Rattle.x86_64_model.proofs.Lemmas.Caches.Items.{StaysDue, item_stays, item_written, item_found}
use Rattle.x86_64_model.proofs.Lemmas.Caches.Windowed.{Becomes, AsBefore, seen_moves, seen_below, seen_empty}

abbrev pub Safe : Machine → (root : ℕ) → System → Cached → Type 0
Safe m root s c = items.Safe m.levels root m.window s.due s.state.pool s.words (entry_at m.window s.paths) c

-- the invariant
pub record IsSafe (m : Machine) (root : ℕ) (serves : ℕ → Bool) (s : System) : Type 0 where
  pub sound : IsSound m.levels m.window root serves s.state
  pub valid : IsValidFor m.levels m.window s.words root s.paths
  pub moves : (q : List ℕ) → Becomes m.levels m.window s.due s.state.pool q (entry s.paths q) (entry s.state.paths q)
  pub items : (c : Cached) → In s.cache c → Safe m root s c

module _ (m : Machine) (root : ℕ) (serves : ℕ → Bool) (s : System) (safe : IsSafe m root serves s) where
  -- ---- a call begins

  pub make_keeps : IsMachine m → (call : Call) (loses : Bool) → MayMake m s call loses → (c : Cached) → Safe m root s c → Safe m root (after_event m s (Makes call loses)) c
  make_keeps is call loses may c x = item_stays m.levels root m.window s.due (new ++ s.due) s.state.pool _ s.words (entry_at m.window s.paths) c (record {
    pages = λ w e f d. in_right new s.due _ d;
    tables = λ t e d. ((d.0, in_right new s.due _ d.1, d.2), may.waits t.frame d);
    loose = λ d i l. in_right new s.due d i;
  }) x
    where
      new : List Due
      new = cond loses (due_after m s.state call) []

  pub make_moves : IsMachine m → (call : Call) (loses : Bool) → MayMake m s call loses → (q : List ℕ)
      → Becomes m.levels m.window (cond loses (due_after m s.state call) [] ++ s.due) (step m s.state call).state.pool q (entry s.paths q) (entry (step m s.state call).state.paths q)
  make_moves is call loses may q = subst (λ (M : PathMap). Becomes m.levels m.window (cond loses (due_after m s.state call) [] ++ s.due) (step m s.state call).state.pool q (entry M q) (entry (step m s.state call).state.paths q))
      (sym may.done) (told_moves m is root serves s.state safe.sound s.due call may.is_call loses may.kept q)

  -- ---- words change

  module _ (N : PathMap) (U : Words) (may : MayWrite m root s N U) where
    tree : IsTree m.levels root N
    tree = (hierarchy_of_valid m.levels (outside_window m.window root U) root N may.valid.valid).tree

    -- each entry that changes becomes as it will be
    now : (q : List ℕ) → Becomes m.levels m.window s.due s.state.pool q (entry s.paths q) (entry N q)
    now q = ⊎_elim (λ e. AsBefore e) (λ e. subst (Becomes m.levels m.window s.due s.state.pool q (entry s.paths q)) (sym e) (safe.moves q)) (may.between q)

    pub write_moves : (q : List ℕ) → Becomes m.levels m.window s.due s.state.pool q (entry N q) (entry s.state.paths q)
    write_moves q = ⊎_elim (λ e. subst (λ x. Becomes m.levels m.window s.due s.state.pool q x (entry s.state.paths q)) (sym e) (safe.moves q)) (λ e. AsBefore (sym e)) (may.between q)

    -- what the processor reads before and after
    abbrev E : List ℕ → ℕ
    E = entry_at m.window s.paths

    abbrev F : List ℕ → ℕ
    F = entry_at m.window N

    pub write_keeps : (c : Cached) → Safe m root s c → Safe m root (after_event m s (Writes N U)) c
    write_keeps = item_written m.levels root m.window E F s.due s.state.pool s.words U
        (seen_below m.levels root s.paths N s.due s.state.pool U m.window may.valid.self tree)
        (seen_moves m.levels root s.paths N s.due s.state.pool U m.window now)
        (seen_empty m.levels root s.paths N s.due s.state.pool U m.window may.empty)
        may.keeps

  -- ---- a flush

  -- what drops an item that is left is due still
  left_due : (f : Flush) (c : Cached) → survives m.levels f c ≡ true → StaysDue m.window s.due (filter (λ due. not (settles m.levels f due)) s.due) s.state.pool s.state.pool c
  left_due FlushAll c left = cc
  left_due (Invlpg p) (Table t) left = cc
  left_due LoadCr3 (Table t) left = cc
  left_due (Invlpg p) (Page w) left = record {
    pages = λ v e f d. in_filter (λ due. not (settles m.levels (Invlpg p) due)) s.due _ d (ap not (let same : w ≡ v = cc in sym (ap (λ v. begins v.path (page_path m.levels p)) same)) ∙ left);
    tables = λ t e d. cc;
    loose = λ d i l. in_filter (λ due. not (settles m.levels (Invlpg p) due)) s.due d i (loose (Invlpg p) (λ q. refl) refl d l);
  }
    where
      loose : (f : Flush) → ((q : List ℕ) → settles m.levels f (BelowDue q) ≡ false) → settles m.levels f WindowDue ≡ false → (d : Due) → loosens m.window d w.path ≡ true → not (settles m.levels f d) ≡ true
      loose f below window (PageDue q frame) l = cc
      loose f below window (TablesDue freed) l = cc
      loose f below window WindowDue l = ap not window
      loose f below window (BelowDue q) l = ap not (below q)
  left_due LoadCr3 (Page w) left = record {
    pages = λ v e f d. in_filter (λ due. not (settles m.levels LoadCr3 due)) s.due _ d refl;
    tables = λ t e d. cc;
    loose = λ d i l. in_filter (λ due. not (settles m.levels LoadCr3 due)) s.due d i (loose d l);
  }
    where
      loose : (d : Due) → loosens m.window d w.path ≡ true → not (settles m.levels LoadCr3 d) ≡ true
      loose (PageDue q frame) l = cc
      loose (TablesDue freed) l = cc
      loose WindowDue l = refl
      loose (BelowDue q) l = refl

  pub flush_keeps : (f : Flush) (after : List Cached) (c : Cached) → survives m.levels f c ≡ true → Safe m root s c → Safe m root (after_event m s (Flushes f after)) c
  flush_keeps f after c left x = item_stays m.levels root m.window s.due _ s.state.pool s.state.pool s.words (entry_at m.window s.paths) c (left_due f c left) x

  -- ---- the caches change

  pub r : Reads m.levels s.words root (entry_at m.window s.paths)
  r = reads m.levels s.words root s.paths m.window safe.valid

  pub table_safe : 0 < m.levels → (t : PartialWalk) → MayRead root s.cache t → Safe m root s (Table t)
  table_safe levels t (inl e) = inl (subst (λ t. AgreesTable m.levels root (entry_at m.window s.paths) t) (sym e) (start_agrees m.levels root (entry_at m.window s.paths) levels))
  table_safe levels t (inr there) = safe.items (Table t) there

  pub change_keeps : 0 < m.levels → (after : List Cached) → Caches m.levels root s.words s.cache after → (c : Cached) → In after c → Safe m root s c
  change_keeps levels after caches c i = ⊎_elim
      (λ there. safe.items c there)
      (λ x. item_found m.levels root s.words (entry_at m.window s.paths) r levels m.window s.due s.state.pool x.0 x.1 c (table_safe levels x.0 x.2) x.3)
      (caches c i)
