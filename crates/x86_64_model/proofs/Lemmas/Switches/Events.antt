-- Flushes, loads of CR3, and what the kernel does with its pool and its spaces.
use Rattle.std.proofs.Common.{◌≡◌, ◌≢◌, inl, inr, ⊎_elim, ◌==◌, ℕ, Bool, true, false, not, cond, List, [], ◌∷◌, filter, Some, None, Option, refl, sym, ap, ◌∙◌, subst, subst₂, eq-eqb, ne_eqb}
use Rattle.std.proofs.lemmas.Bool.{cases_eq, eqb-false, not-true}
use Rattle.x86_64_model.specs.Entry.{LeadAlike}
use Rattle.x86_64_model.specs.Lists.{In}
use Rattle.x86_64_model.specs.Path.{begins}
use Rattle.x86_64_model.specs.PathMap.{PathMap, entry}
use Rattle.x86_64_model.specs.Window.{entry_at}
use Rattle.x86_64_model.specs.Spaces.{is_shared}
use Rattle.x86_64_model.specs.Caches.{PartialWalk, Cached, Page}
use Rattle.x86_64_model.specs.Flushing.{Due}
use Rattle.x86_64_model.specs.Tags.{Tag, Of, Global, Tagged, TaggedFlush, is_left}
use Rattle.x86_64_model.specs.Switches.{Kernel, Space, Switching, AreDone, pending, is_held, holder_with, due_with, Returns, Pools, Begins, Ends, Loads, Abandons, Flushes, after_switch}
use Rattle.x86_64_model.specs.MaySwitch.{MayPool, MayBegin, MayEnd, MayLoad, MayFlushTagged}
use Rattle.x86_64_model.proofs.Lemmas.Lists.Members.{in_filter, from_filter}
use Rattle.x86_64_model.proofs.Lemmas.Caches.Items as items
use Rattle.x86_64_model.proofs.Lemmas.Caches.Items.{item_stays}
use Rattle.x86_64_model.proofs.Lemmas.Caches.Windowed.{Becomes, AsBefore}
use Rattle.x86_64_model.proofs.Lemmas.Switches.Alike.{safe_alike, shared_front, part, part_is}
use Rattle.x86_64_model.proofs.Lemmas.Switches.Dues.{in_cond, left_stays, flush_due, return_due, holder_due}
use Rattle.x86_64_model.proofs.Lemmas.Switches.Safe.{IsSafe, SafeIn, IsGlobal, GlobalIn, tagged, own, wide}

module _ (k : Kernel) (s : Switching) (safe : IsSafe k s) where
  -- ---- a flush

  module _ (f : TaggedFlush) (after : List Tagged) (may : MayFlushTagged k s f after) where
    abbrev flushed : Switching
    flushed = after_switch k s (Flushes f after)

    flushed_items : (c : ℕ) (x : Cached) → In after (tagged (Of c) x) → (a : Space) → In s.spaces a → s.holder c ≡ Some a.root → SafeIn k flushed a c x
    flushed_items c x i a ia h = let l = may (tagged (Of c) x) i in
        item_stays k.levels a.root a.window (s.due (Of c)) (flushed.due (Of c)) s.pool s.pool s.words (entry_at a.window a.paths) x
        (left_stays k.levels s.pcid a.window f (Of c) x (s.due (Of c)) (pending s (Of c)) s.pool l.1) (safe.items c x l.0 a ia h)

    flushed_globals : (x : Cached) → In after (tagged Global x) → IsGlobal k flushed x
    flushed_globals x i = let l = may (tagged Global x) i in let g = safe.globals x l.0 in (
      g.0,
      g.1,
      g.2,
      λ a ia.
          item_stays k.levels a.root None (s.due Global) (flushed.due Global) s.pool s.pool s.words (part k.shared a.paths) (Page g.0)
          (left_stays k.levels s.pcid None f Global (Page g.0) (s.due Global) (pending s Global) s.pool (subst (λ x. is_left k.levels s.pcid f Global x ≡ true) g.1 l.1)) (g.3 a ia),
    )

    pub flush_keeps : IsSafe k flushed
    flush_keeps = let d = flush_due k.shared s safe.dues k.levels f in record {
      held = safe.held;
      current = safe.current;
      holds = safe.holds;
      moves = safe.moves;
      moves_shared = safe.moves_shared;
      dues = record { covers = d.covers; narrow = d.narrow; never_all = d.never_all; avoids = d.avoids; never_all_now = d.never_all_now };
      items = flushed_items;
      globals = flushed_globals;
    }

  -- ---- the call is done

  pub return_keeps : AreDone s → IsSafe k (after_switch k s Returns)
  return_keeps done = record {
    held = safe.held;
    current = safe.current;
    holds = safe.holds;
    moves = λ a ia q. AsBefore (ap (λ (M : PathMap). entry M q) (sym (done a ia)));
    moves_shared = λ a ia q on. AsBefore (ap (λ (M : PathMap). entry M q) (sym (done a ia)));
    dues = return_due k.shared s safe.dues;
    items = safe.items;
    globals = safe.globals;
  }

  -- ---- the pool

  pub pool_keeps : (pool : List ℕ) → MayPool s pool → IsSafe k (after_switch k s (Pools pool))
  pool_keeps pool may = record {
    held = safe.held;
    current = safe.current;
    holds = safe.holds;
    moves = λ a ia q. AsBefore (ap (λ (M : PathMap). entry M q) (sym (may.done a ia)));
    moves_shared = λ a ia q on. AsBefore (ap (λ (M : PathMap). entry M q) (sym (may.done a ia)));
    dues = record { covers = safe.dues.covers; narrow = safe.dues.narrow; never_all = safe.dues.never_all; avoids = safe.dues.avoids; never_all_now = safe.dues.never_all_now };
    items = λ c x i a ia h. item_stays k.levels a.root a.window (s.due (Of c)) (s.due (Of c)) s.pool pool s.words (entry_at a.window a.paths) x
        (record { pages = λ w e f d. d; tables = λ t e d. (d, may.waits c t.frame d); loose = λ d i l. i }) (safe.items c x i a ia h);
    globals = safe.globals;
  }

  -- ---- spaces come and go

  pub begin_keeps : (a : Space) → MayBegin k s a → IsSafe k (after_switch k s (Begins a))
  begin_keeps a may = record {
    held = may.held;
    current = let c = safe.current in (c.0, inr c.1, c.2);
    holds = safe.holds;
    moves = λ b ib q. ⊎_elim (λ e. subst (λ (b : Space). Becomes k.levels b.window (own s b.root) s.pool q (entry b.paths q) (entry b.next q)) e (AsBefore (still q))) (λ ib. safe.moves b ib q) ib;
    moves_shared = λ b ib q on. ⊎_elim (λ e. subst (λ (b : Space). Becomes k.levels None (wide s) s.pool q (entry b.paths q) (entry b.next q)) e (AsBefore (still q))) (λ ib. safe.moves_shared b ib q on) ib;
    dues = record { covers = safe.dues.covers; narrow = safe.dues.narrow; never_all = safe.dues.never_all; avoids = safe.dues.avoids; never_all_now = safe.dues.never_all_now };
    items = λ c x i b ib h. ⊎_elim (λ e. absurd (may.unused c (h ∙ ap (λ (b : Space). Some b.root) (sym e)))) (λ ib. safe.items c x i b ib h) ib;
    globals = λ x i. let g = safe.globals x i in (
      g.0,
      g.1,
      g.2,
      λ b ib. ⊎_elim
          (λ e. subst (λ (b : Space). GlobalIn k s b g.0) e (beside g.0 g.2 (g.3 safe.current.0 safe.current.1)))
          (λ ib. g.3 b ib) ib,
    );
  }
    where
      still : (q : List ℕ) → entry a.next q ≡ entry a.paths q
      still q = ap (λ (M : PathMap). entry M q) (sym may.done)

      -- a global page is a page of the new space, too
      beside : (w : PartialWalk) → is_shared k.shared w.path ≡ true → GlobalIn k s safe.current.0 w → GlobalIn k s a w
      beside w on x = safe_alike k.levels (part k.shared safe.current.0.paths) (part k.shared a.paths) w same None (s.due Global) x
        where
          same : (i : ℕ) (c : List ℕ) → begins (i ∷ c) w.path ≡ true → LeadAlike (part k.shared safe.current.0.paths (i ∷ c)) (part k.shared a.paths (i ∷ c))
          same i c b = let h = shared_front k.shared i c w.path b on in
              subst₂ LeadAlike (sym (part_is k.shared safe.current.0.paths (i ∷ c) h)) (sym (part_is k.shared a.paths (i ∷ c) h)) (may.held.alike safe.current.0 a (inr safe.current.1) (inl refl) (i ∷ c) h)

  pub end_keeps : (root : ℕ) → MayEnd s root → IsSafe k (after_switch k s (Ends root))
  end_keeps root may = record {
    held = record {
      valid = λ a i. safe.held.valid a (old a i);
      alike = λ a b i j. safe.held.alike a b (old a i) (old b j);
      globals = λ a i. safe.held.globals a (old a i);
      windows = λ a i. safe.held.windows a (old a i);
      all_or_none = λ a b i j. safe.held.all_or_none a b (old a i) (old b j);
    };
    current = let c = safe.current in (c.0, in_filter other s.spaces c.0 c.1 (ap not (ne_eqb c.0.root root (λ e. may s.pcid (safe.holds ∙ ap Some (sym c.2 ∙ e))))), c.2);
    holds = safe.holds;
    moves = λ b ib q. safe.moves b (old b ib) q;
    moves_shared = λ b ib q on. safe.moves_shared b (old b ib) q on;
    dues = record { covers = safe.dues.covers; narrow = safe.dues.narrow; never_all = safe.dues.never_all; avoids = safe.dues.avoids; never_all_now = safe.dues.never_all_now };
    items = λ c x i b ib h. safe.items c x i b (old b ib) h;
    globals = λ x i. let g = safe.globals x i in (g.0, g.1, g.2, λ b ib. g.3 b (old b ib));
  }
    where
      other : Space → Bool
      other a = not (a.root == root)

      old : (a : Space) → In (filter (λ (a : Space). not (a.root == root)) s.spaces) a → In s.spaces a
      old a i = from_filter (λ (a : Space). not (a.root == root)) s.spaces a i

  -- ---- PCIDs

  same_holder : (pcid root : ℕ) → s.holder pcid ≡ Some root → (c : ℕ) → holder_with pcid (Some root) s.holder c ≡ s.holder c
  same_holder pcid root h c = ⊎_elim
      (λ e. ap (λ b. cond b (Some root) (s.holder c)) (eq-eqb c pcid e) ∙ sym h ∙ ap s.holder (sym e))
      (λ n. ap (λ b. cond b (Some root) (s.holder c)) (ne_eqb c pcid n)) (cases_eq c pcid)

  -- an item of another PCID stays as it is
  module _ (pcid : ℕ) (new : Option ℕ) (mine : List Due) (c : ℕ) (n : c ≢ pcid) where
    other_holder : holder_with pcid new s.holder c ≡ s.holder c
    other_holder = ap (λ b. cond b new (s.holder c)) (ne_eqb c pcid n)

    other_item : (x : Cached) → In s.cache (tagged (Of c) x) → (a : Space) → In s.spaces a → holder_with pcid new s.holder c ≡ Some a.root
        → items.Safe k.levels a.root a.window (due_with pcid mine s.due (Of c)) s.pool s.words (entry_at a.window a.paths) x
    other_item x i a ia h = subst (λ b. items.Safe k.levels a.root a.window (cond b mine (s.due (Of c))) s.pool s.words (entry_at a.window a.paths) x) (sym (ne_eqb c pcid n))
        (safe.items c x i a ia (sym other_holder ∙ h))

  pub load_keeps : (root pcid : ℕ) (keeps : Bool) (after : List Tagged) → MayLoad s root pcid keeps after → IsSafe k (after_switch k s (Loads root pcid keeps after))
  load_keeps root pcid true after may = record {
    held = safe.held;
    current = (may.space, may.there, may.is_root);
    holds = ap (λ b. cond b (Some root) (s.holder pcid)) (eq-eqb pcid pcid refl);
    moves = safe.moves;
    moves_shared = safe.moves_shared;
    dues = record { covers = covers; narrow = safe.dues.narrow; never_all = safe.dues.never_all; avoids = safe.dues.avoids; never_all_now = safe.dues.never_all_now };
    items = λ c x i a ia h. safe.items c x (may.left (tagged (Of c) x) i).0 a ia (sym (same_holder pcid root (may.holds refl) c) ∙ h);
    globals = λ x i. safe.globals x (may.left (tagged Global x) i).0;
  }
    where
      covers : (tag : Tag) (d : Due) → In (pending (after_switch k s (Loads root pcid true after)) tag) d → In (s.due tag) d
      covers (Of c) d i = safe.dues.covers (Of c) d (subst (λ o. In (cond (is_held s.reaches o) s.under_way []) d) (same_holder pcid root (may.holds refl) c) i)
      covers Global d i = safe.dues.covers Global d i
  load_keeps root pcid false after may = let d = holder_due k.shared s safe.dues pcid (Some root) (own s root) (λ d i. i) (λ d i. in_cond _ s.under_way d i) in record {
    held = safe.held;
    current = (may.space, may.there, may.is_root);
    holds = ap (λ b. cond b (Some root) (s.holder pcid)) (eq-eqb pcid pcid refl);
    moves = safe.moves;
    moves_shared = safe.moves_shared;
    dues = record { covers = d.covers; narrow = d.narrow; never_all = d.never_all; avoids = d.avoids; never_all_now = d.never_all_now };
    items = λ c x i a ia h. let l = may.left (tagged (Of c) x) i in
        other_item pcid (Some root) (own s root) c (λ e. eqb-false pcid c (not-true _ l.1) (sym e)) x l.0 a ia h;
    globals = λ x i. safe.globals x (may.left (tagged Global x) i).0;
  }

  pub abandon_keeps : (pcid : ℕ) → pcid ≢ s.pcid → IsSafe k (after_switch k s (Abandons pcid))
  abandon_keeps pcid n = let d = holder_due k.shared s safe.dues pcid None [] (λ d i. i) (λ d i. absurd i) in record {
    held = safe.held;
    current = safe.current;
    holds = ap (λ b. cond b None (s.holder s.pcid)) (ne_eqb s.pcid pcid (λ e. n (sym e))) ∙ safe.holds;
    moves = safe.moves;
    moves_shared = safe.moves_shared;
    dues = record { covers = d.covers; narrow = d.narrow; never_all = d.never_all; avoids = d.avoids; never_all_now = d.never_all_now };
    items = λ c x i a ia h. ⊎_elim
        (λ e. absurd (let t : None ≡ Some a.root = sym (ap (λ b. cond b None (s.holder c)) (eq-eqb c pcid e)) ∙ h in cc))
        (λ n. other_item pcid None [] c n x i a ia h) (cases_eq c pcid);
    globals = safe.globals;
  }
