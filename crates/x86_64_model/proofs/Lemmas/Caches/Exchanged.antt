-- An exchange of an entry keeps what is known of a system.
use Rattle.std.proofs.Common.{◌≡◌, ◌≢◌, inl, inr, ⊎_elim, ◌<◌, nat_lt, ℕ, ◌*◌, ◌==◌, ◌&&◌, Bool, true, false, not, cond, List, [], ◌∷◌, ◌++◌, length, Some, None, Option, refl, sym, ap, ◌∙◌, subst, eq-eqb, eqb-true, lt-ltb, arith, bit_and}
use Rattle.std.specs.Int.{bit_at}
use Rattle.std.proofs.lemmas.Bool.{and_parts, and_from, not-false, cases_Bool}
use Rattle.std.proofs.lemmas.Nat.Bits.{and_pow}
use Rattle.x86_64_model.specs.Laws.Caches.{WordsTellLosses}
use Rattle.x86_64_model.specs.Laws.EntriesInPlace.{NamesNoTable, NameOneTable}
use Rattle.x86_64_model.specs.Lists.{In}
use Rattle.x86_64_model.specs.Entry.{has, used, present, user, huge, address, names_table}
use Rattle.x86_64_model.specs.Memory.{Words}
use Rattle.x86_64_model.specs.Path.{is_small}
use Rattle.x86_64_model.specs.PathMap.{PathMap, entry, put, table_of, table_at}
use Rattle.x86_64_model.specs.Window.{Window, begins_with, entry_at, outside_window}
use Rattle.x86_64_model.specs.Machine.{Machine}
use Rattle.x86_64_model.specs.Caches.{Cached}
use Rattle.x86_64_model.specs.Flushing.{Due, PageDue, TablesDue, WindowDue, BelowDue, IsUnflushed, LosesNothing, System, MayExchange, Exchanges, after_event, implies, loses_between, due_between, if_window, below_due, page_due}
use Rattle.x86_64_model.proofs.Lemmas.Entries.Bits.{used_present}
use Rattle.x86_64_model.proofs.Lemmas.Hierarchies.Held.{table_at-put_same, table_at-put_other}
use Rattle.x86_64_model.proofs.Lemmas.Hierarchies.Trees.{IsHierarchy, hierarchy_of_valid, table_at_is, some_not_none, used_table, plain_table}
use Rattle.x86_64_model.proofs.Lemmas.Lists.Members.{in_append, in_right}
use Rattle.x86_64_model.proofs.Lemmas.Live.InPlace.{none_named, still_named, replaces}
use Rattle.x86_64_model.proofs.Lemmas.Machines.States.{Aside, IsSound, kept_served}
use Rattle.x86_64_model.proofs.Lemmas.Maps.Frames.{Conserves, conserves_marked}
use Rattle.x86_64_model.proofs.Lemmas.Paths.Begins.{begins_itself}
use Rattle.x86_64_model.proofs.Lemmas.Walks.Agrees.{named}
use Rattle.x86_64_model.proofs.Lemmas.Paths.Puts.{cases_path, no_end, entry-put_same, entry-put_other}
use Rattle.x86_64_model.proofs.Lemmas.Caches.Calls.{below_window, page_window}
use Rattle.x86_64_model.proofs.Lemmas.Caches.Items.{item_stays, item_written}
use Rattle.x86_64_model.proofs.Lemmas.Caches.Kept.{SameTarget}
use Rattle.x86_64_model.proofs.Lemmas.Caches.Safe.{IsSafe, Safe}
use Rattle.x86_64_model.proofs.Lemmas.Caches.Windowed.{Alters, HasWindow, Becomes, AsBefore, Made, Marked, Reflagged, Remapped, seen_alters, seen_below, seen_empty}

-- ---- what two words tell

implied : (a b : Bool) → implies a b ≡ true → a ≡ true → b ≡ true
implied true b h e = h
implied false b h e = cc

not_implied : (a b : Bool) → implies a b ≡ true → b ≡ false → a ≡ false
not_implied true b h e = absurd (let t : true ≡ false = sym h ∙ e in cc)
not_implied false b h e = refl

-- words of which nothing may be lost
pub told_nothing : (e f : ℕ) → loses_between e f ≡ false → LosesNothing e f
unfolding has
told_nothing e f n =
    let p10 = and_parts _ _ (not-false _ n) in
    let p9 = and_parts _ _ p10.0 in
    let p8 = and_parts _ _ p9.0 in
    let p7 = and_parts _ _ p8.0 in
    let p6 = and_parts _ _ p7.0 in
    let p5 = and_parts _ _ p6.0 in
    let p4 = and_parts _ _ p5.0 in
    let p3 = and_parts _ _ p4.0 in
    let p2 = and_parts _ _ p3.0 in record {
      is_used = used_present f p2.0;
      is_present = λ h. p2.0;
      same_huge = ap (λ x. x == 0x80) (eqb-true _ _ p3.1);
      same_address = eqb-true _ _ p2.1;
      same_kind = eqb-true _ _ p4.1;
      accessed = implied _ _ p5.1;
      dirty = implied _ _ p6.1;
      write = implied _ _ p7.1;
      user = implied _ _ p8.1;
      execute = not_implied _ _ p9.1;
    }

-- words that agree in whether they have HUGE_PAGE have equal bits there
same_bit : (e f : ℕ) → huge f ≡ huge e → bit_and f 0x80 ≡ bit_and e 0x80
unfolding has
same_bit e f same =
    let of_e : bit_and e 0x80 ≡ bit_at e 7 * 0x80 = and_pow e 7 in
    let of_f : bit_and f 0x80 ≡ bit_at f 7 * 0x80 = and_pow f 7 in
    grind (arith, same, of_e, of_f)

by_implication : (a b : Bool) → (a ≡ true → b ≡ true) → implies a b ≡ true
by_implication true b h = h refl
by_implication false b h = refl

by_contraposition : (a b : Bool) → (b ≡ false → a ≡ false) → implies a b ≡ true
by_contraposition a true h = by a
  where
    by : (a : Bool) → implies a true ≡ true
    by true = refl
    by false = refl
by_contraposition a false h = ap (λ a. implies a false) (h refl)

-- a present word of which nothing is lost, and that does not become a user's
told_kept : (e f : ℕ) → present e ≡ true → LosesNothing e f → (user f ≡ true → user e ≡ true) → loses_between e f ≡ false
unfolding has
told_kept e f here kept users = ap not (
    and_from _ _ (and_from _ _ (and_from _ _ (and_from _ _ (and_from _ _ (and_from _ _ (and_from _ _ (and_from _ _ (and_from _ _
    (kept.is_present here) (eq-eqb _ _ kept.same_address)) (eq-eqb _ _ (same_bit e f kept.same_huge))) (eq-eqb _ _ kept.same_kind))
    (by_implication _ _ kept.accessed)) (by_implication _ _ kept.dirty)) (by_implication _ _ kept.write)) (by_implication _ _ kept.user))
    (by_contraposition _ _ kept.execute)) (by_implication _ _ users))

pub words_tell_losses : WordsTellLosses
words_tell_losses e f here = (
  λ n. (told_nothing e f n, implied _ _ (and_parts _ _ (not-false _ n)).1),
  λ kept. told_kept e f here kept.0 kept.1,
)

-- ---- an exchange

no_table : (L : ℕ) (q : List ℕ) (e : ℕ) → table_of L q e ≡ None → (names_table e && nat_lt (length q) L) ≡ false
unfolding table_of
no_table L q e none = by _ none
  where
    by : (b : Bool) → cond b (Some (address e)) None ≡ None → b ≡ false
    by true n = absurd (some_not_none _ n)
    by false n = refl

-- two words that name one table
same_target : {L : ℕ} {q : List ℕ} {e w : ℕ} → address e ≢ 0 → NameOneTable L q e w → SameTarget e w
same_target {L} {q} {e} {w} nonzero one = record {
  was_used = used_table e one.is_table;
  is_used = used_table w (still_named e w nonzero one.same_address one.not_huge);
  same_huge = one.not_huge ∙ sym (plain_table e one.is_table);
  same_address = one.same_address;
}

module _ (m : Machine) (root : ℕ) (serves : ℕ → Bool) (s : System) (safe : IsSafe m root serves s) (q : List ℕ) (w : ℕ) (U : Words) (may : MayExchange m root s q w U) where
  abbrev N : PathMap
  N = put s.paths q w

  abbrev new : List Due
  new = due_between m.levels m.window q (entry s.paths q) w

  abbrev due : List Due
  due = new ++ s.due

  nonempty : q ≢ []
  nonempty e = no_end may.may_put.in_table.above may.may_put.in_table.index (sym e ∙ may.may_put.in_table.is)

  before : IsSound m.levels m.window root serves (record { paths = s.paths; pool = s.state.pool })
  before = subst (λ (M : PathMap). IsSound m.levels m.window root serves (record { paths = M; pool = s.state.pool })) (sym may.may_put.done) safe.sound

  -- a table is never in frame 0
  nonzero : (q : List ℕ) → q ≢ [] → names_table (entry s.paths q) ≡ true → length q < m.levels → address (entry s.paths q) ≢ 0
  nonzero [] n t l z = n refl
  nonzero (i ∷ q) n t l z = before.hierarchy.not_zero i q (named m.levels (i ∷ q) (entry s.paths (i ∷ q)) t l ∙ ap Some z)

  same_table : table_of m.levels q w ≡ table_of m.levels q (entry s.paths q)
  same_table = (replaces m.levels q (entry s.paths q) w (nonzero q nonempty) may.may_put.replaces).same_table

  -- no table changes
  tables_same : (r : List ℕ) → table_at m.levels root N r ≡ table_at m.levels root s.paths r
  tables_same r = ⊎_elim
      (λ e. ap (table_at m.levels root N) e ∙ table_at-put_same m.levels root s.paths q w nonempty ∙ same_table
      ∙ sym (table_at_is m.levels root s.paths q nonempty) ∙ ap (table_at m.levels root s.paths) (sym e))
      (λ n. table_at-put_other m.levels root s.paths q w r n)
      (cases_path r q)

  hierarchy : IsHierarchy m.levels root N
  hierarchy = hierarchy_of_valid m.levels (outside_window m.window root U) root N may.holds.valid

  -- ---- what is due

  in_window : (d : Due) → WindowDue ≢ d → (b : Bool) (v : Option Window) → In (cond b [] (if_window v)) d → ⊥
  in_window d n true v i = i
  in_window d n false None i = i
  in_window d n false (Some v) (inl e) = n e
  in_window d n false (Some v) (inr i) = i

  in_new : (d : Due) → ((f : ℕ) → PageDue q f ≢ d) → WindowDue ≢ d → BelowDue q ≢ d → (f : ℕ) (b c : Bool)
      → In (cond b (cond c (below_due m.window q) (page_due m.levels m.window q f)) []) d → ⊥
  in_new d p n l f true true (inl e) = l e
  in_new d p n l f true true (inr i) = in_window d n false m.window i
  in_new d p n l f true false (inl e) = p f e
  in_new d p n l f true false (inr i) = in_window d n (is_small m.levels q) m.window i
  in_new d p n l f false c i = i

  -- no tables come to be due
  older_tables : (f : ℕ) → IsUnflushed due f → IsUnflushed s.due f
  older_tables f (freed, i, j) = (freed, ⊎_elim (λ i. absurd (in_new (TablesDue freed) (λ f e. cc) (λ e. cc) (λ e. cc) _ _ _ i)) (λ i. i) (in_append new s.due (TablesDue freed) i), j)

  -- nothing comes to be due by a word that isn't present
  older : present (entry s.paths q) ≡ false → (d : Due) → In due d → In s.due d
  older n d i = subst (λ new. In (new ++ s.due) d) (ap (λ h. cond (h && loses_between (entry s.paths q) w)
      (cond (names_table (entry s.paths q) && nat_lt (length q) m.levels) (below_due m.window q) (page_due m.levels m.window q (address (entry s.paths q)))) []) n) i

  is_due : present (entry s.paths q) ≡ true → loses_between (entry s.paths q) w ≡ true → (c : Bool) → (names_table (entry s.paths q) && nat_lt (length q) m.levels) ≡ c
      → cond c (below_due m.window q) (page_due m.levels m.window q (address (entry s.paths q))) ≡ new
  is_due h l c is = sym (ap (λ b. cond b (cond (names_table (entry s.paths q) && nat_lt (length q) m.levels) (below_due m.window q) (page_due m.levels m.window q (address (entry s.paths q)))) []) (and_from _ _ h l)
      ∙ ap (λ c. cond c (below_due m.window q) (page_due m.levels m.window q (address (entry s.paths q)))) is)

  -- ---- how the entry changes

  told : (e : ℕ) → used e ≡ true → LosesNothing e w → Becomes m.levels m.window due s.state.pool q e w
  told e u k = Marked
      (λ h. record {
        is_present = k.is_present h;
        same_huge = k.same_huge;
        same_address = k.same_address;
        grants = λ r g. record { write = λ x. k.write (g.write x); user = λ x. k.user (g.user x); execute = λ x. k.execute (g.execute x) };
      })
      (record { was_used = u; is_used = k.is_used; same_huge = k.same_huge; same_address = k.same_address })

  -- what is lost is due
  lost : present (entry s.paths q) ≡ true → loses_between (entry s.paths q) w ≡ true → Becomes m.levels m.window due s.state.pool q (entry s.paths q) w
  lost h l = ⊎_elim page table may.may_put.replaces
    where
      page : NamesNoTable m.levels q (entry s.paths q) × NamesNoTable m.levels q w → Becomes m.levels m.window due s.state.pool q (entry s.paths q) w
      page none = let n = none_named m.levels q (entry s.paths q) none.0 in let is = is_due h l false (no_table m.levels q (entry s.paths q) n) in Remapped n
          (subst (λ d. In (d ++ s.due) (PageDue q (address (entry s.paths q)))) is (inl refl))
          (λ short. subst (λ d. HasWindow m.window (d ++ s.due)) is (λ v has. inr (page_window m.window m.levels q s.due short v has)))

      table : NameOneTable m.levels q (entry s.paths q) w → Becomes m.levels m.window due s.state.pool q (entry s.paths q) w
      table one = let is = is_due h l true (and_from _ _ one.is_table (lt-ltb _ _ one.above)) in Reflagged (same_target (nonzero q nonempty one.is_table one.above) one) q
          (subst (λ d. In (d ++ s.due) (BelowDue q)) is (inl refl)) (begins_itself q)
          (subst (λ d. HasWindow m.window (d ++ s.due)) is (below_window m.window q s.due))

  -- what isn't present is lost by no cache
  absent : used (entry s.paths q) ≡ true → present (entry s.paths q) ≡ false → Alters m.levels m.window due s.state.pool q (entry s.paths q) w
  absent u n = ⊎_elim
      (λ none. inr (record {
        is_absent = n;
        is_leaf = none_named m.levels q (entry s.paths q) none.0;
        is_outside = may.may_put.in_table.outside;
        settled = λ r i. may.may_put.settled none.0 u n r (older n (BelowDue r) i);
      }))
      (λ one. inl (Marked (λ h. absurd (let t : true ≡ false = sym h ∙ n in cc)) (same_target (nonzero q nonempty one.is_table one.above) one)))
      may.may_put.replaces

  here : Alters m.levels m.window due s.state.pool q (entry s.paths q) w
  here = ⊎_elim
      (λ h. ⊎_elim
      (λ l. inl (lost h l))
      (λ l. inl (told _ (used_present _ h) (told_nothing _ _ l)))
      (cases_Bool (loses_between (entry s.paths q) w)))
      (λ n. ⊎_elim (λ u. absent u n) (λ u. inl (Made u)) (cases_Bool (used (entry s.paths q))))
      (cases_Bool (present (entry s.paths q)))

  alters : (r : List ℕ) → Alters m.levels m.window due s.state.pool r (entry s.paths r) (entry N r)
  alters r = ⊎_elim
      (λ e. subst (λ r. Alters m.levels m.window due s.state.pool r (entry s.paths r) (entry N r)) (sym e)
      (subst (Alters m.levels m.window due s.state.pool q (entry s.paths q)) (sym (entry-put_same s.paths q w)) here))
      (λ n. inl (AsBefore (entry-put_other s.paths q w r n)))
      (cases_path r q)

  -- ---- items

  pub exchange_keeps : (c : Cached) → Safe m root s c → Safe m root (after_event m s (Exchanges q w U)) c
  exchange_keeps c x = item_written m.levels root m.window (entry_at m.window s.paths) (entry_at m.window N) due s.state.pool s.words U
      (seen_below m.levels root s.paths N due s.state.pool U m.window may.holds.self hierarchy.tree)
      (seen_alters m.levels root s.paths N due s.state.pool U m.window alters)
      (seen_empty m.levels root s.paths N due s.state.pool U m.window (λ p f t n. absurd (some_not_none f (sym t ∙ sym (tables_same p) ∙ n))))
      (λ f d. may.keeps f (older_tables f d)) c
      (item_stays m.levels root m.window s.due due s.state.pool s.state.pool s.words (entry_at m.window s.paths) c (record {
        pages = λ v e f d. in_right new s.due _ d;
        tables = λ t e d. ((d.0, in_right new s.due _ d.1, d.2), λ i. i);
        loose = λ d i l. in_right new s.due d i;
      }) x)

  -- ---- the state

  aside : (v : Option Window) → begins_with v q ≡ false → Aside v s.paths → Aside v N
  aside None o a = tt
  aside (Some v) o a = entry-put_other s.paths q w (v.index ∷ []) (λ e. let t : true ≡ false = sym (eq-eqb v.index v.index refl) ∙ ap (begins_with (Some v)) e ∙ o in cc) ∙ a

  pub exchange_sound : IsSound m.levels m.window root serves (record { paths = put s.state.paths q w; pool = s.state.pool })
  exchange_sound = subst (λ (M : PathMap). IsSound m.levels m.window root serves (record { paths = put M q w; pool = s.state.pool })) may.may_put.done (record {
    hierarchy = hierarchy;
    aside = aside m.window may.may_put.in_table.outside before.aside;
    one_each = kept.one_each before.one_each;
    frames = before.frames;
    served = kept_served m.levels m.window root serves (record { paths = s.paths; pool = s.state.pool }) before N s.state.pool kept;
  })
    where
      kept : Conserves m.levels root s.paths s.state.pool N s.state.pool
      kept = conserves_marked m.levels root s.paths N s.state.pool tables_same

  pub exchange_safe : IsSafe m root serves (after_event m s (Exchanges q w U))
  exchange_safe = record {
    sound = exchange_sound;
    valid = may.holds;
    moves = λ r. AsBefore (sym (ap (λ M. entry (put M q w) r) may.may_put.done));
    items = λ c i. exchange_keeps c (safe.items c i);
  }
