-- Kinds of mappings that are seen, and the first mapping of each kind.
use Rattle.std.proofs.Common.{◌≡◌, ◌∙◌, ◌+◌, ◌-◌, ◌*◌, ◌==◌, ◌&&◌, ◌||◌, ℕ, Bool, true, false, not, cond, List, [], ◌∷◌, filter, map, refl, sym, ap, subst, arith}
use Rattle.std.specs.Bool.{beq}
use Rattle.std.specs.HashSet.{contains}
use Rattle.std.specs.List.{AllByRecursion}
use Rattle.std.proofs.Math.Bool.{and_assoc, or-true}
use Rattle.std.proofs.lemmas.Bool.{and_from, and_parts, eq-eqb, eqb-true}
use Rattle.std.proofs.lemmas.Nat.{pow_pos}
use Rattle.x86_64_model.specs.Mappings.{Mapping, Rights}
use Rattle.x86_64_model.specs.Position.{position_count}
use Rattle.x86_64_model.proofs.Lemmas.Lists.All.{every_in}
use Rattle.x86_64_model.proofs.Lemmas.Mappings.Chains.{in_chain}
use Rattle.x86_64_model.proofs.Lemmas.Mappings.Regions.{same_rights_is}
use Rattle.x86_64_tables.specs.Rights.{both}
use Rattle.x86_64_mappings.specs.Kinds.{distinct, is_like}
use Rattle.x86_64_mappings.specs.Selections.{includes, is_from, is_to, is_mapping_selected}
use Rattle.x86_64_mappings.specs.Wanted.{Asked, asked_mappings}
use Rattle.x86_64_mappings.specs.declared.selection.Selection.{Selection}
use Rattle.x86_64_mappings.specs.declared.summaries.distinct.Distinct.{Distinct}
use Rattle.x86_64_mappings.specs.declared.summaries.distinct.Kind.{Kind}
use Rattle.x86_64_mappings.specs.declared.summaries.distinct.KindRights.{KindRights}
use Rattle.x86_64_mappings.specs.declared.summaries.distinct.Memo.{Memo}
use Rattle.x86_64_mappings.specs.declared.summaries.distinct.TableKind.{TableKind}
use Rattle.x86_64_mappings.specs.declared.summaries.reached_table.ReachedTable.{ReachedTable}
use Rattle.x86_64_mappings.specs.private.Distinct.{kind_eq, kind_of, kind_rights, rights_eq, table_eq, table_kind, covers_table, seen_after, new_among, AreSeen, AreByKind, AreKnown, TakesDistinct}
use Rattle.x86_64_mappings.specs.private.Placed.{placed}
use Rattle.x86_64_mappings.specs.private.Targets.{selected_in}
use Rattle.x86_64_mappings.proofs.Unselected.{earlier, later}
use Rattle.x86_64_mappings.proofs.Whole.{asked_chain}

-- ---- equal kinds

bool_itself : (a : Bool) → beq a a ≡ true
bool_itself true = refl
bool_itself false = refl

abbrev rights_in : KindRights → Rights
rights_in r = record { write = r.write; user = r.user; execute = r.execute }

same_kind_rights : (r s : KindRights) → rights_eq r s ≡ true → r ≡ s
same_kind_rights r s h =
    ap kind_rights (same_rights_is (rights_in r) (rights_in s) (and_assoc (beq r.write s.write) (beq r.user s.user) (beq r.execute s.execute) ∙ h))

same_kind : (k l : Kind) → kind_eq k l ≡ true → k ≡ l
same_kind k l h =
    let all = and_parts (k.frame == l.frame) ((k.size == l.size) && rights_eq k.rights l.rights) h in
    let back = and_parts (k.size == l.size) (rights_eq k.rights l.rights) all.1 in
    let frame = eqb-true k.frame l.frame all.0 in
    let size = eqb-true k.size l.size back.0 in
    let rights = same_kind_rights k.rights l.rights back.1 in
    λ i. record { frame = frame i; size = size i; rights = rights i }

same_table : (t u : TableKind) → table_eq t u ≡ true → t ≡ u
same_table t u h =
    let all = and_parts (t.frame == u.frame) ((t.level == u.level) && rights_eq t.above u.above) h in
    let back = and_parts (t.level == u.level) (rights_eq t.above u.above) all.1 in
    let frame = eqb-true t.frame u.frame all.0 in
    let level = eqb-true t.level u.level back.0 in
    let above = same_kind_rights t.above u.above back.1 in
    λ i. record { frame = frame i; level = level i; above = above i }

kind_itself : (k : Kind) → kind_eq k k ≡ true
kind_itself k = and_from _ _ (eq-eqb k.frame k.frame refl) (and_from _ _ (eq-eqb k.size k.size refl)
    (and_from _ _ (bool_itself k.rights.write) (and_from _ _ (bool_itself k.rights.user) (bool_itself k.rights.execute))))

-- mappings are of the same kind if their kinds are equal
like : (m n : Mapping) → kind_eq (kind_of m) (kind_of n) ≡ is_like m n
like m n =
    let r = m.rights in
    let s = n.rights in
    sym (and_assoc (m.frame == n.frame) (m.size == n.size) (rights_eq (kind_rights r) (kind_rights s)))
    ∙ ap (λ b. (m.frame == n.frame) && (m.size == n.size) && b) (sym (and_assoc (beq r.write s.write) (beq r.user s.user) (beq r.execute s.execute)))

-- ---- kinds that are seen

or_later : (b c : Bool) → c ≡ true → (b || c) ≡ true
or_later b c h = ap (λ c. b || c) h ∙ or-true b

or_cond : (b c : Bool) → cond b true c ≡ (b || c)
or_cond true c = refl
or_cond false c = refl

abbrev with_kind : (seen : Kind → Bool) → Mapping → Kind → Bool
with_kind seen m k = kind_eq (kind_of m) k || seen k

still_seen : (seen : Kind → Bool) (ms : List Mapping) (k : Kind) → seen k ≡ true → seen_after seen ms k ≡ true
still_seen seen [] k h = h
still_seen seen (m ∷ ms) k h = still_seen (with_kind seen m) ms k (or_later (kind_eq (kind_of m) k) (seen k) h)

-- the kinds of mappings are seen after these
all_seen : (seen : Kind → Bool) (ms : List Mapping) → AreSeen (seen_after seen ms) ms
all_seen seen [] = tt
all_seen seen (m ∷ ms) = (
  still_seen (with_kind seen m) ms (kind_of m) (ap (λ b. b || seen (kind_of m)) (kind_itself (kind_of m))),
  all_seen (with_kind seen m) ms,
)

-- a kind that was seen is seen again
seen_again : (seen : Kind → Bool) (m : Mapping) → seen (kind_of m) ≡ true → with_kind seen m ≡ seen
seen_again seen m h = λ i k. by k (kind_eq (kind_of m) k) refl i
  where
    by : (k : Kind) (b : Bool) → kind_eq (kind_of m) k ≡ b → (b || seen k) ≡ seen k
    by k true is = sym (ap seen (sym (same_kind (kind_of m) k is)) ∙ h)
    by k false is = refl

-- mappings of kinds that are seen
none_new : (seen : Kind → Bool) (ms : List Mapping) → AreSeen seen ms → new_among seen ms ≡ []
none_new seen [] h = refl
none_new seen (m ∷ ms) h = ap (λ s. cond (seen (kind_of m)) (new_among s ms) (m ∷ new_among s ms)) (seen_again seen m h.0)
    ∙ ap (λ b. cond b (new_among seen ms) (m ∷ new_among seen ms)) h.0 ∙ none_new seen ms h.1

none_more : (seen : Kind → Bool) (ms : List Mapping) → AreSeen seen ms → seen_after seen ms ≡ seen
none_more seen [] h = refl
none_more seen (m ∷ ms) h = ap (λ s. seen_after s ms) (seen_again seen m h.0) ∙ none_more seen ms h.1

more_seen : (seen more : Kind → Bool) → ((k : Kind) → seen k ≡ true → more k ≡ true) → (ks : List Kind) → AllByRecursion (λ k. seen k ≡ true) ks → AllByRecursion (λ k. more k ≡ true) ks
more_seen seen more f [] h = tt
more_seen seen more f (k ∷ ks) h = (f k h.0, more_seen seen more f ks h.1)

-- ---- the first mapping of each kind

turned : (b : Bool) (m : Mapping) (ms : List Mapping) → cond b ms (m ∷ ms) ≡ cond (not b) (m ∷ ms) ms
turned true m ms = refl
turned false m ms = refl

filter_twice : (p q : Mapping → Bool) (ms : List Mapping) → filter (λ m. not (p m || q m)) ms ≡ filter (λ m. not (q m)) (filter (λ m. not (p m)) ms)
filter_twice p q [] = refl
filter_twice p q (m ∷ ms) = by (p m) (filter_twice p q ms)
  where
    by : (b : Bool) → filter (λ m. not (p m || q m)) ms ≡ filter (λ m. not (q m)) (filter (λ m. not (p m)) ms)
        → cond (not (b || q m)) (m ∷ filter (λ m. not (p m || q m)) ms) (filter (λ m. not (p m || q m)) ms)
        ≡ filter (λ m. not (q m)) (cond (not b) (m ∷ filter (λ m. not (p m)) ms) (filter (λ m. not (p m)) ms))
    by true e = e
    by false e = ap (λ ms. cond (not (q m)) (m ∷ ms) ms) e

new_distinct : (seen : Kind → Bool) (ms : List Mapping) → new_among seen ms ≡ filter (λ m. not (seen (kind_of m))) (distinct ms)
new_distinct seen [] = refl
new_distinct seen (m ∷ ms) =
    ap (λ ns. cond (seen (kind_of m)) ns (m ∷ ns)) (new_distinct (with_kind seen m) ms ∙ filter_twice (λ n. kind_eq (kind_of m) (kind_of n)) (λ n. seen (kind_of n)) (distinct ms)
    ∙ (λ i. filter (λ n. not (seen (kind_of n))) (filter (λ n. not (like m n i)) (distinct ms))))
    ∙ turned (seen (kind_of m)) m (filter (λ n. not (seen (kind_of n))) (filter (λ n. not (is_like m n)) (distinct ms)))

filter_all : (ms : List Mapping) → filter (λ m. true) ms ≡ ms
filter_all [] = refl
filter_all (m ∷ ms) = ap (λ ns. m ∷ ns) (filter_all ms)

-- those of kinds that aren't seen, where none is seen at first
pub new_first : (ms : List Mapping) → new_among (λ k. false) ms ≡ distinct ms
new_first ms = new_distinct (λ k. false) ms ∙ filter_all (distinct ms)

-- ---- the mappings of a table by its kind

module _ (L : ℕ) (s : Selection) where
  -- if each mapping is selected that has the selected rights, where a table's span starts doesn't matter to the kinds
  kinds_anywhere : (start : ℕ) (above : Rights) (ms : List Mapping) → AllByRecursion (λ m. is_mapping_selected L s m ≡ includes m.rights s.rights) (map (placed start above) ms)
      → map kind_of (filter (is_mapping_selected L s) (map (placed start above) ms)) ≡ map kind_of (filter (λ m. includes m.rights s.rights) (map (placed 0 above) ms))
  kinds_anywhere start above [] h = refl
  kinds_anywhere start above (m ∷ ms) h =
      ap (λ b. map kind_of (cond b (placed start above m ∷ filter (is_mapping_selected L s) (map (placed start above) ms)) (filter (is_mapping_selected L s) (map (placed start above) ms)))) h.0
      ∙ by (includes (both above m.rights) s.rights) (kinds_anywhere start above ms h.1)
    where
      by : (b : Bool) → map kind_of (filter (is_mapping_selected L s) (map (placed start above) ms)) ≡ map kind_of (filter (λ m. includes m.rights s.rights) (map (placed 0 above) ms))
          → map kind_of (cond b (placed start above m ∷ filter (is_mapping_selected L s) (map (placed start above) ms)) (filter (is_mapping_selected L s) (map (placed start above) ms)))
          ≡ map kind_of (cond b (placed 0 above m ∷ filter (λ m. includes m.rights s.rights) (map (placed 0 above) ms)) (filter (λ m. includes m.rights s.rights) (map (placed 0 above) ms)))
      by true e = ap (λ ks. kind_of (placed start above m) ∷ ks) e
      by false e = e

  module _ (asked : Asked) where
    all_covered : (t : ReachedTable) → covers_table L s t ≡ true
        → AllByRecursion (λ m. is_mapping_selected L s m ≡ includes m.rights s.rights) (map (placed t.start t.above) (asked_mappings asked t.level t.frame))
    all_covered t h =
        let its = map (placed t.start t.above) (asked_mappings asked t.level t.frame) in
        let some = pow_pos (12 + 9 * t.level) in
        let ends = and_parts (is_from L s.from t.start) (is_to L s.to (t.start + (position_count t.level - 1))) h in
        every_in (λ m. is_mapping_selected L s m ≡ includes m.rights s.rights) its (λ m i.
        let on = in_chain t.start (t.start + position_count t.level) its (asked_chain asked t.level t.frame t.start t.above) m i in
        ap (λ b. b && includes m.rights s.rights) (and_from _ _
        (later L s.from t.start (m.start + m.size - 1) (omega (arith, on.0, on.1)) ends.0)
        (earlier L s.to (t.start + (position_count t.level - 1)) m.start (omega (arith, on.1, on.2, some)) ends.1)))

    abbrev kinds_in : TableKind → List Kind
    kinds_in k =
        map kind_of (filter (λ m. includes m.rights s.rights) (map (placed 0 (rights_in k.above)) (asked_mappings asked k.level k.frame)))

    pub by_kind : AreByKind L s (selected_in L s asked)
    by_kind t u same first second =
        kinds_anywhere t.start t.above (asked_mappings asked t.level t.frame) (all_covered t first)
        ∙ ap kinds_in same
        ∙ sym (kinds_anywhere u.start u.above (asked_mappings asked u.level u.frame) (all_covered u second))

-- ---- visits

module _ {V : Type 0} (visits : V → V → List Mapping → Type 0) (L : ℕ) (visited : ReachedTable → List Mapping) where
  -- a mapping
  pub takes_one : (old new : Distinct V Memo) (m : Mapping) → new.visitor.ghost_name ≡ old.visitor.ghost_name → new.selection ≡ old.selection → new.memo.known ≡ old.memo.known
      → ((k : Kind) → contains kind_eq new.memo.seen k ≡ cond (kind_eq (kind_of m) k) true (contains kind_eq old.memo.seen k))
      → visits old.visitor.now new.visitor.now (cond (contains kind_eq old.memo.seen (kind_of m)) [] (m ∷ []))
      → TakesDistinct visits L visited old new (m ∷ [])
  takes_one old new m name selection known updates passed = λ by_kind before.
      let seen : (k : Kind) → contains kind_eq new.memo.seen k ≡ with_kind (contains kind_eq old.memo.seen) m k = λ k. updates k ∙ or_cond (kind_eq (kind_of m) k) (contains kind_eq old.memo.seen k) in record {
        visitor = name;
        selection = selection;
        seen = λ i k. seen k i;
        passed = passed;
        known = λ t is covered. more_seen (contains kind_eq old.memo.seen) (contains kind_eq new.memo.seen)
            (λ k h. seen k ∙ or_later (kind_eq (kind_of m) k) (contains kind_eq old.memo.seen k) h) (map kind_of (visited t))
            (before t (ap (λ k. contains table_eq k (table_kind t)) (sym known) ∙ is) (ap (λ s. covers_table L s t) (sym selection) ∙ covered));
      }

  -- a table that is known
  pub takes_known : (none : (v : V) → visits v v []) (d : Distinct V Memo) (t : ReachedTable) → contains table_eq d.memo.known (table_kind t) ≡ true → covers_table L d.selection t ≡ true
      → TakesDistinct visits L visited d d (visited t)
  takes_known none d t is covered = λ by_kind known.
      let seen = known t is covered in record {
        visitor = refl;
        selection = refl;
        seen = sym (none_more (contains kind_eq d.memo.seen) (visited t) seen);
        passed = subst (visits d.visitor.now d.visitor.now) (sym (none_new (contains kind_eq d.memo.seen) (visited t) seen)) (none d.visitor.now);
        known = known;
      }

  -- a table that becomes known
  pub takes_remembered : (before old new : Distinct V Memo) (t : ReachedTable) → new.visitor ≡ old.visitor → new.selection ≡ old.selection → new.memo.seen ≡ old.memo.seen
      → ((k : TableKind) → contains table_eq new.memo.known k ≡ cond (table_eq (table_kind t) k) true (contains table_eq old.memo.known k))
      → covers_table L old.selection t ≡ true
      → TakesDistinct visits L visited before old (visited t) → TakesDistinct visits L visited before new (visited t)
  takes_remembered before old new t visitor selection same updates covered takes = λ by_kind known.
      let after = takes by_kind known in
      let its : AreSeen (contains kind_eq new.memo.seen) (visited t) =
      subst (λ seen. AreSeen seen (visited t)) (sym after.seen ∙ ap (contains kind_eq) (sym same)) (all_seen (contains kind_eq before.memo.seen) (visited t)) in record {
        visitor = ap (λ v. v.ghost_name) visitor ∙ after.visitor;
        selection = selection ∙ after.selection;
        seen = ap (contains kind_eq) same ∙ after.seen;
        passed = subst (λ v. visits before.visitor.now v.now (new_among (contains kind_eq before.memo.seen) (visited t))) (sym visitor) after.passed;
        known = λ u is also.
            let first : covers_table L before.selection t ≡ true = ap (λ s. covers_table L s t) (sym after.selection) ∙ covered in
            let second : covers_table L before.selection u ≡ true = ap (λ s. covers_table L s u) (sym (selection ∙ after.selection)) ∙ also in
            by (table_eq (table_kind t) (table_kind u)) u refl is also its (by_kind t u) first second after.known;
      }
    where
      by : (b : Bool) (u : ReachedTable) → table_eq (table_kind t) (table_kind u) ≡ b → contains table_eq new.memo.known (table_kind u) ≡ true → covers_table L new.selection u ≡ true
          → AreSeen (contains kind_eq new.memo.seen) (visited t)
          → (table_kind t ≡ table_kind u → covers_table L before.selection t ≡ true → covers_table L before.selection u ≡ true → map kind_of (visited t) ≡ map kind_of (visited u))
          → covers_table L before.selection t ≡ true → covers_table L before.selection u ≡ true → AreKnown L visited old
          → AreSeen (contains kind_eq new.memo.seen) (visited u)
      by true u eq is also its same_kinds first second known =
          subst (AllByRecursion (λ k. contains kind_eq new.memo.seen k ≡ true)) (same_kinds (same_table (table_kind t) (table_kind u) eq) first second) its
      by false u eq is also its same_kinds first second known =
          let there : contains table_eq old.memo.known (table_kind u) ≡ true = sym (updates (table_kind u) ∙ ap (λ b. cond b true (contains table_eq old.memo.known (table_kind u))) eq) ∙ is in
          subst (λ seen. AreSeen (contains kind_eq seen) (visited u)) (sym same) (known u there (ap (λ s. covers_table L s u) (sym selection) ∙ also))
