-- Which kinds of mappings are seen, and the tables whose mappings are all of such kinds.
use Rattle.std.specs.Prelude.{◌≡◌, ℕ, ◌+◌, ◌-◌, ◌==◌, ◌&&◌, ◌||◌, Bool, true, cond, List, [], ◌∷◌, map}
use Rattle.std.specs.Bool.{beq}
use Rattle.std.specs.HashSet.{contains}
use Rattle.std.specs.List.{AllByRecursion}
use Rattle.x86_64_model.specs.Mappings.{Mapping, Rights}
use Rattle.x86_64_model.specs.Position.{position_count}
use Rattle.x86_64_mappings.specs.Selections.{is_from, is_to}
use Rattle.x86_64_mappings.specs.declared.selection.Selection.{Selection}
use Rattle.x86_64_mappings.specs.declared.summaries.distinct.Distinct.{Distinct}
use Rattle.x86_64_mappings.specs.declared.summaries.distinct.Kind.{Kind}
use Rattle.x86_64_mappings.specs.declared.summaries.distinct.KindRights.{KindRights}
use Rattle.x86_64_mappings.specs.declared.summaries.distinct.Memo.{Memo}
use Rattle.x86_64_mappings.specs.declared.summaries.distinct.TableKind.{TableKind}
use Rattle.x86_64_mappings.specs.declared.summaries.reached_table.ReachedTable.{ReachedTable}

-- ---- kinds

-- The rights in the form that kinds of mappings have, which code can hash.
abbrev pub kind_rights : Rights → KindRights
kind_rights r = record { write = r.write; user = r.user; execute = r.execute }

-- The kind of a mapping: its frame, its size and its rights, which all mappings of the kind have in common.
abbrev pub kind_of : Mapping → Kind
kind_of m = record { frame = m.frame; size = m.size; rights = kind_rights m.rights }

-- The kind of a table that a walk reaches: its frame, its level, and the rights that the words above it grant. They determine the
-- kinds of the table's mappings.
abbrev pub table_kind : ReachedTable → TableKind
table_kind t = record { frame = t.frame; level = t.level; above = kind_rights t.above }

-- Whether rights are equal, one by one.
abbrev pub rights_eq : (r s : KindRights) → Bool
rights_eq r s = beq r.write s.write && (beq r.user s.user && beq r.execute s.execute)

-- Whether two kinds of mappings are equal: they have the same frame, size and rights.
abbrev pub kind_eq : (k l : Kind) → Bool
kind_eq k l = (k.frame == l.frame) && ((k.size == l.size) && rights_eq k.rights l.rights)

-- Whether two kinds of tables are equal: they have the same frame and level, and the words above them grant the same rights.
abbrev pub table_eq : (t u : TableKind) → Bool
table_eq t u = (t.frame == u.frame) && ((t.level == u.level) && rights_eq t.above u.above)

-- ---- kinds that are seen

-- Whether a kind is seen after some mappings: it was seen before them, or it is the kind of one of them.
abbrev pub seen_after : (seen : Kind → Bool) → List Mapping → Kind → Bool
seen_after seen [] = seen
seen_after seen (m ∷ ms) = seen_after (λ k. kind_eq (kind_of m) k || seen k) ms

-- The mappings of a list, in order, whose kinds were seen neither before the list nor earlier in it.
abbrev pub new_among : (seen : Kind → Bool) → List Mapping → List Mapping
new_among seen [] = []
new_among seen (m ∷ ms) =
    let rest = new_among (λ k. kind_eq (kind_of m) k || seen k) ms in cond (seen (kind_of m)) rest (m ∷ rest)

-- The kinds of all these mappings are seen.
abbrev pub AreSeen : (seen : Kind → Bool) → List Mapping → Type 0
AreSeen seen ms = AllByRecursion (λ k. seen k ≡ true) (map kind_of ms)

-- ---- tables that are known

-- Whether all positions in the span of a table that a walk reaches lie within the addresses of a selection, with L levels of
-- tables.
abbrev pub covers_table : (L : ℕ) → Selection → ReachedTable → Bool
covers_table L s t = is_from L s.from t.start && is_to L s.to (t.start + (position_count t.level - 1))

-- Tables of the same kind have mappings of the same kinds, in the same order, if a selection has all positions in the spans of
-- both. `visited` says which mappings of a table are visited.
abbrev pub AreByKind : (L : ℕ) → Selection → (visited : ReachedTable → List Mapping) → Type 0
AreByKind L s visited = (t u : ReachedTable) → table_kind t ≡ table_kind u → covers_table L s t ≡ true → covers_table L s u ≡ true
    → map kind_of (visited t) ≡ map kind_of (visited u)

-- The kinds of all visited mappings of a table are seen, if the table's kind is known and the selection has all positions of its
-- span.
abbrev pub AreKnown : {V : Type 0} → (L : ℕ) → (visited : ReachedTable → List Mapping) → Distinct V Memo → Type 0
AreKnown L visited d = (t : ReachedTable) → contains table_eq d.memo.known (table_kind t) ≡ true → covers_table L d.selection t ≡ true
    → AreSeen (contains kind_eq d.memo.seen) (visited t)

-- ---- visits

-- A visitor that passes on the first mapping of each kind, after it took these mappings, in order: it passed on those of kinds that
-- weren't seen, the kinds of all are seen, its selection is as before, and what it knows of tables is true.
pub record IsAfter {V : Type 0} (visits : V → V → List Mapping → Type 0) (L : ℕ) (visited : ReachedTable → List Mapping) (old new : Distinct V Memo) (ms : List Mapping) : Type 0 where
  pub visitor : new.visitor.ghost_name ≡ old.visitor.ghost_name
  pub selection : new.selection ≡ old.selection
  pub seen : contains kind_eq new.memo.seen ≡ seen_after (contains kind_eq old.memo.seen) ms
  pub passed : visits old.visitor.now new.visitor.now (new_among (contains kind_eq old.memo.seen) ms)
  pub known : AreKnown L visited new

-- A visitor that passes on the first mapping of each kind takes these mappings, in order, if what it knows of tables is true
-- before, and tables of the same kind have mappings of the same kinds. What it knows of tables is true after it too.
abbrev pub TakesDistinct : {V : Type 0} → (visits : V → V → List Mapping → Type 0) → (L : ℕ) → (visited : ReachedTable → List Mapping) → (old new : Distinct V Memo) → List Mapping → Type 0
TakesDistinct visits L visited old new ms = AreByKind L old.selection visited → AreKnown L visited old → IsAfter visits L visited old new ms
