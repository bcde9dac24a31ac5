-- What a path map is like that words hold, said of the map alone.
use Rattle.std.proofs.Common.{◌≡◌, ◌≢◌, ◌<◌, ◌≤◌, ℕ, ◌&&◌, true, false, not, List, [], ◌∷◌, ◌++◌, length, map, Some, None, Option, nat_lt, refl, sym, ap, ◌∙◌, ltb-true, ⊎_elim, IsSome}
use Rattle.std.proofs.lemmas.Bool.{cases_lt, and_parts, not-true}
use Rattle.std.proofs.lemmas.Option.{cond_some}
use Rattle.x86_64_model.specs.Entry.{used, huge, address, names_table}
use Rattle.x86_64_model.specs.Memory.{Words}
use Rattle.x86_64_model.specs.PathMap.{PathMap, entry, HasUsedAlone, table_of, table_at}
use Rattle.x86_64_model.specs.Path.{level_of, parents, AllBelow}
use Rattle.x86_64_model.specs.Validity.{entry_in, Holds, IsValid}
use Rattle.x86_64_model.proofs.Lemmas.Entries.Bits.{unused_zero}
use Rattle.x86_64_model.proofs.Lemmas.Paths.Begins.{all_below_more}
use Rattle.x86_64_model.proofs.Lemmas.Paths.Puts.{by_last}
use Rattle.x86_64_model.proofs.Lemmas.Hierarchies.Held.{word_past}
use Rattle.x86_64_model.proofs.Lemmas.Hierarchies.Changes.{unused_no_table, zero_not_used, none_below, descends_from}
use Rattle.x86_64_model.proofs.Lemmas.Maps.Down.{Descends}

-- nothing is used below a path that leads to no table, or at an index that no table has
pub record IsTree (L root : ℕ) (M : PathMap) : Type 0 where
  pub nothing_above : entry M [] ≡ 0
  pub used_alone : HasUsedAlone M
  pub below : (q : List ℕ) (i : ℕ) → table_at L root M q ≡ None → entry M (q ++ i ∷ []) ≡ 0
  pub small : (q : List ℕ) (i : ℕ) → 512 ≤ i → entry M (q ++ i ∷ []) ≡ 0

pub record IsHierarchy (L root : ℕ) (M : PathMap) : Type 0 where
  pub tree : IsTree L root M
  pub not_zero : (i : ℕ) (p : List ℕ) → table_at L root M (i ∷ p) ≡ Some 0 → ⊥
  pub none_huge : (q : List ℕ) → 3 < level_of L q → huge (entry M q) ≡ false

pub tree_of_holds : (L : ℕ) (T : Words) (root : ℕ) (M : PathMap) → Holds L T root M → IsTree L root M
tree_of_holds L T root M holds = record {
  nothing_above = holds.nothing_above;
  used_alone = holds.used_alone;
  below = λ q i h. holds.entries q i ∙ ap (λ t. entry_in T t i) h;
  small = λ q i l. holds.entries q i ∙ past (table_at L root M q) i l;
}
  where
    past : (t : Option ℕ) (i : ℕ) → 512 ≤ i → entry_in T t i ≡ 0
    past None i l = refl
    past (Some f) i l = word_past T f i l

pub hierarchy_of_valid : (L : ℕ) (T : Words) (root : ℕ) (M : PathMap) → IsValid L T root M → IsHierarchy L root M
hierarchy_of_valid L T root M valid = record { tree = tree_of_holds L T root M valid.holds; not_zero = valid.not_zero; none_huge = valid.none_huge }

-- ---- tables

pub table_at_is : (L root : ℕ) (M : PathMap) (q : List ℕ) → q ≢ [] → table_at L root M q ≡ table_of L q (entry M q)
table_at_is L root M [] n = absurd (n refl)
table_at_is L root M (i ∷ q) n = refl

pub record Names (L : ℕ) (q : List ℕ) (e f : ℕ) : Type 0 where
  pub is_table : names_table e ≡ true
  pub high : length q < L
  pub at : address e ≡ f

pub table_of_gives : (L : ℕ) (q : List ℕ) (e f : ℕ) → table_of L q e ≡ Some f → Names L q e f
unfolding table_of
table_of_gives L q e f h =
    let is = cond_some (names_table e && nat_lt (length q) L) (address e) f h in
    let parts = and_parts (names_table e) (nat_lt (length q) L) is.0 in
    record { is_table = parts.0; high = ltb-true (length q) L parts.1; at = is.1 }

pub none_or_some : (o : Option ℕ) → o ≢ None → (f : ℕ) × (o ≡ Some f)
none_or_some None n = absurd (n refl)
none_or_some (Some f) n = (f, refl)

pub some_is : {X : Type 0} (o : Option X) → IsSome o → (x : X) × (o ≡ Some x)
some_is None h = cc
some_is (Some x) h = (x, refl)

pub some_not_none : (f : ℕ) → Some f ≢ None
some_not_none f e = cc

pub used_table : (e : ℕ) → names_table e ≡ true → used e ≡ true
used_table e h = (and_parts (used e) (not (huge e)) h).0

pub plain_table : (e : ℕ) → names_table e ≡ true → huge e ≡ false
plain_table e h = not-true (huge e) (and_parts (used e) (not (huge e)) h).1

pub no_table_unused : (L root : ℕ) (M : PathMap) (i : ℕ) (p : List ℕ) → used (entry M (i ∷ p)) ≡ false → table_at L root M (i ∷ p) ≡ None
no_table_unused L root M i p u = ap (table_of L (i ∷ p)) (unused_zero _ u) ∙ unused_no_table L (i ∷ p)

pub unused_leads_nowhere : (L root : ℕ) (M : PathMap) (q : List ℕ) → q ≢ [] → used (entry M q) ≡ false → table_at L root M q ≡ None
unused_leads_nowhere L root M [] n u = absurd (n refl)
unused_leads_nowhere L root M (i ∷ p) n u = no_table_unused L root M i p u

module _ (L root : ℕ) (M : PathMap) (tree : IsTree L root M) where
  pub tree_below : (p : List ℕ) (k : ℕ) (s : List ℕ) → table_at L root M p ≡ None → entry M (p ++ k ∷ s) ≡ 0
  tree_below = none_below L root M tree.below

  -- where an entry is used, its table is there
  pub used_last : (q : List ℕ) (i : ℕ) → used (entry M (q ++ i ∷ [])) ≡ true → (i < 512) × (table_at L root M q ≢ None)
  used_last q i u = (
    ⊎_elim (λ l. l) (λ l. absurd (clash (tree.small q i l))) (cases_lt i 512),
    λ n. clash (tree.below q i n),
  )
    where
      clash : entry M (q ++ i ∷ []) ≡ 0 → ⊥
      clash z = let t : false ≡ true = sym (ap used z ∙ zero_not_used) ∙ u in cc

  pub used_before : (q : List ℕ) (i : ℕ) → used (entry M (q ++ i ∷ [])) ≡ true → (j : ℕ) (p : List ℕ) → q ≡ j ∷ p → used (entry M q) ≡ true
  used_before q i u j p e = elim (used (entry M q)) as (λ b. used (entry M q) ≡ b → b ≡ true) [
    | true ↦ λ _. refl
    | false ↦ λ n. absurd ((used_last q i u).1 (ap (table_at L root M) e ∙ no_table_unused L root M j p (ap (λ q. used (entry M q)) (sym e) ∙ n)))
  ] refl

  pub indices_below : (q : List ℕ) → used (entry M q) ≡ true → AllBelow q
  indices_below = by_last (λ q. used (entry M q) ≡ true → AllBelow q) (λ u. tt) (λ q i ih u. all_below_more q i (front q i ih u) (used_last q i u).0)
    where
      front : (q : List ℕ) (i : ℕ) → (used (entry M q) ≡ true → AllBelow q) → used (entry M (q ++ i ∷ [])) ≡ true → AllBelow q
      front [] i ih u = tt
      front (j ∷ q) i ih u = ih (used_before (j ∷ q) i u j q refl)

  -- the parents of a page are as `Descends` says
  pub tree_descends : (pre q : List ℕ) → Descends M (map (λ r. pre ++ r) (parents q)) (pre ++ q)
  tree_descends = descends_from L root M tree.below
