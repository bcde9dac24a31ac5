-- The changes that calls make to a valid hierarchy, each by `valid_after`.
use Rattle.std.proofs.Common.{◌≡◌, ◌≢◌, ◌<◌, ℕ, ◌&&◌, false, cond, List, [], ◌∷◌, ◌++◌, length, Some, None, Option, IsSome, nat_lt, refl, sym, ap, ◌∙◌, subst, append_assoc, true, not, ◌==◌, arith, eqb-true, le-ltb, subst₂, map}
use Rattle.std.specs.List.{AllByRecursion}
use Rattle.std.proofs.lemmas.Bool.{and_right, not_from_true, cond-false}
use Rattle.x86_64_model.specs.Entry.{has, used, huge, address, names_table}
use Rattle.x86_64_model.specs.Memory.{Words, word}
use Rattle.x86_64_model.specs.PathMap.{PathMap, table_of, table_at, entry}
use Rattle.x86_64_model.specs.Path.{parents, level_of}
use Rattle.x86_64_model.specs.Validity.{entry_in, Holds, IsValid}
use Rattle.x86_64_model.specs.Laws.Hierarchies.{MayBecome}
use Rattle.x86_64_model.proofs.Lemmas.Paths.Puts.{append_longer}
use Rattle.x86_64_model.proofs.Lemmas.Maps.Down.{Descends}
use Rattle.x86_64_model.proofs.Lemmas.Hierarchies.Held.{table_at_last}

pub unused_no_table : (L : ℕ) (p : List ℕ) → table_of L p 0 ≡ None
unfolding table_of used
unused_no_table L p = refl

pub zero_not_huge : huge 0 ≡ false
unfolding has
zero_not_huge = refl

pub zero_not_used : used 0 ≡ false
unfolding used
zero_not_used = refl

pub huge_names_none : (e : ℕ) → huge e ≡ true → names_table e ≡ false
huge_names_none e h = and_right (used e) (not (huge e)) (not_from_true (huge e) h)

pub unnamed : (L : ℕ) (p : List ℕ) (e : ℕ) → names_table e ≡ false → table_of L p e ≡ None
unfolding table_of
unnamed L p e h = ap (λ b. cond (b && nat_lt (length p) L) (Some (address e)) None) h

-- an entry that is of level one or huge names no table
pub leaf_none : (L : ℕ) (q : List ℕ) (e : ℕ) → ((length q == L) ≡ false → huge e ≡ true) → table_of L q e ≡ None
unfolding table_of
leaf_none L q e h = elim (length q == L) as (λ b. (length q == L) ≡ b → table_of L q e ≡ None) [
  | true ↦ λ l. cond-false _ _ None (and_right (names_table e) _ (ap (λ n. nat_lt n L) (eqb-true (length q) L l) ∙ le-ltb L L (omega arith)))
  | false ↦ λ l. unnamed L q e (huge_names_none e (h l))
] refl

module _ (L : ℕ) (T : Words) (root : ℕ) (M : PathMap) (holds : Holds L T root M) where
  -- a word that names no table may become any word that names none
  pub may_be_leaf : (p : List ℕ) (i w : ℕ) → table_at L root M (p ++ i ∷ []) ≡ None → table_of L (p ++ i ∷ []) w ≡ None → (3 < level_of L (p ++ i ∷ []) → huge w ≡ false) → MayBecome L T root M p i w
  may_be_leaf p i w old new low = record {
    below = λ j. holds.entries (p ++ i ∷ []) j ∙ ap (λ t. entry_in T t j) old ∙ sym (ap (λ t. entry_in T t j) new);
    fresh = λ g q h. absurd (let t : None ≡ Some g = sym new ∙ h in cc);
    in_memory = λ g h. absurd (let t : None ≡ Some g = sym new ∙ h in cc);
    not_zero = λ h. let t : None ≡ Some 0 = sym new ∙ h in cc;
    none_huge = low;
  }

  -- and the entry of a table whose words are all 0, as a clean up leaves it, may become unused
  pub may_be_removed : (p : List ℕ) (i : ℕ) → ((j : ℕ) → entry M ((p ++ i ∷ []) ++ j ∷ []) ≡ 0) → MayBecome L T root M p i 0
  may_be_removed p i empty = record {
    below = λ j. empty j ∙ sym (ap (λ t. entry_in T t j) (unused_no_table L (p ++ i ∷ [])));
    fresh = λ f q h. absurd (let t : None ≡ Some f = sym (unused_no_table L (p ++ i ∷ [])) ∙ h in cc);
    in_memory = λ f h. absurd (let t : None ≡ Some f = sym (unused_no_table L (p ++ i ∷ [])) ∙ h in cc);
    not_zero = λ h. let t : None ≡ Some 0 = sym (unused_no_table L (p ++ i ∷ [])) ∙ h in cc;
    none_huge = λ e. zero_not_huge;
  }

  -- a word that names no table may become the entry of a table that is in the memory, all 0, and none of the hierarchy's
  pub may_be_table : (p : List ℕ) (i w g : ℕ) → table_at L root M (p ++ i ∷ []) ≡ None → table_of L (p ++ i ∷ []) w ≡ Some g
      → ((j : ℕ) → word T g j ≡ 0) → IsSome (T g) → g ≢ 0 → ((q : List ℕ) → table_at L root M q ≢ Some g) → huge w ≡ false → MayBecome L T root M p i w
  may_be_table p i w g old new empty there nonzero fresh low = record {
    below = λ j. holds.entries (p ++ i ∷ []) j ∙ ap (λ t. entry_in T t j) old ∙ sym (empty j) ∙ sym (ap (λ t. entry_in T t j) new);
    fresh = λ f q h t. absurd (fresh q (t ∙ sym h ∙ new));
    in_memory = λ f h. subst (λ o. option_in o) (sym new ∙ h) there;
    not_zero = λ h. nonzero (let t : Some g ≡ Some 0 = sym new ∙ h in cc);
    none_huge = λ e. low;
  }
    where
      option_in : Option ℕ → Type 0
      option_in None = Unit {0}
      option_in (Some f) = IsSome (T f)

-- the entry of a table may get other flags
pub may_be_marked : (L : ℕ) (T : Words) (root : ℕ) (M : PathMap) → IsValid L T root M → (p : List ℕ) (i w : ℕ)
    → table_of L (p ++ i ∷ []) w ≡ table_at L root M (p ++ i ∷ []) → (3 < level_of L (p ++ i ∷ []) → huge w ≡ false) → MayBecome L T root M p i w
may_be_marked L T root M valid p i w same low = record {
  below = λ j. valid.holds.entries (p ++ i ∷ []) j ∙ sym (ap (λ t. entry_in T t j) same);
  fresh = λ g q h t. valid.own_frames q (p ++ i ∷ []) g t (sym same ∙ h);
  in_memory = λ g h. valid.holds.in_memory (p ++ i ∷ []) g (sym same ∙ h);
  not_zero = λ h. not_zero_at p i (sym same ∙ h);
  none_huge = low;
}
  where
    not_zero_at : (p : List ℕ) (i : ℕ) → table_at L root M (p ++ i ∷ []) ≢ Some 0
    not_zero_at [] i = valid.not_zero i []
    not_zero_at (k ∷ p) i = valid.not_zero k (p ++ i ∷ [])

-- ---- the parents of a page

pub map_again : (pre : List ℕ) (i : ℕ) (rs : List (List ℕ)) → map (λ r. (pre ++ i ∷ []) ++ r) rs ≡ map (λ r. pre ++ r) (map (λ r. i ∷ r) rs)
map_again pre i [] = refl
map_again pre i (r ∷ rs) = λ n. append_assoc pre (i ∷ []) r n ∷ map_again pre i rs n

-- what holds of each longer path holds of the parents of one that goes on
pub each_parent : (P : List ℕ → Type 0) (pre : List ℕ) → ((k : ℕ) (s : List ℕ) → P (pre ++ k ∷ s)) → (q : List ℕ) → AllByRecursion P (map (λ r. pre ++ r) (parents q))
each_parent P pre h [] = tt
each_parent P pre h (i ∷ []) = tt
each_parent P pre h (i ∷ j ∷ q) = (h i [], subst (AllByRecursion P) (map_again pre i (parents (j ∷ q))) (each_parent P (pre ++ i ∷ []) (λ k s. subst P (sym (append_assoc pre (i ∷ []) (k ∷ s))) (h i (k ∷ s))) (j ∷ q)))

-- in a map where nothing is used just below a path that leads to no table
module _ (L root : ℕ) (M : PathMap) (below : (q : List ℕ) (i : ℕ) → table_at L root M q ≡ None → entry M (q ++ i ∷ []) ≡ 0) where
  pub none_below : (p : List ℕ) (k : ℕ) (s : List ℕ) → table_at L root M p ≡ None → entry M (p ++ k ∷ s) ≡ 0
  none_below p k [] h = below p k h
  none_below p k (l ∷ s) h =
      ap (entry M) (sym (append_assoc p (k ∷ []) (l ∷ s)))
      ∙ none_below (p ++ k ∷ []) l s (table_at_last L root M p k ∙ ap (table_of L (p ++ k ∷ [])) (below p k h) ∙ unused_no_table L (p ++ k ∷ []))

  -- the parents of a page are as `Descends` says
  pub descends_from : (pre q : List ℕ) → Descends M (map (λ r. pre ++ r) (parents q)) (pre ++ q)
  descends_from pre [] = tt
  descends_from pre (i ∷ []) = tt
  descends_from pre (i ∷ j ∷ q) = subst₂ (λ ps q. Descends M ((pre ++ i ∷ []) ∷ ps) q) (map_again pre i (parents (j ∷ q))) (append_assoc pre (i ∷ []) (j ∷ q)) (
    (λ h. each_parent (λ r. used (entry M r) ≡ false) (pre ++ i ∷ []) (λ k s. ap used (none_below (pre ++ i ∷ []) k s (table_at_last L root M pre i ∙ unnamed L (pre ++ i ∷ []) _ h)) ∙ zero_not_used) (j ∷ q)),
    each_parent (λ r. r ≢ pre ++ i ∷ []) (pre ++ i ∷ []) (append_longer (pre ++ i ∷ [])) (j ∷ q),
    append_longer (pre ++ i ∷ []) j q,
    descends_from (pre ++ i ∷ []) (j ∷ q),
  )

pub parents_descend : (L : ℕ) (T : Words) (root : ℕ) (M : PathMap) → Holds L T root M → (pre q : List ℕ) → Descends M (map (λ r. pre ++ r) (parents q)) (pre ++ q)
parents_descend L T root M holds = descends_from L root M (λ q i h. holds.entries q i ∙ ap (λ t. entry_in T t i) h)
