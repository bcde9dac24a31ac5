-- A clean up below the root's entries, one entry of the root after the other.
use Rattle.std.proofs.Common.{◌≡◌, ⊎_elim, ℕ, ◌+◌, ◌-◌, ◌==◌, ◌&&◌, ◌||◌, Bool, true, false, cond, List, [], ◌∷◌, ◌++◌, nat_lt, refl, sym, ap, ap₂, ◌∙◌, arith, append-nil, eqb-true, eq-eqb, ne_eqb, lt-ltb, le-ltb}
use Rattle.std.proofs.lemmas.Bool.{and_parts, cases_Bool, cases_order, or_right}
use Rattle.std.proofs.Math.Bool.{or-false}
use Rattle.std.proofs.lemmas.List.{map-id}
use Rattle.std.proofs.lemmas.List.FromFn.{map-range_with_len_more}
use Rattle.std.proofs.lemmas.Grind.{flat_map-append}
use Rattle.std.specs.List.{flat_map, range_with_len}
use Rattle.x86_64_model.proofs.Lemmas.CleanUps.Below.{cleaned, back_of, cleaned_below, back_below}
use Rattle.x86_64_model.proofs.Lemmas.CleanUps.Parts.{back-append, back_same, entry-part, outside_part, part_tree, same_removed, used_alone-part}
use Rattle.x86_64_model.proofs.Lemmas.CleanUps.Trees.{goes_below}
use Rattle.x86_64_model.proofs.Lemmas.Hierarchies.Trees.{IsTree}
use Rattle.x86_64_model.proofs.Lemmas.Lists.All.{every_in}
use Rattle.x86_64_model.proofs.Lemmas.Paths.Begins.{begins_more, begins_on, below_begins, from_begins}
use Rattle.x86_64_model.proofs.Lemmas.Paths.Puts.{same_paths}
use Rattle.x86_64_model.specs.CleanUp.{is_removed}
use Rattle.x86_64_model.specs.Lists.{In}
use Rattle.x86_64_model.specs.Path.{begins, is_below, paths_below}
use Rattle.x86_64_model.specs.PathMap.{PathMap, entry}

-- ---- the paths below the first entries of the root

-- whether a path has two indices or more, the first of them below i
abbrev pub is_below_first : (i : ℕ) → (path : List ℕ) → Bool
is_below_first i [] = false
is_below_first i (j ∷ []) = false
is_below_first i (j ∷ k ∷ p) = nat_lt j i

pub first_goes_on : (i : ℕ) (p : List ℕ) (k : ℕ) → is_below_first i p ≡ true → is_below_first i (p ++ k ∷ []) ≡ true
first_goes_on i [] k h = cc
first_goes_on i (j ∷ []) k h = cc
first_goes_on i (j ∷ l ∷ p) k h = h

-- those below the entry at the index itself are none
not_first : (i : ℕ) (p : List ℕ) → begins (i ∷ []) p ≡ true → is_below_first i p ≡ false
not_first i [] h = refl
not_first i (j ∷ []) h = refl
not_first i (j ∷ k ∷ p) h = let e = eqb-true i j (and_parts _ _ h).0 in le-ltb j i (omega (arith, e))

not_first_front : (i : ℕ) (s p : List ℕ) → begins (i ∷ []) p ≡ true → begins s p ≡ true → is_below_first i s ≡ false
not_first_front i [] p b f = refl
not_first_front i (j ∷ []) p b f = refl
not_first_front i (j ∷ k ∷ s) p b f = not_first i (j ∷ k ∷ s) (ap (begins (i ∷ [])) (sym (from_begins (j ∷ k ∷ s) p f).1) ∙ b)

-- with the next index those at this one are
first_more : (i : ℕ) (p : List ℕ) → is_below_first (i + 1) p ≡ (is_below_first i p || is_below (i ∷ []) p)
first_more i [] = refl
first_more i (j ∷ []) = by (i == j)
  where
    by : (b : Bool) → false ≡ (b && false)
    by true = refl
    by false = refl
first_more i (j ∷ k ∷ p) = ⊎_elim (λ e. at (nat_lt j i) (lt-ltb j (i + 1) (omega (arith, e))) (eq-eqb i j (sym e)))
    (⊎_elim (λ l. early (lt-ltb j (i + 1) (omega (arith, l))) (lt-ltb j i l)) (λ l. late (le-ltb j (i + 1) (omega (arith, l))) (le-ltb j i (omega (arith, l))) (ne_eqb i j (λ e. omega (arith, e, l)))))
    (cases_order j i)
  where
    at : (b : Bool) → nat_lt j (i + 1) ≡ true → (i == j) ≡ true → nat_lt j (i + 1) ≡ (b || ((i == j) && true))
    at true a e = a
    at false a e = a ∙ sym (ap (λ b. b && true) e)

    early : nat_lt j (i + 1) ≡ true → nat_lt j i ≡ true → nat_lt j (i + 1) ≡ (nat_lt j i || ((i == j) && true))
    early a e = a ∙ sym (ap (λ b. b || ((i == j) && true)) e)

    late : nat_lt j (i + 1) ≡ false → nat_lt j i ≡ false → (i == j) ≡ false → nat_lt j (i + 1) ≡ (nat_lt j i || ((i == j) && true))
    late a b e = a ∙ sym (ap₂ (λ x y. x || (y && true)) b e)

-- ---- what is left, and the frames that come back

-- once the tables below the first entries of the root were cleaned up
abbrev pub cleaned_first : (L : ℕ) → PathMap → (low high i : ℕ) → PathMap
cleaned_first L M low high i = cleaned L M low high (is_below_first i)

-- the paths below the root's entry at an index
abbrev pub paths_under : (L i : ℕ) → List (List ℕ)
paths_under L i = paths_below (L - 1 - 1) (i ∷ [])

abbrev pub back_first : (L : ℕ) → PathMap → (low high i : ℕ) → List ℕ
back_first L M low high i = back_of L M low high (flat_map (paths_under L) (range_with_len 0 i))

pub under_begins : (L i : ℕ) (p : List ℕ) → In (paths_under L i) p → begins (i ∷ []) p ≡ true
under_begins L i p h = let more = goes_below (L - 1 - 1) (i ∷ []) p h in ap (begins (i ∷ [])) more.2 ∙ begins_on (i ∷ []) (more.0 ∷ more.1)

range_more : (i : ℕ) → range_with_len 0 (i + 1) ≡ range_with_len 0 i ++ i ∷ []
range_more i = sym (map-id (range_with_len 0 (i + 1))) ∙ map-range_with_len_more (λ x. x) 0 i i (omega arith) ∙ ap (λ is. is ++ i ∷ []) (map-id (range_with_len 0 i))

pub back_more : (L : ℕ) (M : PathMap) (low high j : ℕ) → back_first L M low high (j + 1) ≡ back_first L M low high j ++ back_of L M low high (paths_under L j)
back_more L M low high j = ap (λ is. back_of L M low high (flat_map (paths_under L) is)) (range_more j)
    ∙ ap (back_of L M low high) (flat_map-append (paths_under L) (range_with_len 0 j) (j ∷ []) ∙ ap (λ ps. flat_map (paths_under L) (range_with_len 0 j) ++ ps) (append-nil (paths_under L j)))
    ∙ back-append L M low high (flat_map (paths_under L) (range_with_len 0 j)) (paths_under L j)

module _ (L root : ℕ) (M : PathMap) (tree : IsTree L root M) (low high : ℕ) (i : ℕ) where
  abbrev N : PathMap
  N = cleaned_first L M low high i

  abbrev r : List ℕ
  r = i ∷ []

  tree_first : IsTree L root N
  tree_first = part_tree L root M tree low high (is_below_first i) (first_goes_on i)

  -- at the next entry and below it nothing has changed
  same_at : (p : List ℕ) → begins r p ≡ true → entry N p ≡ entry M p
  same_at p b = outside_part L M low high (is_below_first i) p (not_first i p b)

  same_front : (p s : List ℕ) → begins r p ≡ true → begins s p ≡ true → entry N s ≡ entry M s
  same_front p s b f = outside_part L M low high (is_below_first i) s (not_first_front i s p b f)

  removed_first : (p : List ℕ) → begins r p ≡ true → is_removed L N low high p ≡ is_removed L M low high p
  removed_first p b = same_removed L N M low high p tree_first.used_alone tree.used_alone (λ s f. same_front p s b f) (λ s g. same_at s (begins_more r p s b g))

  -- the tables below the next entry are cleaned up as they'd be in the whole
  pub first_next : cleaned_below L N low high r ≡ cleaned_first L M low high (i + 1)
  first_next = same_paths _ _ (used_alone-part L N low high (is_below r) tree_first.used_alone) (used_alone-part L M low high (is_below_first (i + 1)) tree.used_alone)
      (λ p. entry-part L N low high (is_below r) p ∙ ⊎_elim (here p) (elsewhere p) (cases_Bool (is_below r p))
      ∙ ap (λ b. cond (b && is_removed L M low high p) 0 (entry M p)) (sym (first_more i p)) ∙ sym (entry-part L M low high (is_below_first (i + 1)) p))
    where
      here : (p : List ℕ) → is_below r p ≡ true
          → cond (is_below r p && is_removed L N low high p) 0 (entry N p) ≡ cond ((is_below_first i p || is_below r p) && is_removed L M low high p) 0 (entry M p)
      here p h = let b = below_begins r p h in
          ap (λ b. cond (b && is_removed L N low high p) 0 (entry N p)) h ∙ ap₂ (λ x e. cond x 0 e) (removed_first p b) (same_at p b)
          ∙ sym (ap (λ b. cond (b && is_removed L M low high p) 0 (entry M p)) (or_right (is_below_first i p) _ h))

      elsewhere : (p : List ℕ) → is_below r p ≡ false
          → cond (is_below r p && is_removed L N low high p) 0 (entry N p) ≡ cond ((is_below_first i p || is_below r p) && is_removed L M low high p) 0 (entry M p)
      elsewhere p h = ap (λ b. cond (b && is_removed L N low high p) 0 (entry N p)) h ∙ entry-part L M low high (is_below_first i) p
          ∙ sym (ap (λ b. cond (b && is_removed L M low high p) 0 (entry M p)) (ap (λ b. is_below_first i p || b) h ∙ or-false (is_below_first i p)))

  pub back_next : back_first L M low high i ++ back_below L N low high r ≡ back_first L M low high (i + 1)
  back_next = ap (λ fs. back_first L M low high i ++ fs) (back_same L N M low high (paths_under L i) (every_in _ (paths_under L i)
      (λ p h. let b = under_begins L i p h in (removed_first p b, same_at p b)))) ∙ sym (back_more L M low high i)
