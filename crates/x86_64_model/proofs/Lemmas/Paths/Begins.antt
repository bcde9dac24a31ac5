-- Paths that begin with others, and paths below others.
use Rattle.std.proofs.Common.{◌≡◌, ◌⊎◌, inl, inr, ℕ, ◌==◌, ◌&&◌, true, false, List, [], ◌∷◌, ◌++◌, map, length, get_or, refl, sym, ap, ap₂, ◌∙◌, append_assoc, append-nil, arith, eqb-true, eq-eqb, ◌<◌}
use Rattle.std.proofs.lemmas.Bool.{and_parts, and_from}
use Rattle.std.proofs.Math.Bool.{and-true, and_assoc}
use Rattle.x86_64_model.specs.Lists.{In}
use Rattle.x86_64_model.specs.Path.{AllBelow, parents, begins, is_below}
use Rattle.x86_64_model.proofs.Lemmas.Lists.Members.{in_map, from_map}

-- ---- paths below others

pub below_goes_on : (q : List ℕ) (j : ℕ) (s : List ℕ) → is_below q (q ++ j ∷ s) ≡ true
below_goes_on [] j s = refl
below_goes_on (i ∷ q) j s = and_from _ _ (eq-eqb i i refl) (below_goes_on q j s)

pub goes_on_from_below : (q p : List ℕ) → is_below q p ≡ true → (j : ℕ) × (s : List ℕ) × (p ≡ q ++ j ∷ s)
goes_on_from_below [] [] h = cc
goes_on_from_below [] (j ∷ p) h = (j, p, refl)
goes_on_from_below (i ∷ q) [] h = cc
goes_on_from_below (i ∷ q) (j ∷ p) h =
    let parts = and_parts _ _ h in let more = goes_on_from_below q p parts.1 in
    (more.0, more.1, ap₂ (λ k r. k ∷ r) (sym (eqb-true i j parts.0)) more.2)

-- ---- fronts

pub begins_on : (q s : List ℕ) → begins q (q ++ s) ≡ true
begins_on [] s = refl
begins_on (i ∷ q) s = and_from _ _ (eq-eqb i i refl) (begins_on q s)

pub begins_itself : (q : List ℕ) → begins q q ≡ true
begins_itself q = ap (begins q) (sym (append-nil q)) ∙ begins_on q []

pub from_begins : (q p : List ℕ) → begins q p ≡ true → (s : List ℕ) × (p ≡ q ++ s)
from_begins [] p h = (p, refl)
from_begins (i ∷ q) [] h = cc
from_begins (i ∷ q) (j ∷ p) h =
    let parts = and_parts _ _ h in let more = from_begins q p parts.1 in
    (more.0, ap₂ (λ k r. k ∷ r) (sym (eqb-true i j parts.0)) more.1)

-- a path that begins with r is r or below it, and what begins with such a one is too
pub begins_more : (r p s : List ℕ) → begins r p ≡ true → begins p s ≡ true → begins r s ≡ true
begins_more r p s h g = let a = from_begins r p h in let b = from_begins p s g in
    ap (begins r) (b.1 ∙ ap (λ p. p ++ b.0) a.1 ∙ append_assoc r a.0 b.0) ∙ begins_on r (a.0 ++ b.0)

-- a path begins with itself and with those that it is below
pub same_or_below : (q p : List ℕ) → begins q p ≡ true → (p ≡ q) ⊎ (is_below q p ≡ true)
same_or_below q p h = let more = from_begins q p h in by more.0 more.1
  where
    by : (s : List ℕ) → p ≡ q ++ s → (p ≡ q) ⊎ (is_below q p ≡ true)
    by [] e = inl (e ∙ append-nil q)
    by (j ∷ s) e = inr (ap (is_below q) e ∙ below_goes_on q j s)

pub below_begins : (q p : List ℕ) → is_below q p ≡ true → begins q p ≡ true
below_begins [] p h = refl
below_begins (i ∷ q) [] h = cc
below_begins (i ∷ q) (j ∷ p) h = let parts = and_parts _ _ h in and_from _ _ parts.0 (below_begins q p parts.1)

pub below_further : (q p : List ℕ) (i : ℕ) → is_below q p ≡ true → is_below q (p ++ i ∷ []) ≡ true
below_further q p i h = let more = goes_on_from_below q p h in
    ap (is_below q) (ap (λ p. p ++ i ∷ []) more.2 ∙ append_assoc q (more.0 ∷ more.1) (i ∷ [])) ∙ below_goes_on q more.0 (more.1 ++ i ∷ [])

pub not_below_itself : (q : List ℕ) → is_below q q ≡ false
not_below_itself [] = refl
not_below_itself (i ∷ q) = ap (λ b. b && is_below q q) (eq-eqb i i refl) ∙ not_below_itself q

-- ---- parents

pub parent_begins : (p s : List ℕ) → In (parents p) s → begins s p ≡ true
parent_begins [] s h = absurd h
parent_begins (i ∷ []) s h = absurd h
parent_begins (i ∷ j ∷ p) s (inl e) = ap (λ s. begins s (i ∷ j ∷ p)) (sym e) ∙ and_from _ _ (eq-eqb i i refl) refl
parent_begins (i ∷ j ∷ p) s (inr h) = let more = from_map (λ r. i ∷ r) (parents (j ∷ p)) s h in
    ap (λ s. begins s (i ∷ j ∷ p)) (sym more.2) ∙ and_from _ _ (eq-eqb i i refl) (parent_begins (j ∷ p) more.0 more.1)

pub below_parent : (a : ℕ) (c p : List ℕ) → is_below (a ∷ c) p ≡ true → In (parents p) (a ∷ c)
below_parent a c [] h = cc
below_parent a [] (i ∷ []) h = let t : false ≡ true = (and_parts (a == i) false h).1 in cc
below_parent a (b ∷ c) (i ∷ []) h = let t : false ≡ true = (and_parts (a == i) false h).1 in cc
below_parent a [] (i ∷ j ∷ p) h = let parts = and_parts _ _ h in inl (ap (λ i. i ∷ []) (sym (eqb-true a i parts.0)))
below_parent a (b ∷ c) (i ∷ j ∷ p) h = let parts = and_parts _ _ h in
    inr (at (eqb-true a i parts.0) (in_map (λ r. i ∷ r) (parents (j ∷ p)) (b ∷ c) (below_parent b c (j ∷ p) parts.1)))
  where
    at : a ≡ i → In (map (λ r. i ∷ r) (parents (j ∷ p))) (i ∷ b ∷ c) → In (map (λ r. i ∷ r) (parents (j ∷ p))) (a ∷ b ∷ c)
    at e h = rw e h

-- ---- one index more

pub all_below_more : (q : List ℕ) (i : ℕ) → AllBelow q → i < 512 → AllBelow (q ++ i ∷ [])
all_below_more [] i a l = (l, tt)
all_below_more (j ∷ q) i a l = (a.0, all_below_more q i a.1 l)

pub begins_next : (q : List ℕ) (i : ℕ) (p : List ℕ) → length q < length p → begins (q ++ i ∷ []) p ≡ (begins q p && (i == get_or p (length q) 0))
begins_next [] i [] l = absurd (omega arith)
begins_next [] i (j ∷ p) l = and-true (i == j)
begins_next (k ∷ q) i [] l = refl
begins_next (k ∷ q) i (j ∷ p) l = ap (λ b. (k == j) && b) (begins_next q i p (omega arith)) ∙ sym (and_assoc (k == j) (begins q p) (i == get_or p (length q) 0))
