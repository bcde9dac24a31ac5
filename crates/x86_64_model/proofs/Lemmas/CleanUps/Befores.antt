-- Paths that begin with one and an index below another.
use Rattle.std.proofs.Common.{◌≡◌, ⊎_elim, ℕ, ◌+◌, ◌<◌, ◌==◌, ◌&&◌, ◌||◌, Bool, true, false, List, [], ◌∷◌, ◌++◌, nat_lt, refl, sym, ap, ap₂, ◌∙◌, append_assoc, arith, eqb-true, eq-eqb, ne_eqb, ltb-true, lt-ltb, le-ltb}
use Rattle.std.proofs.lemmas.Bool.{and_parts, cases_order, false_from_ne_true}
use Rattle.x86_64_model.specs.Path.{AllBelow, begins, is_below}
use Rattle.x86_64_model.proofs.Lemmas.CleanUps.Below.{is_before}
use Rattle.x86_64_model.proofs.Lemmas.Paths.Begins.{from_begins}

-- ---- an index that is below another one

pub before_at : (q : List ℕ) (i j : ℕ) (s : List ℕ) → is_before q i (q ++ j ∷ s) ≡ nat_lt j i
before_at [] i j s = refl
before_at (k ∷ q) i j s = ap (λ b. b && is_before q i (q ++ j ∷ s)) (eq-eqb k k refl) ∙ before_at q i j s

pub from_before : (q : List ℕ) (i : ℕ) (p : List ℕ) → is_before q i p ≡ true → (j : ℕ) × (s : List ℕ) × (j < i) × (p ≡ q ++ j ∷ s)
from_before [] i [] h = cc
from_before [] i (j ∷ p) h = (j, p, ltb-true j i h, refl)
from_before (k ∷ q) i [] h = cc
from_before (k ∷ q) i (j ∷ p) h =
    let parts = and_parts _ _ h in let more = from_before q i p parts.1 in
    (more.0, more.1, more.2, ap₂ (λ k r. k ∷ r) (sym (eqb-true k j parts.0)) more.3)

-- a path that goes on from such a one is such a one
pub before_goes_on : (q : List ℕ) (i : ℕ) (p s : List ℕ) → is_before q i p ≡ true → is_before q i (p ++ s) ≡ true
before_goes_on q i p s h = let more = from_before q i p h in
    ap (is_before q i) (ap (λ p. p ++ s) more.3 ∙ append_assoc q (more.0 ∷ more.1) s) ∙ before_at q i more.0 (more.1 ++ s) ∙ lt-ltb more.0 i more.2

pub before_front : (q : List ℕ) (i : ℕ) (s p : List ℕ) → begins s p ≡ true → is_before q i p ≡ false → is_before q i s ≡ false
before_front q i s p front h = false_from_ne_true _ (λ b. let more = from_begins s p front in
    let t : true ≡ false = sym (before_goes_on q i s more.0 b) ∙ ap (is_before q i) (sym more.1) ∙ h in cc)

-- those at the index itself are none
pub not_before : (q : List ℕ) (i : ℕ) (p : List ℕ) → begins (q ++ i ∷ []) p ≡ true → is_before q i p ≡ false
not_before q i p h = let more = from_begins (q ++ i ∷ []) p h in
    ap (is_before q i) (more.1 ∙ append_assoc q (i ∷ []) more.0) ∙ before_at q i i more.0 ∙ le-ltb i i (omega arith)

pub none_before : (q p : List ℕ) → is_before q 0 p ≡ false
none_before q p = false_from_ne_true _ (λ b. let more = from_before q 0 p b in absurd (omega (arith, more.2)))

-- with the next index those at this one are
pub before_more : (q : List ℕ) (i : ℕ) (p : List ℕ) → is_before q (i + 1) p ≡ (is_before q i p || begins (q ++ i ∷ []) p)
before_more [] i [] = refl
before_more [] i (j ∷ p) = ⊎_elim (λ e. at (nat_lt j i) (lt-ltb j (i + 1) (omega arith)) (eq-eqb i j (sym e)))
    (⊎_elim (λ l. early (lt-ltb j (i + 1) (omega arith)) (lt-ltb j i l)) (λ l. late (le-ltb j (i + 1) (omega arith)) (le-ltb j i (omega arith)) (ne_eqb i j (λ e. omega (arith, e, l)))))
    (cases_order j i)
  where
    at : (b : Bool) → nat_lt j (i + 1) ≡ true → (i == j) ≡ true → nat_lt j (i + 1) ≡ (b || ((i == j) && true))
    at true a e = a
    at false a e = a ∙ sym (ap (λ b. b && true) e)

    early : nat_lt j (i + 1) ≡ true → nat_lt j i ≡ true → nat_lt j (i + 1) ≡ (nat_lt j i || ((i == j) && true))
    early a e = a ∙ sym (ap (λ b. b || ((i == j) && true)) e)

    late : nat_lt j (i + 1) ≡ false → nat_lt j i ≡ false → (i == j) ≡ false → nat_lt j (i + 1) ≡ (nat_lt j i || ((i == j) && true))
    late a b e = a ∙ sym (ap₂ (λ x y. x || (y && true)) b e)
before_more (k ∷ q) i [] = refl
before_more (k ∷ q) i (j ∷ p) = ap (λ b. (k == j) && b) (before_more q i p) ∙ by (k == j)
  where
    by : (b : Bool) → (b && (is_before q i p || begins (q ++ i ∷ []) p)) ≡ ((b && is_before q i p) || (b && begins (q ++ i ∷ []) p))
    by true = refl
    by false = refl

-- all at the indices of a table are
pub all_before : (q p : List ℕ) → AllBelow p → is_before q 512 p ≡ is_below q p
all_before [] [] a = refl
all_before [] (j ∷ p) a = lt-ltb j 512 a.0
all_before (k ∷ q) [] a = refl
all_before (k ∷ q) (j ∷ p) a = ap (λ b. (k == j) && b) (all_before q p a.1)
