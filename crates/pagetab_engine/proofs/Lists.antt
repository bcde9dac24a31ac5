-- What tests of lists tell.
use Rattle.std.proofs.Common.{◌≡◌, ◌==◌, ℕ, Bool, true, false, cond, not, ◌||◌, List, [], ◌∷◌, Some, None, inl, inr, ⊎_elim, refl, sym, ◌∙◌, subst, true≢false}
use Rattle.std.proofs.lemmas.Bool.Decides.{Decides-and, Decides-or, Decides-not, Decides-eqb}
use Rattle.std.specs.Bool.{Decides, ⊤}
use Rattle.std.specs.List.{AllByRecursion, list_all, list_any, find}
use Rattle.x86_64_model.specs.Lists.{In, EachOnce}
use Rattle.pagetab_engine.specs.Fitting.{are_distinct}
use Rattle.x86_64_tables.specs.LentPool.{is_in}

pub is_in_tells : (xs : List ℕ) (x : ℕ) → Decides (is_in xs x) (In xs x)
is_in_tells [] x = (λ e. true≢false (sym e), λ i. absurd i)
is_in_tells (y ∷ ys) x = Decides-or (y == x) (is_in ys x) (Decides-eqb y x) (is_in_tells ys x)

pub each_once_tells : (xs : List ℕ) → Decides (are_distinct xs) (EachOnce xs)
each_once_tells [] = (λ _. tt, λ _. refl)
each_once_tells (x ∷ xs) = Decides-and (not (is_in xs x)) (are_distinct xs) (Decides-not (is_in xs x) (is_in_tells xs x)) (each_once_tells xs)

pub all_tell : {X : Type 0} (test : X → Bool) (xs : List X) → Decides (list_all test xs) ((x : X) → In xs x → test x ≡ true)
all_tell test [] = (λ _ x i. absurd i, λ _. refl)
all_tell {X} test (x ∷ xs) =
    let both = Decides-and (test x) (list_all test xs) (λ e. e, λ e. e) (all_tell test xs) in (
      λ e y i. ⊎_elim (λ (same : x ≡ y). subst (λ (z : X). test z ≡ true) same (both.0 e).0) (λ i. (both.0 e).1 y i) i,
      λ all. both.1 (all x (inl refl), λ y i. all y (inr i)),
    )

-- what is found passes the test, and has what all of the list have
pub found_by : {X : Type 0} (P : X → Type 0) (test : X → Bool) (xs : List X) (x : X) → AllByRecursion P xs → find test xs ≡ Some x → P x × (test x ≡ true)
found_by P test [] x all is = cc
found_by {X} P test (y ∷ ys) x all is = by (test y) refl is (found_by P test ys x all.1)
  where
    by : (b : Bool) → test y ≡ b → cond b (Some y) (find test ys) ≡ Some x → (find test ys ≡ Some x → P x × (test x ≡ true)) → P x × (test x ≡ true)
    by true t same next = let e : y ≡ x = cc in subst (λ (z : X). P z × (test z ≡ true)) e (all.0, t)
    by false t same next = next same

all_there : {X : Type 0} (xs : List X) → AllByRecursion (λ x. ⊤) xs
all_there [] = tt
all_there (x ∷ xs) = (tt, all_there xs)

pub found : {X : Type 0} (test : X → Bool) (xs : List X) (x : X) → find test xs ≡ Some x → test x ≡ true
found test xs x is = (found_by (λ _. ⊤) test xs x (all_there xs) is).1

-- if nothing is found, nothing in the list passes the test
pub none_found : {X : Type 0} (test other : X → Bool) → ((x : X) → other x ≡ true → test x ≡ true) → (xs : List X) → find test xs ≡ None → list_any other xs ≡ true → ⊥
none_found test other more [] none some = true≢false (sym some)
none_found test other more (x ∷ xs) none some = by (test x) (other x) refl refl none some (none_found test other more xs)
  where
    by : (b c : Bool) → test x ≡ b → other x ≡ c → cond b (Some x) (find test xs) ≡ None → (c || list_any other xs) ≡ true → (find test xs ≡ None → list_any other xs ≡ true → ⊥) → ⊥
    by true c t o none some next = cc
    by false true t o none some next = true≢false (sym (more x o) ∙ t)
    by false false t o none some next = next none some
