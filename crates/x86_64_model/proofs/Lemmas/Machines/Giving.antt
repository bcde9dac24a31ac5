-- A pool that rearranges takes frames back as the machine asks.
use Rattle.std.proofs.Common.{◌≡◌, inl, inr, ⊎_elim, ℕ, ◌==◌, Bool, true, false, List, [], ◌∷◌, refl, sym, ◌∙◌, eqb-true, eq-eqb, ne_eqb}
use Rattle.std.specs.List.{list_any, AllByRecursion, IsDistinct}
use Rattle.std.specs.Prelude.{IsPermutation}
use Rattle.std.proofs.lemmas.Bool.{or_cases, eqb-false, or_left, or_right}
use Rattle.std.proofs.lemmas.List.Sorted.{list_any-IsPermutation}
use Rattle.std.proofs.lemmas.Map.Keys.{IsDistinct-IsPermutation}
use Rattle.x86_64_model.specs.Lists.{In, EachOnce}
use Rattle.x86_64_model.specs.Pool.{TakesBack}

in_any : (xs : List ℕ) (f : ℕ) → In xs f → list_any (λ g. g == f) xs ≡ true
in_any [] f h = absurd h
in_any (x ∷ xs) f (inl e) = or_left (x == f) _ (eq-eqb x f e)
in_any (x ∷ xs) f (inr h) = or_right (x == f) _ (in_any xs f h)

any_in : (xs : List ℕ) (f : ℕ) → list_any (λ g. g == f) xs ≡ true → In xs f
any_in [] f h = let t : false ≡ true = h in cc
any_in (x ∷ xs) f h = ⊎_elim (λ e. inl (eqb-true x f e)) (λ h. inr (any_in xs f h)) (or_cases _ _ h)

none_equal : (x : ℕ) (xs : List ℕ) → (In xs x → ⊥) → AllByRecursion (λ y. (x == y) ≡ false) xs
none_equal x [] n = tt
none_equal x (y ∷ xs) n = (ne_eqb x y (λ e. n (inl (sym e))), none_equal x xs (λ h. n (inr h)))

not_in : (x : ℕ) (xs : List ℕ) → AllByRecursion (λ y. (x == y) ≡ false) xs → In xs x → ⊥
not_in x [] a h = h
not_in x (y ∷ xs) a h = ⊎_elim (λ e. eqb-false x y a.0 (sym e)) (λ h. not_in x xs a.1 h) h

distinct : (xs : List ℕ) → EachOnce xs → IsDistinct (λ x y. x == y) xs
unfolding IsDistinct
distinct [] h = tt
distinct (x ∷ xs) h = (none_equal x xs h.0, distinct xs h.1)

once : (xs : List ℕ) → IsDistinct (λ x y. x == y) xs → EachOnce xs
unfolding IsDistinct
once [] h = tt
once (x ∷ xs) h = (not_in x xs h.0, once xs h.1)

flips : (x y : ℕ) → (x == y) ≡ (y == x)
flips x y = by (x == y) refl
  where
    by : (b : Bool) → (x == y) ≡ b → b ≡ (y == x)
    by true e = sym (eq-eqb y x (sym (eqb-true x y e)))
    by false e = sym (ne_eqb y x (λ is. eqb-false x y e (sym is)))

pub giving_from : (take_back : List ℕ → ℕ → List ℕ) → ((held : List ℕ) (f : ℕ) → IsPermutation (f ∷ held) (take_back held f)) → TakesBack take_back
giving_from take_back p = record {
  same_frames = λ held f g. let e = list_any-IsPermutation (λ h. h == g) (f ∷ held) (take_back held f) (p held f) in (
    λ h. any_in (f ∷ held) g (e ∙ in_any (take_back held f) g h),
    λ h. any_in (take_back held f) g (sym e ∙ in_any (f ∷ held) g h),
  );
  each_once = λ held f h. once (take_back held f) (IsDistinct-IsPermutation (λ x y. x == y) flips (f ∷ held) (take_back held f) (p held f) (distinct (f ∷ held) h));
}
