-- Membership in lists.
use Rattle.std.proofs.Common.{◌≡◌, ◌≢◌, ◌⊎◌, inl, inr, ⊎_elim, ◌<◌, ◌+◌, ℕ, zero, suc, Bool, true, false, cond, List, [], ◌∷◌, ◌++◌, filter, find, map, Some, None, refl, sym, ap, ◌∙◌, subst, arith, zero-add}
use Rattle.std.specs.List.{flat_map, range_with_len}
use Rattle.x86_64_model.specs.Lists.{In}
use Rattle.x86_64_model.specs.Path.{indices}

pub in_left : {X : Type 0} (xs ys : List X) (x : X) → In xs x → In (xs ++ ys) x
in_left [] ys x h = absurd h
in_left (y ∷ xs) ys x (inl e) = inl e
in_left (y ∷ xs) ys x (inr h) = inr (in_left xs ys x h)

pub in_right : {X : Type 0} (xs ys : List X) (x : X) → In ys x → In (xs ++ ys) x
in_right [] ys x h = h
in_right (y ∷ xs) ys x h = inr (in_right xs ys x h)

pub in_append : {X : Type 0} (xs ys : List X) (x : X) → In (xs ++ ys) x → In xs x ⊎ In ys x
in_append [] ys x h = inr h
in_append (y ∷ xs) ys x (inl e) = inl (inl e)
in_append (y ∷ xs) ys x (inr h) = ⊎_elim (λ a. inl (inr a)) (λ b. inr b) (in_append xs ys x h)

pub in_flat_map : {X Y : Type 0} (f : X → List Y) (xs : List X) (x : X) (y : Y) → In xs x → In (f x) y → In (flat_map f xs) y
in_flat_map f [] x y h g = absurd h
in_flat_map f (z ∷ xs) x y (inl e) g = in_left _ _ y (subst (λ z. In (f z) y) (sym e) g)
in_flat_map f (z ∷ xs) x y (inr h) g = in_right _ _ y (in_flat_map f xs x y h g)

pub from_flat_map : {X Y : Type 0} (f : X → List Y) (xs : List X) (z : Y) → In (flat_map f xs) z → (x : X) × In xs x × In (f x) z
from_flat_map f [] z h = absurd h
from_flat_map f (x ∷ xs) z h = ⊎_elim (λ h. (x, inl refl, h)) (λ h. let more = from_flat_map f xs z h in (more.0, inr more.1, more.2)) (in_append (f x) (flat_map f xs) z h)

pub in_map : {X Y : Type 0} (f : X → Y) (xs : List X) (x : X) → In xs x → In (map f xs) (f x)
in_map f [] x h = absurd h
in_map f (z ∷ xs) x (inl e) = inl (ap f e)
in_map f (z ∷ xs) x (inr h) = inr (in_map f xs x h)

pub from_map : {X Y : Type 0} (f : X → Y) (xs : List X) (y : Y) → In (map f xs) y → (x : X) × (In xs x) × (f x ≡ y)
from_map f [] y h = absurd h
from_map f (z ∷ xs) y (inl e) = (z, inl refl, e)
from_map f (z ∷ xs) y (inr h) = let more = from_map f xs y h in (more.0, inr more.1, more.2)

-- ---- what passes a test

pub in_filter : {X : Type 0} (p : X → Bool) (xs : List X) (x : X) → In xs x → p x ≡ true → In (filter p xs) x
in_filter p [] x h e = absurd h
in_filter p (z ∷ xs) x (inl is) e = subst (λ b. In (cond b (z ∷ filter p xs) (filter p xs)) x) (sym (ap p is ∙ e)) (inl is)
in_filter p (z ∷ xs) x (inr h) e = elim (p z) as (λ b. In (cond b (z ∷ filter p xs) (filter p xs)) x) [ true ↦ inr (in_filter p xs x h e) | false ↦ in_filter p xs x h e ]

pub from_filter : {X : Type 0} (p : X → Bool) (xs : List X) (x : X) → In (filter p xs) x → In xs x
from_filter p [] x h = h
from_filter p (y ∷ xs) x h = elim (p y) as (λ b. In (cond b (y ∷ filter p xs) (filter p xs)) x → In (y ∷ xs) x) [
  | true ↦ ⊎_elim (λ e. inl e) (λ h. inr (from_filter p xs x h))
  | false ↦ λ h. inr (from_filter p xs x h)
] h

pub passes : {X : Type 0} (p : X → Bool) (xs : List X) (x : X) → In (filter p xs) x → p x ≡ true
passes p [] x h = absurd h
passes p (z ∷ xs) x h = elim (p z) as (λ b. p z ≡ b → In (cond b (z ∷ filter p xs) (filter p xs)) x → p x ≡ true) [
  | true ↦ λ e. ⊎_elim (λ is. ap p (sym is) ∙ e) (λ h. passes p xs x h)
  | false ↦ λ e h. passes p xs x h
] refl h

pub find_in : {X : Type 0} (p : X → Bool) (xs : List X) (x : X) → In xs x → p x ≡ true → find p xs ≢ None
find_in p [] x h e = absurd h
find_in p (y ∷ xs) x h e = elim (p y) as (λ b. p y ≡ b → cond b (Some y) (find p xs) ≢ None) [
  | true ↦ λ _ n. let t : Some y ≡ None = n in cc
  | false ↦ λ f. ⊎_elim (λ is. absurd (let t : true ≡ false = sym e ∙ ap p (sym is) ∙ f in cc)) (λ h. find_in p xs x h e) h
] refl

pub found_is : {X : Type 0} (p : X → Bool) (xs : List X) (x : X) → find p xs ≡ Some x → p x ≡ true
found_is p [] x e = let t : None ≡ Some x = e in cc
found_is p (y ∷ xs) x e = elim (p y) as (λ b. p y ≡ b → cond b (Some y) (find p xs) ≡ Some x → p x ≡ true) [
  | true ↦ λ h e. let is : y ≡ x = cc in ap p (sym is) ∙ h
  | false ↦ λ h e. found_is p xs x e
] refl e

-- ---- the indices

pub in_range : (n from i : ℕ) → i < n → In (range_with_len from n) (from + i)
in_range zero from i h = absurd (omega arith)
in_range (suc n) from zero h = inl (omega arith)
in_range (suc n) from (suc i) h = inr (subst (In (range_with_len (from + 1) n)) same (in_range n (from + 1) i (omega arith)))
  where
    same : (from + 1) + i ≡ from + suc i
    same = omega arith

pub in_indices : (i : ℕ) → i < 512 → In indices i
unfolding indices
in_indices i h = subst (In indices) (zero-add i) (in_range 512 0 i h)
