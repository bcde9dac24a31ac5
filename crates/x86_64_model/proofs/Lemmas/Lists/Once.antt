-- Lists without doubles.
use Rattle.std.proofs.Common.{◌≡◌, inl, inr, ⊎_elim, ◌≤◌, ◌+◌, ℕ, zero, suc, Bool, true, false, cond, List, [], ◌∷◌, ◌++◌, filter, map, refl, sym, ◌∙◌, subst, arith}
use Rattle.std.specs.List.{flat_map, range_with_len}
use Rattle.x86_64_model.specs.Lists.{In, EachOnce}
use Rattle.x86_64_model.specs.Path.{indices}
use Rattle.x86_64_model.proofs.Lemmas.Lists.Members.{in_left, in_right, in_append, in_flat_map, from_flat_map, from_filter, from_map}

pub once_append : {X : Type 0} (xs ys : List X) → EachOnce xs → EachOnce ys → ((z : X) → In xs z → In ys z → ⊥) → EachOnce (xs ++ ys)
once_append [] ys a b apart = b
once_append (x ∷ xs) ys a b apart = (λ h. ⊎_elim a.0 (λ h. apart x (inl refl) h) (in_append xs ys x h), once_append xs ys a.1 b (λ z h g. apart z (inr h) g))

pub once_left : {X : Type 0} (xs ys : List X) → EachOnce (xs ++ ys) → EachOnce xs
once_left [] ys h = tt
once_left (x ∷ xs) ys h = (λ g. h.0 (in_left xs ys x g), once_left xs ys h.1)

pub once_right : {X : Type 0} (xs ys : List X) → EachOnce (xs ++ ys) → EachOnce ys
once_right [] ys h = h
once_right (x ∷ xs) ys h = once_right xs ys h.1

pub once_apart : {X : Type 0} (xs ys : List X) → EachOnce (xs ++ ys) → (x : X) → In xs x → In ys x → ⊥
once_apart [] ys h x a b = a
once_apart (y ∷ xs) ys h x (inl e) b = h.0 (subst (In (xs ++ ys)) (sym e) (in_right xs ys x b))
once_apart (y ∷ xs) ys h x (inr a) b = once_apart xs ys h.1 x a b

-- parts of distinct elements
pub once_flat_map : {X Y : Type 0} (f : X → List Y) (xs : List X) → EachOnce xs → ((x : X) → EachOnce (f x)) → ((x y : X) (z : Y) → In (f x) z → In (f y) z → x ≡ y) → EachOnce (flat_map f xs)
once_flat_map f [] a each apart = tt
once_flat_map f (x ∷ xs) a each apart = once_append (f x) (flat_map f xs) (each x) (once_flat_map f xs a.1 each apart)
    (λ z h g. let more = from_flat_map f xs z g in a.0 (subst (In xs) (apart more.0 x z more.2 h) more.1))

pub once_part : {X Y : Type 0} (f : X → List Y) (xs : List X) → EachOnce (flat_map f xs) → (x : X) → In xs x → EachOnce (f x)
once_part f [] h x i = absurd i
once_part f (y ∷ xs) h x (inl e) = subst (λ y. EachOnce (f y)) e (once_left (f y) (flat_map f xs) h)
once_part f (y ∷ xs) h x (inr i) = once_part f xs (once_right (f y) (flat_map f xs) h) x i

pub same_part : {X Y : Type 0} (f : X → List Y) (xs : List X) → EachOnce (flat_map f xs) → (x y : X) (g : Y) → In xs x → In xs y → In (f x) g → In (f y) g → x ≡ y
same_part f [] h x y g i j a b = absurd i
same_part f (z ∷ xs) h x y g (inl d) (inl e) a b = sym d ∙ e
same_part f (z ∷ xs) h x y g (inl d) (inr j) a b = absurd (once_apart (f z) (flat_map f xs) h g (subst (λ z. In (f z) g) (sym d) a) (in_flat_map f xs y g j b))
same_part f (z ∷ xs) h x y g (inr i) (inl e) a b = absurd (once_apart (f z) (flat_map f xs) h g (subst (λ z. In (f z) g) (sym e) b) (in_flat_map f xs x g i a))
same_part f (z ∷ xs) h x y g (inr i) (inr j) a b = same_part f xs (once_right (f z) (flat_map f xs) h) x y g i j a b

pub once_filter : {X : Type 0} (p : X → Bool) (xs : List X) → EachOnce xs → EachOnce (filter p xs)
once_filter p [] a = tt
once_filter p (x ∷ xs) a = elim (p x) as (λ b. EachOnce (cond b (x ∷ filter p xs) (filter p xs))) [
  | true ↦ (λ h. a.0 (from_filter p xs x h), once_filter p xs a.1)
  | false ↦ once_filter p xs a.1
]

pub once_map : {X Y : Type 0} (f : X → Y) (xs : List X) → EachOnce xs → ((x y : X) → In xs x → In xs y → f x ≡ f y → x ≡ y) → EachOnce (map f xs)
once_map f [] a same = tt
once_map f (x ∷ xs) a same = (λ h. let more = from_map f xs (f x) h in a.0 (subst (In xs) (same more.0 x (inr more.1) (inl refl) more.2) more.1), once_map f xs a.1 (λ y z h g. same y z (inr h) (inr g)))

-- ---- the indices

from_range : (n from i : ℕ) → In (range_with_len from n) i → from ≤ i
from_range zero from i h = absurd h
from_range (suc n) from i (inl e) = omega arith
from_range (suc n) from i (inr h) = let l = from_range n (from + 1) i h in omega arith

once_range : (n from : ℕ) → EachOnce (range_with_len from n)
once_range zero from = tt
once_range (suc n) from = (λ h. let l = from_range n (from + 1) from h in absurd (omega arith), once_range n (from + 1))

pub once_indices : EachOnce indices
unfolding indices
once_indices = once_range 512 0
