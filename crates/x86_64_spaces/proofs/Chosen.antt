-- Lists of parts, by a test, and lists without doubles.
use Rattle.std.proofs.Common.{◌≡◌, ◌≢◌, inl, inr, ℕ, Bool, true, false, cond, List, [], ◌∷◌, ◌++◌, map, refl, sym, ◌∙◌, subst}
use Rattle.std.specs.List.{flat_map}
use Rattle.x86_64_model.specs.Lists.{In, EachOnce}
use Rattle.x86_64_model.proofs.Lemmas.Lists.Members.{in_left, in_right, in_flat_map, from_flat_map, in_map}
use Rattle.x86_64_model.proofs.Lemmas.Lists.Once.{once_append, once_left, once_right, once_apart}

module _ (test : ℕ → Bool) (g : ℕ → List ℕ) where
  abbrev pub yes : List ℕ → List ℕ
  yes xs = flat_map (λ i. cond (test i) (g i) []) xs

  pub from_yes : (xs : List ℕ) (z : ℕ) → In (yes xs) z → (i : ℕ) × In xs i × (test i ≡ true) × In (g i) z
  from_yes xs z h = let r = from_flat_map (λ i. cond (test i) (g i) []) xs z h in
      elim (test r.0) as (λ b. test r.0 ≡ b → In (cond b (g r.0) []) z → (i : ℕ) × In xs i × (test i ≡ true) × In (g i) z) [
        | true ↦ λ t k. (r.0, r.1, t, k)
        | false ↦ λ t k. absurd k
      ] refl r.2

  pub once_yes : (xs : List ℕ) → EachOnce (flat_map g xs) → EachOnce (yes xs)
  once_yes [] a = tt
  once_yes (x ∷ xs) a = elim (test x) as (λ t. EachOnce (cond t (g x) [] ++ yes xs)) [
    | true ↦ once_append (g x) (yes xs) (once_left (g x) (flat_map g xs) a) (once_yes xs (once_right (g x) (flat_map g xs) a))
        (λ z h k. let r = from_yes xs z k in once_apart (g x) (flat_map g xs) a z h (in_flat_map g xs r.0 z r.1 r.3))
    | false ↦ once_yes xs (once_right (g x) (flat_map g xs) a)
  ]

-- ---- parts of distinct elements

-- elements are distinct by a key if each key is in its own part
pub once_keys : {X : Type 0} (key : X → ℕ) (f : X → List ℕ) → ((x : X) → In (f x) (key x)) → (xs : List X) → EachOnce (flat_map f xs) → EachOnce (map key xs)
once_keys key f itself [] h = tt
once_keys key f itself (x ∷ xs) h = (
  λ i. once_apart (f x) (flat_map f xs) h (key x) (itself x) (key_in xs i),
  once_keys key f itself xs (once_right (f x) (flat_map f xs) h),
)
  where
    key_in : (ys : List _) → In (map key ys) (key x) → In (flat_map f ys) (key x)
    key_in [] i = i
    key_in (y ∷ ys) (inl e) = in_left (f y) (flat_map f ys) (key x) (subst (In (f y)) e (itself y))
    key_in (y ∷ ys) (inr i) = in_right (f y) (flat_map f ys) (key x) (key_in ys i)

pub same_keys : {X : Type 0} (key : X → ℕ) (xs : List X) → EachOnce (map key xs) → (x y : X) → In xs x → In xs y → key x ≡ key y → x ≡ y
same_keys key [] once x y i j e = absurd i
same_keys key (z ∷ zs) once x y (inl a) (inl b) e = sym a ∙ b
same_keys key (z ∷ zs) once x y (inl a) (inr j) e = absurd (once.0 (subst (In (map key zs)) (sym e ∙ ap_key a) (in_map key zs y j)))
  where
    ap_key : z ≡ x → key x ≡ key z
    ap_key a = subst (λ w. key x ≡ key w) (sym a) refl
same_keys key (z ∷ zs) once x y (inr i) (inl b) e = absurd (once.0 (subst (In (map key zs)) (e ∙ ap_key b) (in_map key zs x i)))
  where
    ap_key : z ≡ y → key y ≡ key z
    ap_key b = subst (λ w. key y ≡ key w) (sym b) refl
same_keys key (z ∷ zs) once x y (inr i) (inr j) e = same_keys key zs once.1 x y i j e

pub once_lists : {X : Type 0} (key : X → ℕ) (f : X → List ℕ) (xs : List X) → EachOnce (map key xs) → ((x : X) → In xs x → EachOnce (f x))
    → ((x y : X) (z : ℕ) → In xs x → In xs y → key x ≢ key y → In (f x) z → In (f y) z → ⊥) → EachOnce (flat_map f xs)
once_lists key f [] a each apart = tt
once_lists key f (x ∷ xs) a each apart = once_append (f x) (flat_map f xs) (each x (inl refl)) (once_lists key f xs a.1 (λ y i. each y (inr i)) (λ y z w i j. apart y z w (inr i) (inr j)))
    (λ z h k. let r = from_flat_map f xs z k in apart x r.0 z (inl refl) (inr r.1) (λ e. a.0 (subst (In (map key xs)) (sym e) (in_map key xs r.0 r.1))) h r.2)
