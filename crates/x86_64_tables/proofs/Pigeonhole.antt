-- A list without doubles is at most as long as a list that has all its elements.
use Rattle.std.proofs.Common.{◌≡◌, inl, inr, ⊎_elim, ℕ, ◌≤◌, eqb, true, false, List, [], ◌∷◌, length, sym}
use Rattle.std.proofs.lemmas.Bool.{ne_eqb}
use Rattle.std.proofs.lemmas.Bool.Decides.{eqb_tells}
use Rattle.std.proofs.lemmas.Cmp.{nat_eq_equiv}
use Rattle.std.proofs.lemmas.Map.Made.{length-le_from_is_member}
use Rattle.std.specs.List.{AllByRecursion, IsDistinct, list_any}
use Rattle.x86_64_model.specs.Lists.{In, EachOnce}

apart : (x : ℕ) (xs : List ℕ) → (In xs x → ⊥) → AllByRecursion (λ y. eqb x y ≡ false) xs
apart x [] out = tt
apart x (y ∷ xs) out = (ne_eqb x y (λ e. out (inl (sym e))), apart x xs (λ h. out (inr h)))

pub distinct : (xs : List ℕ) → EachOnce xs → IsDistinct eqb xs
unfolding IsDistinct
distinct [] once = tt
distinct (x ∷ xs) once = (apart x xs once.0, distinct xs once.1)

pub found_in : (q : ℕ) (xs : List ℕ) → list_any (eqb q) xs ≡ true → In xs q
found_in q [] h = cc
found_in q (x ∷ xs) h = elim (eqb_tells q x) [
  | inl same ↦ inl (sym same.1)
  | inr other ↦ inr (found_in q xs (cc))
]

pub finds_in : (q : ℕ) (xs : List ℕ) → In xs q → list_any (eqb q) xs ≡ true
finds_in q [] i = absurd i
finds_in q (x ∷ xs) i = elim (eqb_tells q x) [
  | inl same ↦ cc
  | inr other ↦ let i : In xs q = ⊎_elim (λ e. absurd (other.1 (sym e))) (λ i. i) i in let more = finds_in q xs i in cc
]

pub members_fit : (xs own : List ℕ) → EachOnce xs → ((f : ℕ) → In xs f → In own f) → length xs ≤ length own
members_fit xs own once within = length-le_from_is_member nat_eq_equiv xs own (distinct xs once) (λ q h. finds_in q own (within q (found_in q xs h)))
