-- Spaces whose roots are in groups: who has the tables below an index, and which roots share it.
use Rattle.std.proofs.Common.{◌≡◌, ◌⊎◌, inl, inr, ⊎_elim, ◌==◌, ◌<◌, ℕ, zero, suc, Bool, true, false, cond, List, [], ◌∷◌, map, length, get_or, drop, Some, None, Option, refl, sym, ap, ap₂, ◌∙◌, subst, eqb, eqb-true, eq-eqb, arith}
use Rattle.std.specs.Option.{option_eq}
use Rattle.std.proofs.lemmas.Bool.{cases_Bool}
use Rattle.x86_64_model.specs.Lists.{In, EachOnce}
use Rattle.x86_64_model.proofs.Lemmas.Lists.Members.{from_map, in_map}
use Rattle.x86_64_spaces.specs.SpaceGroups.{Grouped, spaces_of, are_one, group_of, sharing_of}
use Rattle.x86_64_spaces.specs.SpaceLaws.{GroupsShare}
use Rattle.x86_64_spaces.specs.SpaceLayouts.{roots_of}
use Rattle.x86_64_spaces.specs.private.SpaceTables.{grouped_at, first_in, owner}

-- ---- two groups

pub is_one : (g h : Option ℕ) → are_one g h ≡ true → (k : ℕ) × (g ≡ Some k) × (h ≡ Some k)
is_one None h e = let t : false ≡ true = e in cc
is_one (Some g) None e = let t : false ≡ true = e in cc
is_one (Some g) (Some h) e = (g, refl, ap Some (sym (eqb-true g h e)))

pub one_again : (k : ℕ) → are_one (Some k) (Some k) ≡ true
one_again k = eq-eqb k k refl

pub one_of : (g h : Option ℕ) (k : ℕ) → g ≡ Some k → h ≡ Some k → are_one g h ≡ true
one_of g h k e d = ap₂ are_one e d ∙ one_again k

-- a group that was compared as std compares options
pub compared : (a h G : Option ℕ) (k : ℕ) (b : Bool) → option_eq eqb a (Some k) ≡ b → a ≡ h → Some k ≡ G → are_one h G ≡ b
compared a h G k b t e d = ap₂ are_one (sym e) (sym d) ∙ by a ∙ t
  where
    by : (a : Option ℕ) → are_one a (Some k) ≡ option_eq eqb a (Some k)
    by None = refl
    by (Some l) = refl

none_right : (g : Option ℕ) → are_one g None ≡ false
none_right None = refl
none_right (Some g) = refl

pub groups_share : GroupsShare
groups_share spaces = record {
  symmetric = λ a b i e. let k = is_one (group_of spaces a i) (group_of spaces b i) e in one_of (group_of spaces b i) (group_of spaces a i) k.0 k.2 k.1;
  transitive = λ a b c i e d.
      let k = is_one (group_of spaces a i) (group_of spaces b i) e in
      let l = is_one (group_of spaces b i) (group_of spaces c i) d in
      let same : Some l.0 ≡ Some k.0 = sym l.1 ∙ k.2 in
      one_of (group_of spaces a i) (group_of spaces c i) k.0 k.1 (l.2 ∙ same);
}

-- ---- the first of a group

pub first_none : (spaces : List Grouped) (i : ℕ) (s : Grouped) → first_in spaces None i s ≡ s
first_none [] i s = refl
first_none (t ∷ spaces) i s = ap (λ b. cond b t (first_in spaces None i s)) (none_right (t.group i)) ∙ first_none spaces i s

-- where one is in the group, the first is one of them, whatever else would be taken
first_found : (spaces : List Grouped) (g : Option ℕ) (i : ℕ) (s u : Grouped) → In spaces u → are_one (u.group i) g ≡ true
    → In spaces (first_in spaces g i s) × (are_one ((first_in spaces g i s).group i) g ≡ true)
first_found [] g i s u h e = absurd h
first_found (t ∷ spaces) g i s u h e = elim (are_one (t.group i) g) as (λ b. are_one (t.group i) g ≡ b → In (t ∷ spaces) (cond b t (first_in spaces g i s))
    × (are_one ((cond b t (first_in spaces g i s)).group i) g ≡ true)) [
      | true ↦ λ d. (inl refl, d)
      | false ↦ λ d. ⊎_elim
          (λ is. absurd (let z : true ≡ false = sym e ∙ ap (λ (s : Grouped). are_one (s.group i) g) (sym is) ∙ d in cc))
          (λ k. let found = first_found spaces g i s u k e in (inr found.0, found.1))
          h
    ] refl

first_same : (spaces : List Grouped) (g : Option ℕ) (i : ℕ) (s t u : Grouped) → In spaces u → are_one (u.group i) g ≡ true → first_in spaces g i s ≡ first_in spaces g i t
first_same [] g i s t u h e = absurd h
first_same (x ∷ spaces) g i s t u h e = elim (are_one (x.group i) g) as (λ b. are_one (x.group i) g ≡ b → cond b x (first_in spaces g i s) ≡ cond b x (first_in spaces g i t)) [
  | true ↦ λ d. refl
  | false ↦ λ d. ⊎_elim
      (λ is. absurd (let z : true ≡ false = sym e ∙ ap (λ (s : Grouped). are_one (s.group i) g) (sym is) ∙ d in cc))
      (λ k. first_same spaces g i s t u k e)
      h
] refl

-- ---- the search for it, from a place on

from_place : {X : Type 0} (xs : List X) (k : ℕ) (x : X) → k < length xs → drop k xs ≡ get_or xs k x ∷ drop (suc k) xs
from_place [] k x h = absurd (omega arith)
from_place (y ∷ xs) zero x h = refl
from_place (y ∷ xs) (suc k) x h = from_place xs k x (omega (arith, h))

abbrev no_space : Grouped
no_space = record { space = record { root = 0; recursive = None }; group = λ i. None }

module _ (spaces : List Grouped) (g : Option ℕ) (i : ℕ) (s : Grouped) (k : ℕ) (within : k < length spaces) where
  pub first_here : are_one ((grouped_at spaces k).group i) g ≡ true → first_in (drop k spaces) g i s ≡ grouped_at spaces k
  first_here e = ap (λ xs. first_in xs g i s) (from_place spaces k no_space within) ∙ ap (λ b. cond b (grouped_at spaces k) (first_in (drop (suc k) spaces) g i s)) e

  pub first_later : are_one ((grouped_at spaces k).group i) g ≡ false → first_in (drop k spaces) g i s ≡ first_in (drop (suc k) spaces) g i s
  first_later e = ap (λ xs. first_in xs g i s) (from_place spaces k no_space within) ∙ ap (λ b. cond b (grouped_at spaces k) (first_in (drop (suc k) spaces) g i s)) e

-- ---- who has the tables below an index

-- in no group, or in one
in_group : (g : Option ℕ) → (X : Type 0) → (g ≡ None → X) → ((k : ℕ) → g ≡ Some k → X) → X
in_group None X none some = none refl
in_group (Some k) X none some = some k refl

module _ (spaces : List Grouped) (i : ℕ) where
  pub owner_alone : (s : Grouped) → s.group i ≡ None → owner spaces s i ≡ s
  owner_alone s e = ap (λ g. first_in spaces g i s) e ∙ first_none spaces i s

  pub owner_in : (s : Grouped) → In spaces s → In spaces (owner spaces s i)
  owner_in s h = in_group (s.group i) (In spaces (owner spaces s i))
      (λ e. subst (In spaces) (sym (owner_alone s e)) h)
      (λ k e. (first_found spaces (s.group i) i s s h (one_of (s.group i) (s.group i) k e e)).0)

  pub owner_group : (s : Grouped) → In spaces s → (owner spaces s i).group i ≡ s.group i
  owner_group s h = in_group (s.group i) ((owner spaces s i).group i ≡ s.group i)
      (λ e. ap (λ (s : Grouped). s.group i) (owner_alone s e))
      (λ k e.
      let found = (first_found spaces (s.group i) i s s h (one_of (s.group i) (s.group i) k e e)).1 in
      let g = is_one ((owner spaces s i).group i) (s.group i) found in
      g.1 ∙ sym g.2)

  pub owner_same : (s t : Grouped) → In spaces s → are_one (s.group i) (t.group i) ≡ true → owner spaces s i ≡ owner spaces t i
  owner_same s t h e = let g = is_one (s.group i) (t.group i) e in
      ap (λ g. first_in spaces g i s) (g.1 ∙ sym g.2) ∙ first_same spaces (t.group i) i s t s h e

  pub owner_again : (s : Grouped) → In spaces s → owner spaces (owner spaces s i) i ≡ owner spaces s i
  owner_again s h = in_group (s.group i) (owner spaces (owner spaces s i) i ≡ owner spaces s i)
      (λ e. ap (λ (s : Grouped). owner spaces s i) (owner_alone s e))
      (λ k e. owner_same (owner spaces s i) s (owner_in s h) (one_of ((owner spaces s i).group i) (s.group i) k (owner_group s h ∙ e) e))

  pub owner_shares : (s : Grouped) → In spaces s → (owner spaces s i ≡ s) ⊎ (are_one ((owner spaces s i).group i) (s.group i) ≡ true)
  owner_shares s h = in_group (s.group i) ((owner spaces s i ≡ s) ⊎ (are_one ((owner spaces s i).group i) (s.group i) ≡ true))
      (λ e. inl (owner_alone s e))
      (λ k e. inr (one_of ((owner spaces s i).group i) (s.group i) k (owner_group s h ∙ e) e))

  -- spaces with one owner are the same or share the index
  pub one_owner : (s t : Grouped) → In spaces s → In spaces t → owner spaces s i ≡ owner spaces t i → (are_one (s.group i) (t.group i) ≡ false) → s ≡ t
  one_owner s t h k same off =
      let groups : s.group i ≡ t.group i = sym (owner_group s h) ∙ ap (λ (s : Grouped). s.group i) same ∙ owner_group t k in
      in_group (s.group i) (s ≡ t)
      (λ e. sym (owner_alone s e) ∙ same ∙ owner_alone t (sym groups ∙ e))
      (λ g e. absurd (let z : true ≡ false = sym (one_of (s.group i) (t.group i) g e (sym groups ∙ e)) ∙ off in cc))

pub some_first : (spaces : List Grouped) → 0 < length spaces → In spaces (grouped_at spaces 0)
some_first [] h = absurd (omega arith)
some_first (s ∷ spaces) h = inl refl

-- ---- the groups of roots

abbrev pub root : Grouped → ℕ
root s = s.space.root

pub roots_are : (spaces : List Grouped) → map root spaces ≡ roots_of (spaces_of spaces)
roots_are [] = refl
roots_are (s ∷ spaces) = ap (λ xs. s.space.root ∷ xs) (roots_are spaces)

pub from_roots : (spaces : List Grouped) (f : ℕ) → In (roots_of (spaces_of spaces)) f → (s : Grouped) × In spaces s × (s.space.root ≡ f)
from_roots spaces f h = from_map root spaces f (subst (λ xs. In xs f) (sym (roots_are spaces)) h)

pub in_roots : (spaces : List Grouped) (s : Grouped) → In spaces s → In (roots_of (spaces_of spaces)) s.space.root
in_roots spaces s h = subst (λ xs. In xs s.space.root) (roots_are spaces) (in_map root spaces s h)

pub group_of_root : (spaces : List Grouped) → EachOnce (map root spaces) → (s : Grouped) → In spaces s → (i : ℕ) → group_of spaces s.space.root i ≡ s.group i
group_of_root [] once s h i = absurd h
group_of_root (t ∷ spaces) once s (inl e) i =
    ap (λ b. cond b (t.group i) (group_of spaces s.space.root i)) (eq-eqb t.space.root s.space.root (ap root e)) ∙ ap (λ (s : Grouped). s.group i) e
group_of_root (t ∷ spaces) once s (inr h) i = ⊎_elim
    (λ e. absurd (once.0 (subst (In (map root spaces)) (sym (eqb-true t.space.root s.space.root e)) (in_map root spaces s h))))
    (λ e. ap (λ b. cond b (t.group i) (group_of spaces s.space.root i)) e ∙ group_of_root spaces once.1 s h i)
    (cases_Bool (t.space.root == s.space.root))

pub sharing_is : (spaces : List Grouped) → EachOnce (map root spaces) → (s t : Grouped) → In spaces s → In spaces t → (i : ℕ)
    → sharing_of spaces s.space.root t.space.root i ≡ are_one (s.group i) (t.group i)
sharing_is spaces once s t h k i = ap₂ are_one (group_of_root spaces once s h i) (group_of_root spaces once t k i)
