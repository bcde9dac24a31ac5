-- Spaces that all share the same indices share them in pairs, and the other way round.
use Rattle.std.proofs.Common.{◌≡◌, ◌↔◌, inl, inr, ⊎_elim, ◌<◌, ℕ, zero, suc, ◌==◌, Bool, true, false, cond, List, [], ◌∷◌, map, length, Some, None, Option, Result, Ok, Err, IfOk, IsTrue, refl, sym, ap, ap₂, ◌∙◌, subst, eqb-true, eq-eqb, arith}
use Rattle.std.proofs.lemmas.Bool.{cases_Bool}
use Rattle.x86_64_model.specs.Layout.{Layout}
use Rattle.x86_64_model.specs.Lists.{In, EachOnce}
use Rattle.x86_64_model.specs.Memory.{Memory, Places}
use Rattle.x86_64_model.specs.Spaces.{Shares, AreSpaces, ArePaired}
use Rattle.x86_64_model.proofs.Lemmas.Lists.Members.{in_map, from_map}
use Rattle.x86_64_spaces.specs.declared.space.Space.{Space}
use Rattle.x86_64_spaces.specs.Room.{AreSpacesWithRoom, ArePairedWithRoom}
use Rattle.x86_64_spaces.specs.SpaceGroups.{Grouped, spaces_of, are_one, group_of, sharing_of, all_sharing}
use Rattle.x86_64_spaces.specs.private.SpaceTables.{grouped_at}
use Rattle.x86_64_spaces.specs.SpaceLayouts.{space_layout, layouts_of, roots_of}

pub answers_alike : {X Y E : Type 0} → X ↔ Y → (r : Result Bool E) → IfOk r (λ fit. IsTrue fit ↔ X) → IfOk r (λ fit. IsTrue fit ↔ Y)
answers_alike same (Ok fit) tells = (λ t. same.0 (tells.0 t), λ y. tells.1 (same.1 y))
answers_alike same (Err e) tells = tells

-- roots with their groups
module _ (group : (root index : ℕ) → Option ℕ) where
  abbrev pub in_groups : List Space → List Grouped
  in_groups spaces = map (λ (s : Space). record { space = s; group = group s.root }) spaces

  pub same_spaces : (spaces : List Space) → spaces_of (in_groups spaces) ≡ spaces
  same_spaces [] = refl
  same_spaces (s ∷ spaces) = ap (λ xs. s ∷ xs) (same_spaces spaces)

  pub group_of_each : (spaces : List Space) (root i : ℕ) → In (roots_of spaces) root → group_of (in_groups spaces) root i ≡ group root i
  group_of_each [] root i h = absurd h
  group_of_each (s ∷ spaces) root i (inl e) = ap (λ b. cond b (group s.root i) (group_of (in_groups spaces) root i)) (eq-eqb s.root root e) ∙ ap (λ root. group root i) e
  group_of_each (s ∷ spaces) root i (inr h) = ⊎_elim
      (λ e. ap (λ b. cond b (group s.root i) (group_of (in_groups spaces) root i)) e ∙ ap (λ root. group root i) (eqb-true s.root root e))
      (λ e. ap (λ b. cond b (group s.root i) (group_of (in_groups spaces) root i)) e ∙ group_of_each spaces root i h)
      (cases_Bool (s.root == root))

module _ (shared : ℕ → Bool) where
  abbrev one : (root index : ℕ) → Option ℕ
  one root i = cond (shared i) (Some 0) None

  pub group_at_all : (spaces : List Space) (n i : ℕ) → n < length (all_sharing shared spaces) → (grouped_at (all_sharing shared spaces) n).group i ≡ cond (shared i) (Some 0) None
  group_at_all [] n i h = absurd (omega arith)
  group_at_all (s ∷ spaces) zero i h = refl
  group_at_all (s ∷ spaces) (suc n) i h = group_at_all spaces n i (omega (arith, h))

  one_group : (b : Bool) → are_one (cond b (Some 0) None) (cond b (Some 0) None) ≡ b
  one_group true = refl
  one_group false = refl

  module _ (L : ℕ) (places : Places) (m : Memory) (spaces : List Space) (pool : List ℕ) where
    abbrev layouts : List Layout
    layouts = layouts_of L places m spaces

    abbrev sharing : (root other : ℕ) → ℕ → Bool
    sharing = sharing_of (all_sharing shared spaces)

    root_of : (a : Layout) → In layouts a → In (roots_of spaces) a.root
    root_of a h = let s = from_map (space_layout L places m) spaces a h in
        subst (In (roots_of spaces)) (ap (λ (l : Layout). l.root) s.2) (in_map (λ (s : Space). s.root) spaces s.0 s.1)

    at_index : (a b : Layout) → In layouts a → In layouts b → (i : ℕ) → sharing a.root b.root i ≡ shared i
    at_index a b h k i = ap₂ are_one (group_of_each one spaces a.root i (root_of a h)) (group_of_each one spaces b.root i (root_of b k)) ∙ one_group (shared i)

    same : (a b : Layout) → In layouts a → In layouts b → sharing a.root b.root ≡ shared
    same a b h k = λ j i. at_index a b h k i j

    all_share : (serves : ℕ → Bool) → ArePaired sharing m serves pool layouts → AreSpaces shared m serves pool layouts
    all_share serves are = record {
      fits = are.fits;
      own_roots = are.own_roots;
      share = λ a b h k differ. subst (λ f. Shares f a m pool b) (same a b h k) (are.share a b h k differ);
    }

    in_pairs : (serves : ℕ → Bool) → AreSpaces shared m serves pool layouts → ArePaired sharing m serves pool layouts
    in_pairs serves are = record {
      fits = are.fits;
      own_roots = are.own_roots;
      share = λ a b h k differ. subst (λ f. Shares f a m pool b) (sym (same a b h k)) (are.share a b h k differ);
    }

    pub fit_alike : (serves : ℕ → Bool)
        → EachOnce (roots_of (spaces_of (all_sharing shared spaces))) × ArePaired sharing m serves pool (layouts_of L places m (spaces_of (all_sharing shared spaces)))
        ↔ EachOnce (roots_of spaces) × AreSpaces shared m serves pool layouts
    fit_alike serves = subst (λ xs. EachOnce (roots_of xs) × ArePaired sharing m serves pool (layouts_of L places m xs) ↔ EachOnce (roots_of spaces) × AreSpaces shared m serves pool layouts)
        (sym (same_spaces one spaces))
        (λ x. (x.0, all_share serves x.1), λ x. (x.0, in_pairs serves x.1))

    pub room_alike : (capacity : ℕ)
        → EachOnce (roots_of (spaces_of (all_sharing shared spaces))) × ArePairedWithRoom sharing m capacity pool (layouts_of L places m (spaces_of (all_sharing shared spaces)))
        ↔ EachOnce (roots_of spaces) × AreSpacesWithRoom shared m capacity pool layouts
    room_alike capacity = subst (λ xs. EachOnce (roots_of xs) × ArePairedWithRoom sharing m capacity pool (layouts_of L places m xs) ↔ EachOnce (roots_of spaces) × AreSpacesWithRoom shared m capacity pool layouts)
        (sym (same_spaces one spaces)) (
          λ x. (x.0, record { own = x.1.own; few = x.1.few; roots = x.1.roots; spaces = all_share _ x.1.spaces }),
          λ x. (x.0, record { own = x.1.own; few = x.1.few; roots = x.1.roots; spaces = in_pairs _ x.1.spaces }),
        )
