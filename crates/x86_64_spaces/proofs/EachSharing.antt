-- Each sharing of roots is one by groups: at an index a root is in the group of the first root that shares the index with it.
use Rattle.std.proofs.Common.{◌≡◌, ⊎_elim, ℕ, Bool, true, false, cond, List, [], ◌∷◌, Some, None, Option, refl, sym, ap, ap₂, ◌∙◌}
use Rattle.std.proofs.lemmas.Bool.{cases_Bool}
use Rattle.std.proofs.lemmas.Option.{same_Some}
use Rattle.x86_64_model.specs.Lists.{In}
use Rattle.x86_64_model.specs.Spaces.{IsSharing}
use Rattle.x86_64_spaces.specs.SpaceGroups.{are_one}
use Rattle.x86_64_spaces.specs.SpaceLaws.{SharingsAreGroups}
use Rattle.x86_64_spaces.specs.SpaceLayouts.{roots_of}
use Rattle.x86_64_spaces.proofs.AllSharing.{in_groups, same_spaces, group_of_each}
use Rattle.x86_64_spaces.proofs.Groups.{is_one, one_of}

module _ (sharing : (root other : ℕ) → ℕ → Bool) (is : IsSharing sharing) where
  -- the first root that shares an index with a root
  abbrev first : List ℕ → (root index : ℕ) → Option ℕ
  first [] a i = None
  first (c ∷ roots) a i = cond (sharing c a i) (Some c) (first roots a i)

  -- roots that share an index share it with the same roots
  agree : (a b i : ℕ) → sharing a b i ≡ true → (c : ℕ) → sharing c a i ≡ sharing c b i
  agree a b i e c = ⊎_elim
      (λ t. t ∙ sym (is.transitive c a b i t e))
      (λ f. f ∙ sym (⊎_elim
      (λ t. absurd (let z : true ≡ false = sym (is.transitive c b a i t (is.symmetric a b i e)) ∙ f in cc))
      (λ g. g)
      (cases_Bool (sharing c b i))))
      (cases_Bool (sharing c a i))

  same_first : (roots : List ℕ) (a b i : ℕ) → ((c : ℕ) → sharing c a i ≡ sharing c b i) → first roots a i ≡ first roots b i
  same_first [] a b i h = refl
  same_first (c ∷ roots) a b i h = ap₂ (λ t o. cond t (Some c) o) (h c) (same_first roots a b i h)

  is_some : (roots : List ℕ) (a i c : ℕ) → In roots c → sharing c a i ≡ true → (k : ℕ) × (first roots a i ≡ Some k)
  is_some [] a i c h e = absurd h
  is_some (d ∷ roots) a i c h e = elim (sharing d a i) as (λ t. sharing d a i ≡ t → (k : ℕ) × (cond t (Some d) (first roots a i) ≡ Some k)) [
    | true ↦ λ t. (d, refl)
    | false ↦ λ f. ⊎_elim
        (λ same. absurd (let z : true ≡ false = sym e ∙ ap (λ c. sharing c a i) (sym same) ∙ f in cc))
        (λ h. is_some roots a i c h e)
        h
  ] refl

  shares : (roots : List ℕ) (a i k : ℕ) → first roots a i ≡ Some k → sharing k a i ≡ true
  shares [] a i k e = let t : None ≡ Some k = e in cc
  shares (d ∷ roots) a i k e = elim (sharing d a i) as (λ t. sharing d a i ≡ t → cond t (Some d) (first roots a i) ≡ Some k → sharing k a i ≡ true) [
    | true ↦ λ t e. ap (λ c. sharing c a i) (sym (same_Some d k e)) ∙ t
    | false ↦ λ f e. shares roots a i k e
  ] refl e

  same_sharing : (roots : List ℕ) (a b i : ℕ) → In roots a → are_one (first roots a i) (first roots b i) ≡ sharing a b i
  same_sharing roots a b i h = ⊎_elim
      (λ e.
      let same = same_first roots a b i (agree a b i e) in
      let k = is_some roots a i a h (is.transitive a b a i e (is.symmetric a b i e)) in
      one_of (first roots a i) (first roots b i) k.0 k.1 (sym same ∙ k.1) ∙ sym e)
      (λ f. ⊎_elim
      (λ one. absurd (
      let k = is_one (first roots a i) (first roots b i) one in
      let z : true ≡ false = sym (is.transitive a k.0 b i (is.symmetric k.0 a i (shares roots a i k.0 k.1)) (shares roots b i k.0 k.2)) ∙ f in cc))
      (λ none. none ∙ sym f)
      (cases_Bool (are_one (first roots a i) (first roots b i))))
      (cases_Bool (sharing a b i))

pub sharings_are_groups : SharingsAreGroups
sharings_are_groups sharing is spaces =
    let group = first sharing is (roots_of spaces) in (
      in_groups group spaces,
      same_spaces group spaces,
      λ a b h k i. ap₂ are_one (group_of_each group spaces a i h) (group_of_each group spaces b i k) ∙ same_sharing sharing is (roots_of spaces) a b i h,
    )
