-- In a valid hierarchy the words along a path outside the window are the entries at its front parts, as far as they matter to a leaf.
use Rattle.std.proofs.Common.{◌≡◌, ⊎_elim, ◌<◌, ◌+◌, ◌-◌, ◌&&◌, ℕ, not, false, cond, List, [], ◌∷◌, ◌++◌, length, map, Some, None, Option, option_and_then, option_map, refl, sym, ap, ap₂, ◌∙◌, arith}
use Rattle.std.proofs.lemmas.Bool.{and_left, and_parts, and_right, cases_Bool, cases_lt, cond-false, not-true}
use Rattle.std.proofs.lemmas.List.{map-append, map-id}
use Rattle.x86_64_model.specs.Entry.{present, huge, address}
use Rattle.x86_64_model.specs.Memory.{Words}
use Rattle.x86_64_model.specs.PageWalk.{read}
use Rattle.x86_64_model.specs.Path.{AllBelow, parents}
use Rattle.x86_64_model.specs.PathMap.{PathMap, entry}
use Rattle.x86_64_model.specs.Window.{Window, begins_with, entry_at}
use Rattle.x86_64_model.specs.Mappings.{Mapping, is_leaf, leaf_of, maps_page, mapping_at, mapping_of, words_along}
use Rattle.x86_64_model.specs.Laws.Mappings.{MappingsAreLeaves}
use Rattle.x86_64_model.proofs.Lemmas.Hierarchies.Changes.{map_again}
use Rattle.x86_64_model.proofs.Lemmas.Maps.Arrives.{entry_outside, first_alone}
use Rattle.x86_64_model.proofs.Lemmas.Walks.Agrees.{reads}
use Rattle.x86_64_model.proofs.Lemmas.Walks.Walked.{Reads, next, one_more, read_there}

-- the entries at the front parts of a path that goes on from q
abbrev pub entries_down : (E : List ℕ → ℕ) → (q path : List ℕ) → List ℕ
entries_down E q [] = []
entries_down E q (i ∷ path) = E (q ++ i ∷ []) ∷ entries_down E (q ++ i ∷ []) path

fronts_down : (E : List ℕ → ℕ) (q : List ℕ) (i : ℕ) (path : List ℕ) → map E (map (λ p. q ++ p) (parents (i ∷ path) ++ (i ∷ path) ∷ [])) ≡ entries_down E q (i ∷ path)
fronts_down E q i [] = refl
fronts_down E q i (j ∷ path) =
    ap (λ ps. E (q ++ i ∷ []) ∷ map E (map (λ p. q ++ p) ps)) (sym (map-append (λ p. i ∷ p) (parents (j ∷ path)) ((j ∷ path) ∷ [])))
    ∙ ap (λ ps. E (q ++ i ∷ []) ∷ map E ps) (sym (map_again q i (parents (j ∷ path) ++ (j ∷ path) ∷ [])))
    ∙ ap (λ es. E (q ++ i ∷ []) ∷ es) (fronts_down E (q ++ i ∷ []) j path)

-- outside the window the entries that are read are the map's
down_outside : (window : Option Window) (M : PathMap) (i : ℕ) (q path : List ℕ) → begins_with window (i ∷ q) ≡ false → entries_down (entry_at window M) (i ∷ q) path ≡ entries_down (entry M) (i ∷ q) path
down_outside window M i q [] h = refl
down_outside window M i q (j ∷ path) h = let o = first_alone window i q (q ++ j ∷ []) h in
    ap₂ (λ e es. e ∷ es) (entry_outside window M i (q ++ j ∷ []) o) (down_outside window M i (q ++ j ∷ []) path o)

-- ---- no leaf

-- there is none below level one
pub low_no_leaf : (words : List ℕ) → is_leaf 0 words ≡ false
unfolding is_leaf
low_no_leaf [] = refl
low_no_leaf (e ∷ []) = and_right (present e) (maps_page 0 e) (and_right (huge e) false refl)
low_no_leaf (e ∷ f ∷ below) = and_right (present e && not (huge e)) (is_leaf 0 (f ∷ below)) (low_no_leaf (f ∷ below))

-- what is made of an entry and the words of a path below it
behind : (T : Words) (f e j : ℕ) (path : List ℕ) (G H : List ℕ → Option Mapping) → ((g : ℕ) (below : List ℕ) → G (e ∷ g ∷ below) ≡ H (g ∷ below))
    → option_and_then G (option_map (λ below. e ∷ below) (words_along T f (j ∷ path))) ≡ option_and_then H (words_along T f (j ∷ path))
unfolding words_along
behind T f e j path G H same = by (read T f j)
  where
    inside : (g : ℕ) (o : Option (List ℕ)) → option_and_then G (option_map (λ below. e ∷ below) (option_map (λ below. g ∷ below) o)) ≡ option_and_then H (option_map (λ below. g ∷ below) o)
    inside g None = refl
    inside g (Some below) = same g below

    by : (o : Option ℕ) → option_and_then G (option_map (λ below. e ∷ below) (option_and_then (λ g. option_map (λ below. g ∷ below) (words_along T (address g) path)) o))
        ≡ option_and_then H (option_and_then (λ g. option_map (λ below. g ∷ below) (words_along T (address g) path)) o)
    by None = refl
    by (Some g) = inside g (words_along T (address g) path)

none_at_all : {X Y : Type 0} (o : Option X) → option_and_then {U = Y} (λ x. None) o ≡ None
none_at_all None = refl
none_at_all (Some x) = refl

-- ---- the words and the entries

abbrev leafy : (level : ℕ) → (List ℕ → Mapping) → List ℕ → Option Mapping
leafy level made words = cond (is_leaf level words) (Some (made words)) None

-- words that go on behind an entry which leads nowhere
no_leaf : (T : Words) (f e j : ℕ) (path words : List ℕ) (level : ℕ) (made : List ℕ → Mapping) (k : ℕ) → ((g : ℕ) (below : List ℕ) → is_leaf level (e ∷ g ∷ below) ≡ false)
    → option_and_then (leafy level made) (option_map (λ below. e ∷ below) (words_along T f (j ∷ path))) ≡ leafy level made (e ∷ k ∷ words)
no_leaf T f e j path words level made k none =
    behind T f e j path (leafy level made) (λ _. None) (λ g below. cond-false _ _ None (none g below)) ∙ none_at_all (words_along T f (j ∷ path))
    ∙ sym (cond-false _ _ None (none k words))

module _ (L : ℕ) (T : Words) (root : ℕ) (E : List ℕ → ℕ) (reads : Reads L T root E) where
  same_leaf : (level f : ℕ) (made : List ℕ → Mapping) (q : List ℕ) (i : ℕ) (path : List ℕ) → length q + level ≡ L → AllBelow (i ∷ path)
      → ((j : ℕ) → j < 512 → read T f j ≡ Some (E (q ++ j ∷ []))) → option_and_then (leafy level made) (words_along T f (i ∷ path)) ≡ leafy level made (entries_down E q (i ∷ path))
  unfolding words_along is_leaf
  same_leaf level f made q i [] l below at = ap (λ o. option_and_then (leafy level made) (option_and_then (λ e. option_map (λ below. e ∷ below) (Some [])) o)) (at i below.0)
  same_leaf level f made q i (j ∷ path) l below at =
      ap (λ o. option_and_then (leafy level made) (option_and_then (λ e. option_map (λ below. e ∷ below) (words_along T (address e) (j ∷ path))) o)) (at i below.0)
      ∙ ⊎_elim
      (λ on. ⊎_elim
      (λ two. let parts = and_parts (present e) (not (huge e)) on in
      behind T (address e) e j path (leafy level made) (leafy (level - 1) (λ words. made (e ∷ words)))
      (λ g below. ap (λ b. cond (b && is_leaf (level - 1) (g ∷ below)) (Some (made (e ∷ g ∷ below))) None) on)
      ∙ same_leaf (level - 1) (address e) (λ words. made (e ∷ words)) (q ++ i ∷ []) j path (omega (arith, two, l, one_more q i)) below.1
      (λ k s. next L T root E reads (q ++ i ∷ []) k s (omega (arith, two, l, one_more q i)) parts.0 (not-true (huge e) parts.1))
      ∙ sym (ap (λ b. cond (b && is_leaf (level - 1) (entries_down E (q ++ i ∷ []) (j ∷ path))) (Some (made (e ∷ entries_down E (q ++ i ∷ []) (j ∷ path)))) None) on))
      (λ low. no_leaf T (address e) e j path _ level made _ (λ g below. and_right (present e && not (huge e)) (is_leaf (level - 1) (g ∷ below)) (let z : level - 1 ≡ 0 = omega (arith, low) in ap (λ n. is_leaf n (g ∷ below)) z ∙ low_no_leaf (g ∷ below))))
      (cases_lt 1 level))
      (λ off. no_leaf T (address e) e j path _ level made _ (λ g below. and_left (present e && not (huge e)) (is_leaf (level - 1) (g ∷ below)) off))
      (cases_Bool (present e && not (huge e)))
    where
      e : ℕ
      e = E (q ++ i ∷ [])

  -- the mapping at a path, from the entries at its front parts
  pub mapping_by_entries : (i : ℕ) (path : List ℕ) → AllBelow (i ∷ path) → mapping_at L T root (i ∷ path) ≡ leaf_of L (i ∷ path) (entries_down E [] (i ∷ path))
  unfolding mapping_at leaf_of
  mapping_by_entries i path below = same_leaf L root (mapping_of L (i ∷ path)) [] i path (omega arith) below (λ j s. read_there T root j s reads.root_there ∙ ap Some (sym (reads.first j)))

pub mappings_are_leaves : MappingsAreLeaves
mappings_are_leaves L T root M window valid [] some below outside = absurd (some refl)
mappings_are_leaves L T root M window valid (i ∷ path) some below outside =
    mapping_by_entries L T root (entry_at window M) (reads L T root M window valid) i path below
    ∙ ap (leaf_of L (i ∷ path)) (
    ap₂ (λ e es. e ∷ es) (entry_outside window M i [] (first_alone window i path [] outside)) (down_outside window M i [] path (first_alone window i path [] outside))
    ∙ sym (fronts_down (entry M) [] i path)
    ∙ ap (map (entry M)) (map-id (parents (i ∷ path) ++ (i ∷ path) ∷ [])))
