-- The words of the walk to each position of a mapping are those of its leaf.
use Rattle.std.proofs.Common.{zero, suc, ◌≡◌, ◌&&◌, not, inl, inr, ⊎_elim, ◌<◌, ◌≤◌, ◌+◌, ◌-◌, ℕ, Bool, true, false, cond, List, [], ◌∷◌, ◌++◌, length, take, Option, Some, None, filter_map, option_map, option_and_then, refl, sym, ap, ◌∙◌, subst, arith}
use Rattle.std.specs.List.{cons_option}
use Rattle.std.proofs.Math.Seq.{take-append_seam}
use Rattle.std.proofs.lemmas.Bool.{and_parts}
use Rattle.x86_64_model.specs.Entry.{present, huge, address}
use Rattle.x86_64_model.specs.Lists.{In}
use Rattle.x86_64_model.specs.Memory.{Words}
use Rattle.x86_64_model.specs.PageWalk.{read}
use Rattle.x86_64_model.specs.Position.{page_path}
use Rattle.x86_64_model.specs.Path.{AllBelow, indices, paths_below, level_of, path_at, span_start, span_size}
use Rattle.x86_64_model.specs.Mappings.{Mapping, words_along, maps_page, is_leaf, mapping_of, leaf_of, mapping_at, mappings_of}
use Rattle.x86_64_model.specs.Laws.Mappings.{WordsOfWalksSayMappings}
use Rattle.x86_64_model.proofs.Lemmas.Lists.Members.{from_flat_map, in_append}
use Rattle.x86_64_model.proofs.Lemmas.Paths.Begins.{from_begins, all_below_more}
use Rattle.x86_64_model.proofs.Lemmas.Paths.Ranges.{range_below}
use Rattle.x86_64_model.proofs.Lemmas.Paths.Spans.{spans_are_intervals}
use Rattle.x86_64_model.proofs.Lemmas.Paths.Starts.{span_inside}
use Rattle.x86_64_model.proofs.Lemmas.Walks.Walked.{one_more}
use Rattle.x86_64_model.proofs.Lemmas.Mappings.Chains.{has_parts}
use Rattle.x86_64_model.proofs.Lemmas.Mappings.Found.{page_level}

pub from_filter_map : {X Y : Type 0} (h : X → Option Y) (xs : List X) (y : Y) → In (filter_map h xs) y → (x : X) × In xs x × (h x ≡ Some y)
from_filter_map h [] y i = absurd i
from_filter_map {X} h (x ∷ xs) y i = elim (h x) as (λ o. h x ≡ o → In (cons_option o (filter_map h xs)) y → (z : X) × In (x ∷ xs) z × (h z ≡ Some y)) [
  | None ↦ λ e i. let more = from_filter_map h xs y i in (more.0, inr more.1, more.2)
  | Some z ↦ λ e. ⊎_elim (λ is. (x, inl refl, e ∙ ap Some is)) (λ i. let more = from_filter_map h xs y i in (more.0, inr more.1, more.2))
] refl i

-- all paths below q are longer, of at most n more indices
pub below_is : (n : ℕ) (q p : List ℕ) → AllBelow q → In (paths_below n q) p → (length q < length p) × (length p ≤ length q + n) × AllBelow p
unfolding paths_below indices
below_is zero q p below h = absurd h
below_is (suc n) q p below h =
    let at = from_flat_map (λ i. paths_below n (q ++ i ∷ []) ++ (q ++ i ∷ []) ∷ []) indices p h in let i = at.0 in
    let small : i < 0 + 512 = range_below 512 0 i at.1 in
    let next : AllBelow (q ++ i ∷ []) = all_below_more q i below (omega (arith, small)) in
    let long = one_more q i in
    ⊎_elim
    (λ h. let more = below_is n (q ++ i ∷ []) p next h in (omega (arith, long, more.0), omega (arith, long, more.1), more.2))
    (⊎_elim
    (λ e. subst (λ p. (length q < length p) × (length p ≤ length q + suc n) × AllBelow p) e (omega (arith, long), omega (arith, long), next))
    (λ h. absurd h))
    (in_append (paths_below n (q ++ i ∷ [])) ((q ++ i ∷ []) ∷ []) p at.2)

-- the words of a path that has a mapping
pub mapping_words : (L : ℕ) (T : Words) (root : ℕ) (q : List ℕ) (m : Mapping) → mapping_at L T root q ≡ Some m → (words : List ℕ) × (words_along T root q ≡ Some words) × (leaf_of L q words ≡ Some m)
unfolding mapping_at
mapping_words L T root q m is = by (words_along T root q) refl is
  where
    by : (o : Option (List ℕ)) → words_along T root q ≡ o → option_and_then (leaf_of L q) o ≡ Some m → (words : List ℕ) × (words_along T root q ≡ Some words) × (leaf_of L q words ≡ Some m)
    by None e is = absurd (let t : None ≡ Some m = is in cc)
    by (Some words) e is = (words, e, is)

pub leaf_is : (L : ℕ) (q words : List ℕ) (m : Mapping) → leaf_of L q words ≡ Some m → (is_leaf L words ≡ true) × (mapping_of L q words ≡ m)
unfolding leaf_of
leaf_is L q words m is = by (is_leaf L words) is
  where
    by : (b : Bool) → cond b (Some (mapping_of L q words)) None ≡ Some m → (b ≡ true) × (mapping_of L q words ≡ m)
    by true is = (refl, let t : Some (mapping_of L q words) ≡ Some m = is in cc)
    by false is = absurd (let t : None ≡ Some m = is in cc)

-- ---- the level of a leaf

words_many : (T : Words) (f : ℕ) (q words : List ℕ) → words_along T f q ≡ Some words → length words ≡ length q
unfolding words_along
words_many T f [] words is = ap length (let same : words ≡ [] = (let s : Some [] ≡ Some words = is in cc) in same)
words_many T f (i ∷ q) words is = by (read T f i) (λ e. words_many T (address e) q) is
  where
    each : (e : ℕ) (o : Option (List ℕ)) → ((ws : List ℕ) → o ≡ Some ws → length ws ≡ length q) → option_map (λ below. e ∷ below) o ≡ Some words → length words ≡ suc (length q)
    each e None on is = absurd (let t : None ≡ Some words = is in cc)
    each e (Some ws) on is = ap length (let same : words ≡ e ∷ ws = (let s : Some (e ∷ ws) ≡ Some words = is in cc) in same) ∙ ap suc (on ws refl)

    by : (o : Option ℕ) → ((e : ℕ) (ws : List ℕ) → words_along T (address e) q ≡ Some ws → length ws ≡ length q)
        → option_and_then (λ e. option_map (λ below. e ∷ below) (words_along T (address e) q)) o ≡ Some words → length words ≡ suc (length q)
    by None on is = absurd (let t : None ≡ Some words = is in cc)
    by (Some e) on is = each e (words_along T (address e) q) (on e) is

leaf_level : (level : ℕ) (words : List ℕ) → is_leaf level words ≡ true → level ≤ length words + 2
unfolding is_leaf
leaf_level level [] is = absurd (let t : false ≡ true = is in cc)
leaf_level zero (e ∷ []) is = omega arith
leaf_level (suc n) (e ∷ []) is = let l = page_level n e (and_parts (present e) (maps_page (suc n) e) is).1 in omega (arith, l)
leaf_level level (e ∷ f ∷ words) is = let l = leaf_level (level - 1) (f ∷ words) (and_parts (present e && not (huge e)) (is_leaf (level - 1) (f ∷ words)) is).1 in omega (arith, l)

-- the path of a mapping is that of each of its positions, as far as it goes
pub path_of_mapping : (L : ℕ) (q : List ℕ) (p : ℕ) → 1 ≤ length q → length q ≤ L → AllBelow q → span_start L q ≤ p → p < span_start L q + span_size L q → path_at L (level_of L q) p ≡ q
path_of_mapping L q p some most below from to =
    let all = span_inside L q most below in
    let begins_so = (spans_are_intervals L q p some most below (omega (arith, all, to))).1 (from, to) in
    let more = from_begins q (page_path L p) begins_so in
    ap (λ n. take n (page_path L p)) (let e : L + 1 - level_of L q ≡ length q = omega (arith, most) in e) ∙ ap (take (length q)) more.1 ∙ take-append_seam q more.0

pub words_say : WordsOfWalksSayMappings
unfolding mappings_of
words_say L T root m i p has =
    let at = from_filter_map (mapping_at L T root) (paths_below L []) m i in let q = at.0 in
    let path = below_is L [] q tt at.1 in
    let its = mapping_words L T root q m at.2 in
    let is = leaf_is L q its.0 m its.2 in
    let parts = has_parts p m has in
    let start : span_start L q ≡ m.start = ap (λ m. m.start) is.1 in
    let size : span_size L q ≡ m.size = ap (λ m. m.size) is.1 in
    let high = leaf_level L its.0 is.0 in let many = words_many T root q its.0 its.1 in
    let same : path_at L (level_of L q) p ≡ q = path_of_mapping L q p (omega (arith, path.0)) (omega (arith, path.1)) path.2 (omega (arith, start, parts.0)) (omega (arith, start, size, parts.1)) in (
      level_of L q,
      its.0,
      record {
        low = omega (arith, path.1);
        high = omega (arith, path.0, high, many);
        size = sym size;
        walk = ap (words_along T root) same ∙ its.1;
        leaf = ap (λ q. leaf_of L q its.0) same ∙ its.2;
      },
    )
