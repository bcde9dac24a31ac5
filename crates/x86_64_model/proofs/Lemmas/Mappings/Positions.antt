-- The mapping of the list that has a position is the one that is found, and all mappings follow one another.
use Rattle.std.proofs.Common.{zero, suc, ◌≡◌, ◌<◌, ◌+◌, ◌*◌, ◌/◌, ℕ, Bool, true, false, cond, List, [], ◌∷◌, find, Option, Some, None, option_and_then, option_map, refl, sym, ap, ◌∙◌, subst, arith}
use Rattle.std.proofs.Math.Nat.{add-mul, div-eq_of_lt}
use Rattle.x86_64_model.specs.Entry.{present, huge, address}
use Rattle.x86_64_model.specs.Memory.{Words}
use Rattle.x86_64_model.specs.PageWalk.{read}
use Rattle.x86_64_model.specs.Position.{index, span, position_count}
use Rattle.x86_64_model.specs.Path.{indices}
use Rattle.x86_64_model.specs.Mappings.{Rights, Mapping, maps_page, has_position, mappings_of, every_right, granted}
use Rattle.x86_64_model.specs.private.Found.{page_from, page_at, found_on, found}
use Rattle.x86_64_model.specs.Laws.Mappings.{MappingsAreApart, WalksArriveInMappings, arrival_in}
use Rattle.x86_64_model.proofs.Lemmas.Paths.Pages.{span_pos}
use Rattle.x86_64_model.proofs.Lemmas.Walks.Walked.{index_small}
use Rattle.x86_64_model.proofs.Lemmas.Mappings.Chains.{IsChain, chain_wider, chain_parts, find_part, in_order, has_from}
use Rattle.x86_64_model.proofs.Lemmas.Mappings.Found.{found_by}
use Rattle.x86_64_model.proofs.Lemmas.Mappings.Listed.{listed_by, list_and_then, listed_on, mappings_listed}
use Rattle.x86_64_model.proofs.Lemmas.Mappings.SpanEnds.{span-next, count-next, next_span, span_from, span_end_after}
use Rattle.x86_64_model.proofs.Lemmas.Mappings.Walked.{walk_finds}

-- ---- one after another

next_end : (s k w : ℕ) → s + (k + 1) * w ≡ s + k * w + w
next_end s k w = let sum = add-mul k 1 w in omega (arith, sum)

by_chain : (start level : ℕ) (r : Rights) (e : ℕ) (below : List Mapping) → IsChain start (start + span level) below → IsChain start (start + span level) (listed_by start level r e below)
by_chain start level r e below on = by (present e) (maps_page level e) (huge e)
  where
    by : (b m h : Bool) → IsChain start (start + span level) (cond b (cond m (page_from start level r e ∷ []) (cond h [] below)) [])
    by true true h = (omega arith, span_pos level, omega arith)
    by true false true = omega arith
    by true false false = on
    by false m h = omega arith

-- the mappings by the word at an index of a table whose span starts at a position
abbrev part_at : Words → (n start : ℕ) → Rights → (frame i : ℕ) → List Mapping
part_at T n s r f i = let start = s + i * span (suc n) in
    list_and_then (λ e. listed_by start (suc n) r e (listed_on T n start (granted r e) (address e))) (read T f i)

-- each part is in the span of its entry, if those of the tables below are in theirs
part_chain : (T : Words) (n s : ℕ) (r : Rights) (f i : ℕ) → ((s : ℕ) (r : Rights) (f : ℕ) → IsChain s (s + position_count n) (listed_on T n s r f))
    → IsChain (s + i * span (suc n)) (s + (i + 1) * span (suc n)) (part_at T n s r f i)
part_chain T n s r f i below = subst (λ end. IsChain start end (part_at T n s r f i)) (sym (next_end s i (span (suc n)))) (by (read T f i))
  where
    start : ℕ
    start = s + i * span (suc n)

    by : (o : Option ℕ) → IsChain start (start + span (suc n)) (list_and_then (λ e. listed_by start (suc n) r e (listed_on T n start (granted r e) (address e))) o)
    by None = omega arith
    by (Some e) = by_chain start (suc n) r e _ (subst (λ size. IsChain start (start + size) (listed_on T n start (granted r e) (address e))) (sym (span-next n)) (below start (granted r e) (address e)))

pub chain_on : (T : Words) (n s : ℕ) (r : Rights) (f : ℕ) → IsChain s (s + position_count n) (listed_on T n s r f)
unfolding indices
chain_on T zero s r f = omega arith
chain_on T (suc n) s r f = let w = span (suc n) in
    chain_wider s (s + 0 * w) (s + (0 + 512) * w) (s + position_count (suc n)) _ (omega arith)
    (let a = span-next n in let b = count-next n in omega (arith, a, b))
    (chain_parts (part_at T n s r f) s w (λ i. part_chain T n s r f i (chain_on T n)) 512 0)

pub mappings_chain : (L : ℕ) (T : Words) (root : ℕ) → IsChain 0 (position_count L) (mappings_of L T root)
mappings_chain L T root = subst (IsChain 0 (position_count L)) (sym (mappings_listed L T root)) (subst (λ z. IsChain 0 z (listed_on T L 0 every_right root)) (let e : 0 + position_count L ≡ position_count L = omega arith in e) (chain_on T L 0 every_right root))

pub mappings_are_apart : MappingsAreApart
mappings_are_apart L T root = in_order 0 (position_count L) (mappings_of L T root) (mappings_chain L T root)

-- ---- found

find_by : (p level : ℕ) (r : Rights) (e : ℕ) (below : List Mapping) (o : Option Mapping) → find (has_position p) below ≡ o
    → find (has_position p) (listed_by (p / span level * span level) level r e below) ≡ found_by p level r e o
find_by p level r e below o on = by (present e) (maps_page level e) (huge e)
  where
    by : (b m h : Bool) → find (has_position p) (cond b (cond m (page_from (p / span level * span level) level r e ∷ []) (cond h [] below)) [])
        ≡ cond b (cond m (Some (page_at p level r e)) (cond h None o)) None
    by true true h = ap (λ t. cond t (Some (page_at p level r e)) None) (has_from p (page_at p level r e) (span_from level p) (span_end_after level p))
    by true false true = refl
    by true false false = on
    by false m h = refl

pub find_on : (T : Words) (p n : ℕ) (r : Rights) (f : ℕ) → find (has_position p) (listed_on T n (p / position_count n * position_count n) r f) ≡ found_on T p n r f
unfolding indices found_on
find_on T p zero r f = refl
find_on T p (suc n) r f =
    let w = span (suc n) in let k = index (suc n) p in let s = p / position_count (suc n) * position_count (suc n) in
    let at = next_span n p in let low = span_from (suc n) p in let high = span_end_after (suc n) p in let more = next_end s k w in
    find_part (part_at T n s r f) s w (λ i. part_chain T n s r f i (chain_on T n))
    p k 512 0 (omega arith) (let small = index_small (suc n) p in omega (arith, small)) (omega (arith, at, low)) (omega (arith, at, high, more))
    ∙ ap (λ start. find (has_position p) (list_and_then (λ e. listed_by start (suc n) r e (listed_on T n start (granted r e) (address e))) (read T f k))) at
    ∙ by (read T f k) (λ e. ap (λ m. find (has_position p) (listed_on T n (p / m * m) (granted r e) (address e))) (span-next n) ∙ find_on T p n (granted r e) (address e))
  where
    by : (o : Option ℕ) → ((e : ℕ) → find (has_position p) (listed_on T n (p / span (suc n) * span (suc n)) (granted r e) (address e)) ≡ found_on T p n (granted r e) (address e))
        → find (has_position p) (list_and_then (λ e. listed_by (p / span (suc n) * span (suc n)) (suc n) r e (listed_on T n (p / span (suc n) * span (suc n)) (granted r e) (address e))) o)
        ≡ option_and_then (λ e. found_by p (suc n) r e (found_on T p n (granted r e) (address e))) o
    by None on = refl
    by (Some e) on = find_by p (suc n) r e _ _ (on e)

pub find_found : (L : ℕ) (T : Words) (root p : ℕ) → p < position_count L → find (has_position p) (mappings_of L T root) ≡ found L T root p
unfolding found
find_found L T root p inside =
    ap (find (has_position p)) (mappings_listed L T root)
    ∙ ap (λ s. find (has_position p) (listed_on T L s every_right root)) (sym (ap (λ z. z * position_count L) (div-eq_of_lt inside) ∙ (let z : 0 * position_count L ≡ 0 = omega arith in z)))
    ∙ find_on T p L every_right root

pub walks_arrive : WalksArriveInMappings
walks_arrive L T root p inside = walk_finds L T root p ∙ ap (option_map (arrival_in p)) (sym (find_found L T root p inside))
