-- Segments in order: a search finds the first that has a frame.
use Rattle.std.proofs.Common.{◌≡◌, ◌+◌, ◌-◌, ◌<◌, ◌≤◌, ◌&&◌, ◌⊎◌, inl, inr, ℕ, zero, suc, Bool, true, false, cond, nat_le, nat_lt, List, [], ◌∷◌, ◌++◌, length, get_or, take, drop, Some, None, refl, sym, ap, ap₂, ◌∙◌, arith}
use Rattle.std.specs.List.{find, list_all}
use Rattle.std.specs.List.Sorted.{IsNonDecreasingBy}
use Rattle.std.specs.Option.{option_map}
use Rattle.std.proofs.lemmas.Bool.{and_parts, leb-true, cases_Bool, le-ltb, and_right, true≢false}
use Rattle.std.proofs.lemmas.List.{take_more, take-append-drop}
use Rattle.std.proofs.lemmas.List.Folds.{list_all-append, list_all_at}
use Rattle.x86_64_tables.specs.FrameSegments.{has_number, place_in, segment_place, ends_below_limit, may_precede, have_other_places, are_in_order}
use Rattle.x86_64_tables.specs.declared.phys_memory.frame_segment.FrameSegment.{FrameSegment}

-- the parts of the order of a first segment and others
order_parts : (s : FrameSegment) (l : List FrameSegment) → are_in_order (s ∷ l) ≡ true
    → (ends_below_limit s ≡ true) × (list_all (may_precede s) l ≡ true) × (are_in_order l ≡ true)
order_parts s l order =
    let outer = and_parts (ends_below_limit s && list_all (may_precede s) l) (are_in_order l) order in
    let inner = and_parts (ends_below_limit s) (list_all (may_precede s) l) outer.0 in
    (inner.0, inner.1, outer.1)

-- a segment ends before each of those that it may precede
ends_first : (s : FrameSegment) (l : List FrameSegment) (j : ℕ) (d : FrameSegment) → list_all (may_precede s) l ≡ true → j < length l
    → s.first + s.count ≤ (get_or l j d).first
ends_first s l j d before below = by (cases_Bool (may_precede s (get_or l j d)))
  where
    by : (may_precede s (get_or l j d) ≡ true) ⊎ (may_precede s (get_or l j d) ≡ false) → s.first + s.count ≤ (get_or l j d).first
    by (inl h) = leb-true (s.first + s.count) (get_or l j d).first (and_parts (nat_le (s.first + s.count) (get_or l j d).first) (have_other_places s (get_or l j d)) h).0
    by (inr h) = absurd (true≢false (sym before ∙ list_all_at (may_precede s) l j d below h))

-- the segments begin in order
pub begin_in_order : (l : List FrameSegment) → are_in_order l ≡ true → IsNonDecreasingBy (λ s. s.first) l
begin_in_order [] order i j d up below = let never : ⊥ = omega (arith, below) in absurd never
begin_in_order (s ∷ l) order zero zero d up below = omega arith
begin_in_order (s ∷ l) order zero (suc j) d up below =
    let first = ends_first s l j d (order_parts s l order).1 (omega (arith, below)) in
    omega (arith, first)
begin_in_order (s ∷ l) order (suc i) zero d up below = let never : ⊥ = omega (arith, up) in absurd never
begin_in_order (s ∷ l) order (suc i) (suc j) d up below =
    begin_in_order l (order_parts s l order).2 i j d (omega (arith, up)) (omega (arith, below))

-- each segment ends below the limit
pub end_below_limit : (l : List FrameSegment) (i : ℕ) (d : FrameSegment) → are_in_order l ≡ true → i < length l → ends_below_limit (get_or l i d) ≡ true
end_below_limit [] i d order below = let never : ⊥ = omega (arith, below) in absurd never
end_below_limit (s ∷ l) zero d order below = (order_parts s l order).0
end_below_limit (s ∷ l) (suc i) d order below = end_below_limit l i d (order_parts s l order).2 (omega (arith, below))

-- no segment has the number of a frame before all of them
pub none_has : (x : ℕ) (l : List FrameSegment) → ((i : ℕ) (d : FrameSegment) → i < length l → nat_le (get_or l i d).first x ≡ false) → find (has_number x) l ≡ None
none_has x [] later = refl
none_has x (s ∷ l) later =
    ap (λ b. cond (b && nat_lt x (s.first + s.count)) (Some s) (find (has_number x) l)) (later 0 s (omega arith))
    ∙ none_has x l (λ i d below. later (suc i) d (omega (arith, below)))

-- only the last segment that doesn't begin after a frame may have it
pub last_has : (x : ℕ) (l : List FrameSegment) (m : ℕ) (d : FrameSegment) → are_in_order l ≡ true → m < length l → nat_le (get_or l m d).first x ≡ true
    → ((i : ℕ) (d : FrameSegment) → m < i → i < length l → nat_le (get_or l i d).first x ≡ false)
    → segment_place l x ≡ segment_place (get_or l m d ∷ []) x
last_has x [] m d order within begins later = let never : ⊥ = omega (arith, within) in absurd never
last_has x (s ∷ l) zero d order within begins later =
    ap (λ found. option_map (place_in x) (cond (has_number x s) (Some s) found))
    (none_has x l (λ i d below. later (suc i) d (omega arith) (omega (arith, below))))
last_has x (s ∷ l) (suc m) d order within begins later =
    let parts = order_parts s l order in
    let first = ends_first s l m d parts.1 (omega (arith, within)) in
    let begun = leb-true (get_or l m d).first x begins in
    let past : has_number x s ≡ false = and_right (nat_le s.first x) (nat_lt x (s.first + s.count)) (le-ltb x (s.first + s.count) (omega (arith, first, begun))) in
    ap (λ b. option_map (place_in x) (cond b (Some s) (find (has_number x) l))) past
    ∙ last_has x l m d parts.2 (omega (arith, within)) begins (λ i d low below. later (suc i) d (omega (arith, low)) (omega (arith, below)))

-- segments with one more
order_push : (l : List FrameSegment) (s : FrameSegment)
    → are_in_order (l ++ s ∷ []) ≡ (are_in_order l && (list_all (λ o. may_precede o s) l && ends_below_limit s))
order_push [] s = by (ends_below_limit s)
  where
    by : (e : Bool) → (e && true && true) ≡ (true && (true && e))
    by true = refl
    by false = refl
order_push (t ∷ l) s =
    ap₂ (λ p q. ends_below_limit t && p && q) (list_all-append (may_precede t) l (s ∷ [])) (order_push l s)
    ∙ by (ends_below_limit t) (list_all (may_precede t) l) (may_precede t s) (are_in_order l) (list_all (λ o. may_precede o s) l) (ends_below_limit s)
  where
    by : (e a p o b f : Bool) → (e && (a && (p && true)) && (o && (b && f))) ≡ ((e && a && o) && ((p && b) && f))
    by true true true o b f = refl
    by true true false true b f = refl
    by true true false false b f = refl
    by true false p o b f = refl
    by false a p o b f = refl

-- segments in order stay so with one more if it may follow them
pub next_in_order : (l : List FrameSegment) (i : ℕ) (d : FrameSegment) (follows : Bool) → i < length l → are_in_order (take i l) ≡ true
    → follows ≡ (list_all (λ o. may_precede o (get_or l i d)) (take i l) && ends_below_limit (get_or l i d)) → are_in_order (take (i + 1) l) ≡ follows
next_in_order l i d follows below before is =
    ap are_in_order (take_more l i d below) ∙ order_push (take i l) (get_or l i d) ∙ ap₂ (λ p q. p && q) before (sym is)

-- segments before others of segments in order are in order
order_front : (l m : List FrameSegment) → are_in_order (l ++ m) ≡ true → are_in_order l ≡ true
order_front [] m order = refl
order_front (s ∷ l) m order =
    let parts = order_parts s (l ++ m) order in
    let before = and_parts (list_all (may_precede s) l) (list_all (may_precede s) m) (sym (list_all-append (may_precede s) l m) ∙ parts.1) in
    ap₂ (λ p q. p && q) (ap₂ (λ p q. p && q) parts.0 before.0) (order_front l m parts.2)

pub order_wrong : (l : List FrameSegment) (i : ℕ) → are_in_order (take i l) ≡ false → are_in_order l ≡ false
order_wrong l i wrong = by (cases_Bool (are_in_order l))
  where
    by : (are_in_order l ≡ true) ⊎ (are_in_order l ≡ false) → are_in_order l ≡ false
    by (inl h) = absurd (true≢false (sym (order_front (take i l) (drop i l) (ap are_in_order (take-append-drop i l) ∙ h)) ∙ wrong))
    by (inr h) = h
