-- The tests of ranges of pages, which look at the first and the last page alone.
use Rattle.std.proofs.Common.{◌≡◌, ◌⊎◌, inl, inr, ◌<◌, ◌≤◌, ◌+◌, ◌-◌, ◌*◌, ◌/◌, ◌%◌, ◌^◌, ◌↔◌, ◌==◌, ◌&&◌, ◌||◌, ℕ, Bool, true, false, not, List, Option, Some, option_map, refl, sym, ap, ◌∙◌, subst, arith, lt-ltb, eq-eqb, eqb-true, nat_lt, IsTrue}
use Rattle.std.proofs.Math.Nat.{mod-eq_of_lt, mul-div_left, mul-mod_right, mul-le-mul_right, le_of_mul-le-mul_right, add-mul, div-lt_iff_lt-mul, le-div_iff_mul-le, div-mul-le_self, add-mul-mod_self_right}
use Rattle.std.proofs.lemmas.Bool.{and_from, and_parts, cases_lt, ltb-true, true≢false}
use Rattle.std.proofs.lemmas.Nat.{div-add-mod', pow-add}
use Rattle.x86_64_model.specs.Allowed.{parents_present}
use Rattle.x86_64_model.specs.Entry.{present}
use Rattle.x86_64_model.specs.Hierarchy.{Hierarchy, path_of, paths}
use Rattle.x86_64_model.specs.Path.{is_small, path_at}
use Rattle.x86_64_model.specs.PathMap.{PathMap}
use Rattle.x86_64_model.specs.Position.{index, position_count, span}
use Rattle.x86_64_model.specs.Window.{Window, begins_with}
use Rattle.x86_64_model.proofs.Lemmas.Machines.Effects.{map_may}
use Rattle.x86_64_model.proofs.Lemmas.Paths.Pages.{length_taken, span_pos, span_up}
use Rattle.x86_64_mappers.specs.RangeChanges.{IsRange}
use Rattle.x86_64_mappers.specs.Ranges.{MapRange, MayMapRange, range_page}
use Rattle.x86_64_mappers.specs.private.MapConditions.{AreOutside, flags_allowed}
use Rattle.x86_64_mappers.proofs.Way.FirstIndex.{first_index, is_index}
use Rattle.x86_64_mappers.proofs.Way.Pages.{small_page}

-- ---- the first index of a page

-- it grows with the position
index_is : (L p : ℕ) → 0 < L → p < position_count L → index L p ≡ p / span L
unfolding index
index_is L p some low = mod-eq_of_lt ((div-lt_iff_lt-mul {k = span L} {x = p} {y = 512} (span_pos L)).1 (subst (λ n. p < n) count low))
  where
    count : position_count L ≡ 512 * span L
    count = ap (λ n. 2 ^ n) (let e : 12 + 9 * L ≡ 9 + (12 + 9 * (L - 1)) = omega (arith, some) in e) ∙ pow-add 2 9 (12 + 9 * (L - 1))

div_up : (a b s : ℕ) → 0 < s → a ≤ b → a / s ≤ b / s
div_up a b s some le = (le-div_iff_mul-le {k = s} {x = a / s} {y = b} some).1 (let below = div-mul-le_self a s in omega (arith, below, le))

-- a page of the highest level's index is a multiple of each page size
index_start : (L level r : ℕ) → 1 ≤ level → level ≤ L → r * span L % span level ≡ 0
index_start L level r low high = ap (λ n. n % span level) (ap (λ s. r * s) (span_up level L low high) ∙ (let e : r * (span level * 2 ^ (9 * (L - level))) ≡ span level * (r * 2 ^ (9 * (L - level))) = omega arith in e))
    ∙ mul-mod_right (span level) (r * 2 ^ (9 * (L - level)))

-- ---- pages outside the recursive index

module _ (window : Option Window) (L level : ℕ) (low : 1 ≤ level) (high : level ≤ 3) (levels : 3 < L) where
  begins_is : (p : ℕ) → begins_with window (path_at L level p) ≡ is_index (option_map (λ w. w.index) window) (index L p)
  begins_is p = first_index window L level p levels high

  module _ (r first last : ℕ) (some : option_map (λ w. w.index) window ≡ Some r) (there : last < position_count L) (ordered : first ≤ last) where
    above : 0 < L
    above = omega (arith, levels)

    begins_with_index : (p : ℕ) → begins_with window (path_at L level p) ≡ (index L p == r)
    begins_with_index p = begins_is p ∙ ap (λ o. is_index o (index L p)) some

    at : (p : ℕ) → p ≤ last → index L p ≡ p / span L
    at p to = index_is L p above (omega (arith, to, there))

    -- pages in between are outside if the index is below that of the first or above that of the last
    apart_outside : (r < index L first) ⊎ (index L last < r) → (p : ℕ) → first ≤ p → p ≤ last → begins_with window (path_at L level p) ≡ false
    apart_outside apart p from to = begins_with_index p ∙ differs (index L p == r) refl
      where
        differs : (b : Bool) → (index L p == r) ≡ b → (index L p == r) ≡ false
        differs false is = is
        differs true is =
            let same : index L p ≡ r = eqb-true _ _ is in
            let here = at p to in let start = at first ordered in let end = at last (omega arith) in
            let up = div_up p last (span L) (span_pos L) to in let down = div_up first p (span L) (span_pos L) from in
            absurd (elim apart [ inl below ↦ omega (arith, below, same, here, start, down) | inr above ↦ omega (arith, above, same, here, end, up) ])

    -- pages of the level in between are outside only then
    outside_apart : first % span level ≡ 0 → ((p : ℕ) → first ≤ p → p ≤ last → p % span level ≡ 0 → begins_with window (path_at L level p) ≡ false) → (r < index L first) ⊎ (index L last < r)
    outside_apart aligned outside = elim (cases_lt r (index L first)) [
      | inl below ↦ inl below
      | inr not_below ↦ elim (cases_lt (index L last) r) [
        | inl above ↦ inr above
        | inr not_above ↦ absurd (meets not_below not_above)
      ]
    ]
      where
        meets : index L first ≤ r → r ≤ index L last → ⊥
        meets from to =
            let start = at first ordered in let end = at last (omega arith) in
            elim (cases_lt (index L first) r) [
              | inl later ↦
                  let p : ℕ = r * span L in
                  let inside : p ≤ last = (le-div_iff_mul-le {k = span L} {x = r} {y = last} (span_pos L)).0 (omega (arith, to, end)) in
                  let here : index L p ≡ r = at p inside ∙ mul-div_left r (span_pos L) in
                  let after : first ≤ p = (let before = (div-lt_iff_lt-mul {k = span L} {x = first} {y = r} (span_pos L)).0 (omega (arith, later, start)) in omega (arith, before)) in
                  let none = outside p after inside (index_start L level r low (omega (arith, high, levels))) in
                  true≢false (sym (begins_with_index p ∙ eq-eqb _ _ here) ∙ none)
              | inr not_later ↦
                  let here : index L first ≡ r = omega (arith, from, not_later) in
                  true≢false (sym (begins_with_index first ∙ eq-eqb _ _ here) ∙ outside first (omega arith) ordered aligned)
            ]

    either : (b c : Bool) → (b || c) ≡ true → (b ≡ true) ⊎ (c ≡ true)
    either true c h = inl refl
    either false c h = inr h

    either_true : (b c : Bool) → (b ≡ true) ⊎ (c ≡ true) → (b || c) ≡ true
    either_true true c h = refl
    either_true false c (inl h) = cc
    either_true false c (inr h) = h

    -- the test of the indices of two pages
    pub outside_tested : first % span level ≡ 0 → (i j : ℕ) → i ≡ index L first → j ≡ index L last
        → IsTrue (nat_lt r i || nat_lt j r) ↔ ((p : ℕ) → first ≤ p → p ≤ last → p % span level ≡ 0 → begins_with window (path_at L level p) ≡ false)
    outside_tested aligned i j is_first is_last = (
      λ test p from to multiple. apart_outside (elim (either (nat_lt r i) (nat_lt j r) test) [
        | inl below ↦ inl (subst (λ i. r < i) is_first (ltb-true r i below))
        | inr above ↦ inr (subst (λ j. j < r) is_last (ltb-true j r above))
      ]) p from to,
      λ outside. either_true (nat_lt r i) (nat_lt j r) (elim (outside_apart aligned outside) [
        | inl below ↦ inl (lt-ltb r i (subst (λ i. r < i) (sym is_first) below))
        | inr above ↦ inr (lt-ltb j r (subst (λ j. j < r) (sym is_last) above))
      ]),
    )

-- ---- ranges

-- places up to the last one
before_last : (a s k count : ℕ) → k < count → a + k * s ≤ a + (count - 1) * s
before_last a s k count less = let up = mul-le-mul_right s (let le : k ≤ count - 1 = omega (arith, less) in le) in omega (arith, up)

-- a later multiple is a number of sizes above
number_above : (a p s : ℕ) → 0 < s → a % s ≡ 0 → p % s ≡ 0 → a ≤ p → p ≡ a + (p / s - a / s) * s
number_above a p s some first last le =
    let up = div_up a p s some le in
    let of_a = div-add-mod' a s in let of_p = div-add-mod' p s in
    let parted = add-mul (a / s) (p / s - a / s) s in
    let sum : a / s + (p / s - a / s) ≡ p / s = omega (arith, up) in
    let whole = ap (λ n. n * s) sum in
    omega (arith, of_a, of_p, first, last, parted, whole)

module _ {Lent : Type 0} (h : Hierarchy Lent) (level page : ℕ) (aligned : page % span level ≡ 0) (count : ℕ) (some : 0 < count) where
  abbrev last : ℕ
  last = page + (count - 1) * span level

  -- the pages of a range are outside if its last page exists and all pages up to it are
  pub range_from : last < position_count h.layout.levels → AreOutside h level page last → IsRange h level page count
  range_from there outside = record {
    there = λ k less. let up = before_last page (span level) k count less in omega (arith, up, there);
    outside = λ k less. outside (page + k * span level) (omega arith) (before_last page (span level) k count less) (add-mul-mod_self_right page k (span level) ∙ aligned);
  }

  pub outside_from : IsRange h level page count → AreOutside h level page last
  outside_from range p from to multiple =
      let k : ℕ = p / span level - page / span level in
      let here = number_above page p (span level) (span_pos level) aligned multiple from in
      let few = le_of_mul-le-mul_right {m = k} {n = count - 1} {k = span level} (omega (arith, here, to)) (span_pos level) in
      subst (λ p. begins_with h.layout.window (path_of h level p) ≡ false) (sym here) (range.outside k (omega (arith, few, some)))

-- ---- maps of ranges, with PRESENT among the parent flags

will_be_present : (M : PathMap) (more : ℕ) (q : List ℕ) → present more ≡ true → parents_present M more q ≡ true
will_be_present M more q is = or_true (present more) _ is
  where
    or_true : (a b : Bool) → a ≡ true → (a || b) ≡ true
    or_true true b h = refl
    or_true false b h = cc

module _ {Lent : Type 0} (h : Hierarchy Lent) (r : MapRange) (low : 1 ≤ r.level) (high : r.level ≤ 3) (levels : 3 < h.layout.levels) (is_present : present r.parent_flags ≡ true) (count : ℕ) (some : 0 < count) where
  small : (k : ℕ) → is_small h.layout.levels (path_of h r.level (range_page r k)) ≡ (r.level == 1)
  small k = small_page h.layout.levels r.level (path_of h r.level (range_page r k))
      (let size = length_taken (range_page r k) (h.layout.levels + 1 - r.level) h.layout.levels (omega (arith, low)) in omega (arith, size, high, levels))

  -- the test of all maps
  pub map_range_tested : (exist pages flags : Bool) → (IsTrue exist ↔ (r.frame + (count - 1) * span r.level < 2 ^ 52)) → (IsTrue pages ↔ IsRange h r.level r.page count) → flags ≡ flags_allowed (r.level == 1) r.flags r.parent_flags
      → IsTrue (exist && pages && flags) ↔ (present r.parent_flags ≡ true) × MayMapRange h r count
  map_range_tested exist pages flags frames_test pages_test flags_test = (
    λ test.
        let both = and_parts (exist && pages) flags test in
        let two = and_parts exist pages both.0 in
        let range = pages_test.0 two.1 in (
          is_present,
          record {
            pages = range.there;
            frames = λ k less. let up = before_last r.frame (span r.level) k count less in let end = frames_test.0 two.0 in omega (arith, up, end);
            allowed = λ k less. and_from _ _ (and_from _ _ (ap (λ s. flags_allowed s r.flags r.parent_flags) (small k) ∙ sym flags_test ∙ both.1) (will_be_present (paths h) r.parent_flags (path_of h r.level (range_page r k)) is_present))
                (ap not (range.outside k less));
          },
        ),
    λ may.
        let outside = λ (k : ℕ) (less : k < count). (map_may h.layout.levels h.layout.window (paths h) (path_of h r.level (range_page r k)) r.flags r.parent_flags (may.1.allowed k less)).outside in
        let first = (and_parts _ _ (and_parts _ _ (may.1.allowed 0 some)).0).0 in
        and_from _ _ (and_from _ _ (frames_test.1 (may.1.frames (count - 1) (omega (arith, some)))) (pages_test.1 (record { there = may.1.pages; outside = outside })))
        (flags_test ∙ ap (λ s. flags_allowed s r.flags r.parent_flags) (sym (small 0)) ∙ first),
  )
