-- The tables on the paths to the pages of segments, and the number of these.
use Rattle.std.proofs.Common.{zero, suc, ◌≡◌, ◌<◌, ◌≤◌, ◌+◌, ◌-◌, ◌*◌, ◌/◌, ◌%◌, ◌++◌, ◌==◌, ℕ, Bool, true, false, cond, List, [], length, map, take, flat_map, refl, sym, ap, ◌∙◌, subst, arith, eqb-true, pow_pos}
use Rattle.std.proofs.Math.Nat.{div-add-mod, div-mul-le_self, mod-lt, mul_comm}
use Rattle.std.proofs.lemmas.Nat.{le-div}
use Rattle.std.proofs.lemmas.List.{length-append}
use Rattle.std.proofs.lemmas.List.Concat.{length-flat_map}
use Rattle.std.proofs.lemmas.List.FromFn.{length-map-range_with_len}
use Rattle.std.specs.List.{AllByRecursion, range_with_len, sum_by}
use Rattle.x86_64_model.specs.Lists.{In}
use Rattle.x86_64_model.specs.Path.{parents, path_at}
use Rattle.x86_64_model.specs.Position.{page_path, span}
use Rattle.x86_64_model.proofs.Lemmas.Lists.Members.{in_left, in_map, in_range, in_right}
use Rattle.x86_64_model.proofs.Lemmas.Paths.Pages.{front_in_page, length_taken}
use Rattle.x86_64_loader.specs.Segments.{entries_of, frames_for, table_estimate}
use Rattle.x86_64_loader.specs.declared.segment.Segment.{Segment}

-- the paths of the entries of a level on the paths to a segment's pages
abbrev tables_at : (level : ℕ) → Segment → List (List ℕ)
tables_at level s = map (λ j. path_at 4 level ((s.page / span level + j) * span level)) (range_with_len 0 (entries_of s level))

-- those of all levels above level one
abbrev pub tables_in : Segment → List (List ℕ)
tables_in s = cond (s.pages == 0) [] (tables_at 4 s ++ (tables_at 3 s ++ tables_at 2 s))

-- their number is the one counted
pub tables_counted : (segments : List Segment) → length (flat_map tables_in segments) ≡ frames_for segments
tables_counted segments = length-flat_map tables_in segments ∙ (λ i. sum_by (λ s. counted s i) segments)
  where
    long : (level : ℕ) (s : Segment) → length (tables_at level s) ≡ entries_of s level
    long level s = length-map-range_with_len (λ j. path_at 4 level ((s.page / span level + j) * span level)) 0 (entries_of s level)

    counted : (s : Segment) → length (tables_in s) ≡ table_estimate s
    counted s = by (s.pages == 0)
      where
        by : (b : Bool) → length (cond b [] (tables_at 4 s ++ (tables_at 3 s ++ tables_at 2 s))) ≡ cond b 0 (entries_of s 4 + entries_of s 3 + entries_of s 2)
        by true = refl
        by false =
            let one = length-append (tables_at 4 s) (tables_at 3 s ++ tables_at 2 s) in
            let two = length-append (tables_at 3 s) (tables_at 2 s) in
            let a = long 4 s in let b = long 3 s in let c = long 2 s in
            one ∙ ap (λ n. length (tables_at 4 s) + n) two ∙ (let e : length (tables_at 4 s) + (length (tables_at 3 s) + length (tables_at 2 s)) ≡ entries_of s 4 + entries_of s 3 + entries_of s 2 = omega (arith, a, b, c) in e)

div-le-div : (level m n : ℕ) → m ≤ n → m / span level ≤ n / span level
div-le-div level m n le = le-div (m / span level) n (span level) (pow_pos (12 + 9 * (level - 1))) (let low = div-mul-le_self m (span level) in omega (arith, low, le))

-- the path of an entry is that of the first position that it spans
same_path : (level p : ℕ) → 1 ≤ level → level ≤ 4 → path_at 4 level (p / span level * span level) ≡ path_at 4 level p
same_path level p low high =
    let n = p / span level in
    let whole : n * span level + p % span level ≡ p = ap (λ m. m + p % span level) (mul_comm n (span level)) ∙ div-add-mod p (span level) in
    sym (front_in_page 4 level n (p % span level) low high (mod-lt p (pow_pos (12 + 9 * (level - 1)))))
    ∙ ap (λ k. take k (page_path 4 (n * span level + p % span level))) (length_taken (n * span level) (4 + 1 - level) 4 (omega (arith, low)))
    ∙ ap (path_at 4 level) whole

module _ (s : Segment) (p : ℕ) (from : s.page ≤ p) (to : p ≤ s.page + (s.pages - 1) * 0x1000) where
  is_at : (level : ℕ) → 1 ≤ level → level ≤ 4 → In (tables_at level s) (path_at 4 level p)
  is_at level low high =
      let first = s.page / span level in
      let up : first ≤ p / span level = div-le-div level s.page p from in
      let down : p / span level ≤ (s.page + (s.pages - 1) * 0x1000) / span level = div-le-div level p (s.page + (s.pages - 1) * 0x1000) to in
      let j : ℕ = p / span level - first in
      let here : first + (0 + j) ≡ p / span level = omega (arith, up) in
      subst (λ q. In (tables_at level s) q) (ap (λ n. path_at 4 level (n * span level)) here ∙ same_path level p low high)
      (in_map (λ j. path_at 4 level ((first + j) * span level)) (range_with_len 0 (entries_of s level)) (0 + j) (in_range (entries_of s level) 0 j (omega (arith, up, down))))

  some_tables : 0 < s.pages → (q : List ℕ) → In (tables_at 4 s ++ (tables_at 3 s ++ tables_at 2 s)) q → In (tables_in s) q
  some_tables some q = by (s.pages == 0) refl
    where
      by : (b : Bool) → (s.pages == 0) ≡ b → In (tables_at 4 s ++ (tables_at 3 s ++ tables_at 2 s)) q → In (cond b [] (tables_at 4 s ++ (tables_at 3 s ++ tables_at 2 s))) q
      by true none = let is : s.pages ≡ 0 = eqb-true s.pages 0 none in absurd (omega (arith, is, some))
      by false none = λ i. i

  -- the parents of a page that starts there are among them
  pub parents_in : 0 < s.pages → (level : ℕ) → 1 ≤ level → level ≤ 2 → AllByRecursion (In (tables_in s)) (parents (path_at 4 level p))
  unfolding page_path
  parents_in some zero low high = absurd (omega (arith, low))
  parents_in some (suc zero) low high = (
    some_tables some (path_at 4 4 p) (in_left (tables_at 4 s) (tables_at 3 s ++ tables_at 2 s) (path_at 4 4 p) (is_at 4 (omega arith) (omega arith))),
    (
      some_tables some (path_at 4 3 p) (in_right (tables_at 4 s) (tables_at 3 s ++ tables_at 2 s) (path_at 4 3 p) (in_left (tables_at 3 s) (tables_at 2 s) (path_at 4 3 p) (is_at 3 (omega arith) (omega arith)))),
      (
        some_tables some (path_at 4 2 p) (in_right (tables_at 4 s) (tables_at 3 s ++ tables_at 2 s) (path_at 4 2 p) (in_right (tables_at 3 s) (tables_at 2 s) (path_at 4 2 p) (is_at 2 (omega arith) (omega arith)))),
        tt,
      ),
    ),
  )
  parents_in some (suc (suc zero)) low high = (
    some_tables some (path_at 4 4 p) (in_left (tables_at 4 s) (tables_at 3 s ++ tables_at 2 s) (path_at 4 4 p) (is_at 4 (omega arith) (omega arith))),
    (
      some_tables some (path_at 4 3 p) (in_right (tables_at 4 s) (tables_at 3 s ++ tables_at 2 s) (path_at 4 3 p) (in_left (tables_at 3 s) (tables_at 2 s) (path_at 4 3 p) (is_at 3 (omega arith) (omega arith)))),
      tt,
    ),
  )
  parents_in some (suc (suc (suc n))) low high = absurd (omega (arith, high))
