-- Which indices of a table meet the range of a clean up, by the paths of its first and last positions.
use Rattle.std.proofs.Common.{zero, suc, ◌≡◌, ◌≢◌, ◌⊎◌, inl, inr, ⊎_elim, ℕ, ◌+◌, ◌-◌, ◌*◌, ◌/◌, ◌^◌, ◌<◌, ◌≤◌, ◌&&◌, true, false, cond, List, [], ◌∷◌, ◌++◌, length, get_or, nat_le, nat_lt, refl, sym, ap, ap₂, ◌∙◌, subst, arith, ltb-true, lt-ltb, le-ltb, eq-eqb}
use Rattle.std.proofs.lemmas.Bool.{and_parts, and_from, and_left, and_right, leb-true, le-leb, lt-leb, cases_Bool, cases_lt}
use Rattle.std.proofs.Math.Bool.{and_comm}
use Rattle.std.proofs.Math.Nat.{mul-le-mul_right, mod-lt, add-mul}
use Rattle.x86_64_model.specs.Position.{position_count, page_path, index, span}
use Rattle.x86_64_model.specs.Path.{AllBelow, begins, span_start, span_size}
use Rattle.x86_64_model.specs.PathMap.{PathMap, HasUsedAlone}
use Rattle.x86_64_model.specs.CleanUp.{meets, in_range, is_removed, clean_up}
use Rattle.x86_64_model.proofs.Lemmas.Machines.Spares.{length_path}
use Rattle.x86_64_model.proofs.Lemmas.Paths.Begins.{begins_next, all_below_more}
use Rattle.x86_64_model.proofs.Lemmas.CleanUps.Keys.{nothing_removed}
use Rattle.x86_64_model.proofs.Lemmas.Paths.Spans.{spans_are_intervals}
use Rattle.x86_64_model.proofs.Lemmas.Paths.Starts.{next_size, next_start, start_inside, end_inside, path_of_start, path_of_end}
use Rattle.x86_64_model.proofs.Lemmas.Walks.Walked.{one_more}

-- the first and the last index of the table at q that a range has: those of the paths of its first and last positions where these begin with q, else of all
abbrev pub first_index : (q first : List ℕ) → ℕ
first_index q first = cond (begins q first) (get_or first (length q) 0) 0

abbrev pub last_index : (q last : List ℕ) → ℕ
last_index q last = cond (begins q last) (get_or last (length q) 0) 511

-- the indices of a position are its path
pub path_index : (L p n : ℕ) → n < L → get_or (page_path L p) n 0 ≡ index (L - n) p
unfolding page_path
path_index zero p n l = absurd (omega arith)
path_index (suc m) p zero l = ap (λ k. index k p) (let e : suc m ≡ suc m - 0 = omega arith in e)
path_index (suc m) p (suc n) l = path_index m p n (omega arith) ∙ ap (λ k. index k p) (let e : m - n ≡ suc m - suc n = omega arith in e)

index_small : (level p : ℕ) → index level p < 512
unfolding index
index_small level p = mod-lt (p / span level) (omega arith)

-- ---- one index of a table

-- a position in the span at index k of a table that starts at `start`, whose indices span s each
module _ (start s k i p : ℕ) (from : start + k * s ≤ p) (to : p < start + k * s + s) where
  ends_after : nat_lt p (start + i * s + s) ≡ nat_le k i
  ends_after = ⊎_elim
      (λ l. let more : (i + 1) * s ≤ k * s = mul-le-mul_right s (let m : i + 1 ≤ k = omega (arith, l) in m) in let sum = add-mul i 1 s in
      le-ltb p (start + i * s + s) (omega (arith, more, sum, from)) ∙ sym (lt-leb k i l))
      (λ l. let more : k * s ≤ i * s = mul-le-mul_right s l in lt-ltb p (start + i * s + s) (omega (arith, more, to)) ∙ sym (le-leb k i l))
      (cases_lt i k)

  starts_before : nat_le (start + i * s) p ≡ nat_le i k
  starts_before = ⊎_elim
      (λ l. let more : (k + 1) * s ≤ i * s = mul-le-mul_right s (let m : k + 1 ≤ i = omega (arith, l) in m) in let sum = add-mul k 1 s in
      lt-leb (start + i * s) p (omega (arith, more, sum, to)) ∙ sym (lt-leb i k l))
      (λ l. let more : i * s ≤ k * s = mul-le-mul_right s l in le-leb (start + i * s) p (omega (arith, more, from)) ∙ sym (le-leb i k l))
      (cases_lt k i)

-- ---- a position and the indices of a table

module _ (L p : ℕ) (inside : p < position_count L) where
  -- where its path doesn't begin with the table's, it lies beside the table's span
  beside : (q : List ℕ) → length q ≤ L → AllBelow q → begins q (page_path L p) ≡ false → (p < span_start L q) ⊎ (span_start L q + span_size L q ≤ p)
  beside [] l below h = let t : true ≡ false = h in cc
  beside (i ∷ q) l below h = ⊎_elim (λ before. inl before)
      (λ from. ⊎_elim (λ to. let t : true ≡ false = sym ((spans_are_intervals L (i ∷ q) p (omega arith) l below inside).1 (from, to)) ∙ h in cc) (λ after. inr after) (cases_lt p (span_start L (i ∷ q) + span_size L (i ∷ q))))
      (cases_lt p (span_start L (i ∷ q)))

  module _ (q : List ℕ) (i : ℕ) (shorter : length q < L) (below : AllBelow q) where
    -- its own index, and the number of positions that each index spans
    abbrev k : ℕ
    k = get_or (page_path L p) (length q) 0

    abbrev s : ℕ
    s = span_size L (q ++ i ∷ [])

    -- else it lies in the span at its index
    at_index : begins q (page_path L p) ≡ true → (span_start L q + k * s ≤ p) × (p < span_start L q + k * s + s)
    at_index h =
        let long = one_more q k in
        let of_k : k < 512 = subst (λ k. k < 512) (sym (path_index L p (length q) shorter)) (index_small (L - length q) p) in
        let on : begins (q ++ k ∷ []) (page_path L p) ≡ true = begins_next q k (page_path L p) (omega (arith, shorter, length_path L p)) ∙ and_from _ _ h (eq-eqb k k refl) in
        let span = (spans_are_intervals L (q ++ k ∷ []) p (omega (arith, long)) (omega (arith, long, shorter)) (all_below_more q k below of_k) inside).0 on in
        let same : span_size L (q ++ k ∷ []) ≡ s = ap (λ n. 2 ^ (12 + 9 * (L + 1 - n - 1))) (long ∙ sym (one_more q i)) in
        let start : span_start L (q ++ k ∷ []) ≡ span_start L q + k * s = next_start L q k shorter ∙ ap (λ n. span_start L q + k * n) same in
        (omega (arith, span.0, start), omega (arith, span.1, start, same))

    start : span_start L (q ++ i ∷ []) ≡ span_start L q + i * s
    start = next_start L q i shorter

    size : span_size L q ≡ 512 * s
    size = next_size L q i shorter

    -- before the end of the table's span: before the end of the index's exactly if its index is none above
    pub ends_at : (q ≢ [] → p < span_start L q + span_size L q) → nat_lt p (span_start L (q ++ i ∷ []) + s) ≡ nat_le (first_index q (page_path L p)) i
    ends_at not_after = ⊎_elim
        (λ h. let at = at_index h in ap (λ n. nat_lt p (n + s)) start ∙ ends_after (span_start L q) s k i p at.0 at.1 ∙ sym (ap (λ b. nat_le (cond b k 0) i) h))
        (λ h. lt-ltb p (span_start L (q ++ i ∷ []) + s) (early h) ∙ sym (ap (λ b. nat_le (cond b k 0) i) h ∙ le-leb 0 i (omega arith)))
        (cases_Bool (begins q (page_path L p)))
      where
        early : begins q (page_path L p) ≡ false → p < span_start L (q ++ i ∷ []) + s
        early h = ⊎_elim (λ l. omega (arith, l, start)) (λ l. absurd (let l2 = not_after (λ e. let t : true ≡ false = sym (ap (λ q. begins q (page_path L p)) e) ∙ h in cc) in omega (arith, l, l2)))
            (beside q (omega (arith, shorter)) below h)

    -- not before the start of the table's span: not before the start of the index's exactly if its index is none below
    pub starts_at : i < 512 → (q ≢ [] → span_start L q ≤ p) → nat_le (span_start L (q ++ i ∷ [])) p ≡ nat_le i (last_index q (page_path L p))
    starts_at small not_before = ⊎_elim
        (λ h. let at = at_index h in ap (λ n. nat_le n p) start ∙ starts_before (span_start L q) s k i p at.0 at.1 ∙ sym (ap (λ b. nat_le i (cond b k 511)) h))
        (λ h. le-leb (span_start L (q ++ i ∷ [])) p (late h) ∙ sym (ap (λ b. nat_le i (cond b k 511)) h ∙ le-leb i 511 (omega (arith, small))))
        (cases_Bool (begins q (page_path L p)))
      where
        late : begins q (page_path L p) ≡ false → span_start L (q ++ i ∷ []) ≤ p
        late h = ⊎_elim (λ l. absurd (let l2 = not_before (λ e. let t : true ≡ false = sym (ap (λ q. begins q (page_path L p)) e) ∙ h in cc) in omega (arith, l, l2)))
            (λ l. let few : i * s ≤ 512 * s = mul-le-mul_right s (omega (arith, small)) in omega (arith, l, start, size, few))
            (beside q (omega (arith, shorter)) below h)

-- ---- in a table that the range meets, it meets the indices from the first to the last of these

pub meets_at : (L low high : ℕ) → low < position_count L → high < position_count L → low ≤ high
    → (q : List ℕ) (i : ℕ) → length q < L → AllBelow q → (q ≢ [] → meets L low high q ≡ true) → i < 512
    → meets L low high (q ++ i ∷ []) ≡ (nat_le (first_index q (page_path L low)) i && nat_le i (last_index q (page_path L high)))
meets_at L low high low_inside high_inside some q i shorter below met small =
    ap (λ b. b && nat_le (span_start L (q ++ i ∷ [])) high && nat_lt low (span_start L (q ++ i ∷ []) + span_size L (q ++ i ∷ []))) (le-leb low high some)
    ∙ ap₂ (λ a b. a && b)
    (starts_at L high high_inside q i shorter below small (λ n. leb-true (span_start L q) high (and_parts _ _ (and_parts _ _ (met n)).0).1))
    (ends_at L low low_inside q i shorter below (λ n. ltb-true low (span_start L q + span_size L q) (and_parts _ _ (met n)).1))
    ∙ and_comm (nat_le i (last_index q (page_path L high))) (nat_le (first_index q (page_path L low)) i)

-- a range that is given by the paths of its first and last pages
pub meets_at_pages : (L : ℕ) (first last : List ℕ) → length first ≡ L → AllBelow first → length last ≡ L → AllBelow last → span_start L first ≤ span_start L last + 0xfff
    → (q : List ℕ) (i : ℕ) → length q < L → AllBelow q → (q ≢ [] → meets L (span_start L first) (span_start L last + 0xfff) q ≡ true) → i < 512
    → meets L (span_start L first) (span_start L last + 0xfff) (q ++ i ∷ []) ≡ (nat_le (first_index q first) i && nat_le i (last_index q last))
meets_at_pages L first last first_long first_below last_long last_below some q i shorter below met small =
    meets_at L (span_start L first) (span_start L last + 0xfff) (start_inside L first first_long first_below) (end_inside L last last_long last_below) some q i shorter below met small
    ∙ ap₂ (λ a b. nat_le (first_index q a) i && nat_le i (last_index q b)) (path_of_start L first first_long first_below) (path_of_end L last last_long last_below)

-- ---- a range whose last position is before its first one has none, and its clean up changes nothing

module _ (L : ℕ) (M : PathMap) (low high : ℕ) (wrong : high < low) where
  pub none_in_range : (q : List ℕ) → in_range L M low high q ≡ false
  none_in_range q = and_right _ (meets L low high q)
      (ap (λ b. b && nat_le (span_start L q) high && nat_lt low (span_start L q + span_size L q)) (lt-leb low high wrong))

  pub empty_clean_up : HasUsedAlone M → clean_up L M low high ≡ record { paths = M; back = [] }
  unfolding is_removed
  empty_clean_up alone = nothing_removed L M alone low high (λ q. and_left _ _ (and_left _ _ (none_in_range q)))
