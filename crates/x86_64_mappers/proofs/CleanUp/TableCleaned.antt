-- The clean up of a table, one entry after the other.
use Rattle.std.proofs.Common.{zero, suc, ◌≡◌, inl, inr, ◌≤◌, ◌<◌, ◌+◌, ◌-◌, ◌&&◌, ℕ, true, false, List, [], ◌∷◌, ◌++◌, length, nat_le, sym, ap, ◌∙◌, subst, subst₂, arith, append_assoc, append-nil}
use Rattle.std.proofs.lemmas.Bool.{and_left, and_right, and_from, le-leb, lt-leb}
use Rattle.x86_64_model.proofs.Lemmas.CleanUps.Below.{cleaned_below, back_below, cleaned_before, back_before, Visits}
use Rattle.x86_64_model.proofs.Lemmas.CleanUps.Children.{range_before, cleaned_stays, back_stays, cleaned_kept, back_kept, cleaned_gone, back_gone}
use Rattle.x86_64_model.proofs.Lemmas.CleanUps.Meets.{first_index, last_index, meets_at_pages}
use Rattle.x86_64_model.proofs.Lemmas.CleanUps.Tables.{cleaned_first, back_first, cleaned_last, back_last, cleaned_level_one, back_level_one}
use Rattle.x86_64_model.proofs.Lemmas.CleanUps.Visits.{visits_meets}
use Rattle.x86_64_model.proofs.Lemmas.Hierarchies.Trees.{IsTree, tree_of_holds}
use Rattle.x86_64_model.specs.CleanUp.{in_range, meets}
use Rattle.x86_64_model.specs.Layout.{Layout}
use Rattle.x86_64_model.specs.Hierarchy.{◌laid_in◌, Valid, paths}
use Rattle.x86_64_model.specs.Memory.{Memory, Distinct}
use Rattle.x86_64_model.specs.Path.{AllBelow, span_start}
use Rattle.x86_64_model.specs.PathMap.{PathMap}
use Rattle.x86_64_mappers.proofs.CleanUp.Cleaned.{cleaned_nothing, cleaned_then}
use Rattle.x86_64_mappers.specs.private.CleaningUp.{last_position, IsPageRange, IsEntryCleaned, IsCleaned, IsCleanedAt}
use Rattle.x86_64_mappers.proofs.Memory.WordsRead.{words_read}

-- ---- which entries the range meets

module _ (L : ℕ) (M : PathMap) (first last : List ℕ) (range : IsPageRange L first last) (q : List ℕ) (short : length q < L) (below : AllBelow q)
    (visits : Visits L M (span_start L first) (last_position L last) q) (i : ℕ) (small : i < 512) where
  met : meets L (span_start L first) (last_position L last) (q ++ i ∷ []) ≡ nat_le (first_index q first) i && nat_le i (last_index q last)
  met = meets_at_pages L first last range.first_long range.first_below range.last_long range.last_below range.in_order q i short below
      (visits_meets L M (span_start L first) (last_position L last) q visits) small

  pub met_between : first_index q first ≤ i → i < last_index q last + 1 → meets L (span_start L first) (last_position L last) (q ++ i ∷ []) ≡ true
  met_between low high = met ∙ and_from _ _ (le-leb (first_index q first) i low) (le-leb i (last_index q last) (omega (arith, high)))

  pub out_before : i < first_index q first → in_range L M (span_start L first) (last_position L last) (q ++ i ∷ []) ≡ false
  out_before low = and_right _ _ (met ∙ and_left _ _ (lt-leb (first_index q first) i low))

  pub out_after : last_index q last + 1 ≤ i → in_range L M (span_start L first) (last_position L last) (q ++ i ∷ []) ≡ false
  out_after high = and_right _ _ (met ∙ and_right _ _ (lt-leb i (last_index q last) (omega (arith, high))))

-- ---- entries that stay

module _ (L root : ℕ) (M : PathMap) (tree : IsTree L root M) (low high : ℕ) (q : List ℕ) (i : ℕ) where
  passed_over : (n : ℕ) → ((k : ℕ) → i ≤ k → k < i + n → in_range L M low high (q ++ k ∷ []) ≡ false)
      → (cleaned_before L M low high q (i + n) ≡ cleaned_before L M low high q i) × (back_before L M low high q (i + n) ≡ back_before L M low high q i)
  passed_over zero out = let e : i + zero ≡ i = omega arith in (ap (cleaned_before L M low high q) e, ap (back_before L M low high q) e)
  passed_over (suc n) out =
      let e : i + suc n ≡ i + n + 1 = omega arith in
      let before = passed_over n (λ k from to. out k from (omega (arith, to))) in
      let here = range_before L root M tree low high q (i + n) ∙ out (i + n) (omega arith) (omega arith) in (
        ap (cleaned_before L M low high q) e ∙ cleaned_stays L root M tree low high q (i + n) here ∙ before.0,
        ap (back_before L M low high q) e ∙ back_stays L root M tree low high q (i + n) here ∙ before.1,
      )

  pub passed : (j : ℕ) → i ≤ j → ((k : ℕ) → i ≤ k → k < j → in_range L M low high (q ++ k ∷ []) ≡ false)
      → (cleaned_before L M low high q j ≡ cleaned_before L M low high q i) × (back_before L M low high q j ≡ back_before L M low high q i)
  passed j up out = let e : j ≡ i + (j - i) = omega (arith, up) in
      subst (λ j. (cleaned_before L M low high q j ≡ cleaned_before L M low high q i) × (back_before L M low high q j ≡ back_before L M low high q i)) (sym e)
      (passed_over (j - i) (λ k from to. out k from (omega (arith, to, up))))

-- ---- the entries before an index

module _ (l : Layout) (take_back : List ℕ → ℕ → List ℕ) (m : Memory) (valid : Valid (l laid_in m)) (held : List ℕ) (low high : ℕ) (q : List ℕ) where
  abbrev L : ℕ
  L = l.levels

  abbrev M : PathMap
  M = paths (l laid_in m)

  tree : IsTree L l.root M
  tree = tree_of_holds L (words_read l m) l.root M valid.valid.holds

  abbrev Before : (i : ℕ) → Memory → List ℕ → Type 0
  Before i n rest = IsCleaned l take_back m held (cleaned_before L M low high q i) (back_before L M low high q i) n rest

  -- no entry before the index is in range
  pub before_first : (i : ℕ) → ((k : ℕ) → k < i → in_range L M low high (q ++ k ∷ []) ≡ false) → Before i m held
  before_first i out =
      let none = passed L l.root M tree low high q 0 i (omega arith) (λ k from to. out k to) in
      subst₂ (λ N back. IsCleaned l take_back m held N back m held)
      (sym (none.0 ∙ cleaned_first L l.root M tree low high q)) (sym (none.1 ∙ back_first L l.root M tree low high q)) (cleaned_nothing l take_back m valid held)

  -- no entry from the index on is in range
  pub before_last : (i : ℕ) → i ≤ 512 → ((k : ℕ) → i ≤ k → k < 512 → in_range L M low high (q ++ k ∷ []) ≡ false) → (n : Memory) (rest : List ℕ) → Before i n rest
      → IsCleaned l take_back m held (cleaned_below L M low high q) (back_below L M low high q) n rest
  before_last i most out n rest here =
      let none = passed L l.root M tree low high q i 512 most out in
      subst₂ (λ N back. IsCleaned l take_back m held N back n rest)
      (sym none.0 ∙ cleaned_last L l.root M tree low high q) (sym none.1 ∙ back_last L l.root M tree low high q) here

  -- a table of level one has no tables below
  pub level_one : L ≤ length q + 1 → IsCleaned l take_back m held (cleaned_below L M low high q) (back_below L M low high q) m held
  level_one low_level = subst₂ (λ N back. IsCleaned l take_back m held N back m held)
      (sym (cleaned_level_one L l.root M tree low high q low_level)) (sym (back_level_one L l.root M tree low high q low_level)) (cleaned_nothing l take_back m valid held)

  -- one more entry
  module _ (visits : Visits L M low high q) (i : ℕ) where
    abbrev N : PathMap
    N = cleaned_before L M low high q i

    abbrev r : List ℕ
    r = q ++ i ∷ []

    next_rule : (O : PathMap) (more : List ℕ) → IsEntryCleaned L N low high r O more → (O ≡ cleaned_before L M low high q (i + 1)) × (back_before L M low high q i ++ more ≡ back_before L M low high q (i + 1))
    next_rule O more (inl h) = (
      h.1 ∙ sym (cleaned_stays L l.root M tree low high q i h.0),
      ap (λ more. back_before L M low high q i ++ more) h.2 ∙ append-nil (back_before L M low high q i) ∙ sym (back_stays L l.root M tree low high q i h.0),
    )
    next_rule O more (inr (inl h)) = (
      h.2 ∙ sym (cleaned_kept L l.root M tree low high q i visits h.0 h.1.0 h.1.1),
      ap (λ more. back_before L M low high q i ++ more) h.3 ∙ sym (back_kept L l.root M tree low high q i visits h.0 h.1.0 h.1.1),
    )
    next_rule O more (inr (inr h)) = (
      h.2 ∙ sym (cleaned_gone L l.root M tree low high q i visits h.0 (λ j small. h.1 j)),
      ap (λ more. back_before L M low high q i ++ more) h.3 ∙ sym (append_assoc (back_before L M low high q i) (back_below L N low high r) _)
          ∙ sym (back_gone L l.root M tree low high q i visits h.0 (λ j small. h.1 j)),
    )

    pub before_next : Distinct l.places → (n : Memory) (rest : List ℕ) → Before i n rest → (o : Memory) (left : List ℕ) → IsCleanedAt l take_back n rest low high r o left → Before (i + 1) o left
    before_next apart n rest here o left at =
        let rule = next_rule at.N at.back (subst (λ N. IsEntryCleaned L N low high r at.N at.back) here.meant at.rule) in
        subst₂ (λ N back. IsCleaned l take_back m held N back o left) rule.0 rule.1
        (cleaned_then l take_back apart m valid held N (back_before L M low high q i) n rest here at.N at.back o left at.cleaned)
