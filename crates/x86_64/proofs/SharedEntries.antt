-- What tests of indices of the highest level say of paths, and of the spans that a clean up meets.
use Rattle.std.proofs.Common.{zero, suc, ◌≡◌, ⊎_elim, ◌↔◌, ◌+◌, ◌-◌, ◌*◌, ◌/◌, ◌%◌, ◌^◌, ◌<◌, ◌≤◌, ◌==◌, ◌&&◌, ◌||◌, nat_lt, nat_le, ℕ, Bool, true, false, List, [], ◌∷◌, take, get_or, Option, Some, None, option_map, IsTrue, refl, sym, ap, ap₂, ◌∙◌, subst, arith, eq-eqb, eqb-true, le-leb, lt-ltb, ltb-true}
use Rattle.std.specs.Option.{option_eq}
use Rattle.std.proofs.lemmas.Bool.{and_parts, and_from, or_cases, or_left, or_right, leb-true, lt-leb, cases_lt}
use Rattle.std.proofs.lemmas.List.{take_all}
use Rattle.std.proofs.lemmas.Option.{same_Some}
use Rattle.std.proofs.Math.Nat.{mod-lt, mul-le-mul_right}
use Rattle.x86_64_model.specs.Call.{Call, IsCall}
use Rattle.x86_64_model.specs.CleanUp.{meets}
use Rattle.x86_64_model.specs.Entry.{IsParentFlags}
use Rattle.x86_64_model.specs.Laws.Spaces.{CallsKeepRootEntries, SpacesStay}
use Rattle.x86_64_model.specs.Hierarchy.{Hierarchy}
use Rattle.x86_64_model.specs.Memory.{IsMapping, Words, word, set_word}
use Rattle.x86_64_model.specs.Path.{AllBelow, path_at, span_size, span_start}
use Rattle.x86_64_model.specs.Pool.{TakesBack}
use Rattle.x86_64_model.specs.Position.{index, page_path, position_count, span}
use Rattle.x86_64_model.specs.Store.{StoreFits, KeepsPool, Store}
use Rattle.x86_64_model.specs.Window.{Window, outside_window}
use Rattle.x86_64_model.proofs.Lemmas.CleanUps.Meets.{meets_at_pages}
use Rattle.x86_64_model.proofs.Lemmas.Hierarchies.Held.{word-set_index}
use Rattle.x86_64_model.proofs.Lemmas.Hierarchies.Unset.{word_unset}
use Rattle.x86_64_model.proofs.Lemmas.Machines.Effects.{below_taken}
use Rattle.x86_64_model.proofs.Lemmas.Machines.Spares.{length_path}
use Rattle.x86_64_model.proofs.Lemmas.Paths.Pages.{span_pos}
use Rattle.x86_64_model.proofs.Lemmas.Paths.Starts.{next_size}
use Rattle.x86_64_mappers.proofs.Way.PagePaths.{start_of_path}
use Rattle.x86_64.specs.Replies.{Reply}
use Rattle.x86_64.specs.Runs.{AfterStep, Stepped}
use Rattle.x86_64.specs.Sharing.{KeepsShared, KeepsSpaces}

-- ---- paths of pages

-- what holds of each path with the page's index of the highest level holds of the page's path
pub of_page : (L level p : ℕ) → 3 < L → level ≤ 3 → (P : List ℕ → Type 0) → ((q : List ℕ) → P (index L p ∷ q)) → P (path_at L level p)
unfolding page_path
of_page zero level p some low P each = absurd (omega (arith, some))
of_page (suc n) level p some low P each =
    let one : suc (n + 1 - level) ≡ suc n + 1 - level = omega (arith, some, low) in
    subst (λ k. P (take k (index (suc n) p ∷ page_path n p))) one (each (take (n + 1 - level) (page_path n p)))

-- the index of the highest level in the bits of a number
pub index_shifted : (L : ℕ) → 3 < L → (n : ℕ) → n ≡ L → (a f : ℕ) → a ≡ f → a / 2 ^ (9 * n + 3) % 512 ≡ index L f
unfolding index
index_shifted L some n is a f same = (λ i. same i / 2 ^ (9 * is i + 3) % 512) ∙ ap (λ k. f / 2 ^ k % 512) (let e : 9 * L + 3 ≡ 12 + 9 * (L - 1) = omega (arith, some) in e)

-- ---- the words of a root

-- at the recursive index the root reads as 0, and elsewhere as it is
pub at_recursive : (window : Option Window) (root : ℕ) (T : Words) (i : ℕ) → option_map (λ w. w.index) window ≡ Some i → word (outside_window window root T) root i ≡ 0
at_recursive None root T i is = cc
at_recursive (Some w) root T i is = ap (word (set_word T root w.index 0) root) (sym (same_Some w.index i is)) ∙ word_unset T root w.index

pub elsewhere : (window : Option Window) (root : ℕ) (T : Words) (i : ℕ) → (option_map (λ w. w.index) window ≡ Some i → ⊥) → word (outside_window window root T) root i ≡ word T root i
elsewhere None root T i differs = refl
elsewhere (Some w) root T i differs = word-set_index T root w.index 0 root i (λ same. differs (ap Some (sym same)))

-- what a comparison with an index tells
pub compared : (recursive : Option ℕ) (i : ℕ) (test : Bool) → test ≡ option_eq (λ x y. x == y) recursive (Some i)
    → (test ≡ true → recursive ≡ Some i) × (test ≡ false → recursive ≡ Some i → ⊥)
compared None i test is = (λ t. let z : false ≡ true = sym is ∙ t in cc, λ f e. cc)
compared (Some r) i test is = (
  λ t. ap Some (eqb-true r i (sym is ∙ t)),
  λ f e. let z : true ≡ false = sym (eq-eqb r i (same_Some r i e)) ∙ sym is ∙ f in cc,
)

-- ---- ranges of indices

-- no index from `first` to `last` is from `from` up to `to`
pub apart : (from to first last : ℕ) → IsTrue (nat_le to from || nat_le to first || nat_lt last from || nat_lt last first)
    ↔ ((i : ℕ) → (nat_le from i && nat_lt i to) ≡ true → first ≤ i → i ≤ last → ⊥)
apart from to first last = (tested, told)
  where
    E : Bool
    E = nat_le to from || nat_le to first || nat_lt last from || nat_lt last first

    tested : IsTrue E → (i : ℕ) → (nat_le from i && nat_lt i to) ≡ true → first ≤ i → i ≤ last → ⊥
    tested test i shared low high =
        let both = and_parts _ _ shared in let after = leb-true from i both.0 in let before = ltb-true i to both.1 in
        ⊎_elim
        (λ h. ⊎_elim
        (λ h. ⊎_elim (λ h. let e = leb-true to from h in omega (arith, e, after, before)) (λ h. let e = leb-true to first h in omega (arith, e, low, before)) (or_cases _ _ h))
        (λ h. let e = ltb-true last from h in omega (arith, e, after, high)) (or_cases _ _ h))
        (λ h. let e = ltb-true last first h in omega (arith, e, low, high)) (or_cases _ _ test)

    one : (i : ℕ) → from ≤ i → i < to → first ≤ i → i ≤ last → ((i : ℕ) → (nat_le from i && nat_lt i to) ≡ true → first ≤ i → i ≤ last → ⊥) → IsTrue E
    one i a b c d none = absurd (none i (and_from _ _ (le-leb from i a) (lt-ltb i to b)) c d)

    told : ((i : ℕ) → (nat_le from i && nat_lt i to) ≡ true → first ≤ i → i ≤ last → ⊥) → IsTrue E
    told none = ⊎_elim (λ l. or_right _ _ (lt-ltb last first l))
        (λ ordered. ⊎_elim (λ l. or_left _ _ (or_right _ _ (lt-ltb last from l)))
        (λ reaches. ⊎_elim
        (λ l. ⊎_elim (λ k. one from (omega arith) l (omega (arith, k)) reaches none) (λ k. by_first l k) (cases_lt first from))
        (λ l. or_left _ _ (or_left _ _ (or_left _ _ (le-leb to from l))))
        (cases_lt from to))
        (cases_lt last from))
        (cases_lt last first)
      where
        by_first : from < to → from ≤ first → IsTrue E
        by_first l k = ⊎_elim (λ m. ⊎_elim (λ d. or_right _ _ (lt-ltb last first d)) (λ d. one first k m (omega arith) d none) (cases_lt last first))
            (λ m. or_left _ _ (or_left _ _ (or_right _ _ (le-leb to first m)))) (cases_lt first to)

-- ---- spans of the indices of a root

index_small : (L p : ℕ) → index L p < 512
unfolding index
index_small L p = mod-lt (p / span L) (omega arith)

first_index : (L p : ℕ) → 1 ≤ L → get_or (page_path L p) 0 0 ≡ index L p
unfolding page_path
first_index zero p some = absurd (omega (arith, some))
first_index (suc n) p some = refl

indices_small : (L p : ℕ) → AllBelow (page_path L p)
indices_small L p = let long = length_path L p in subst AllBelow (take_all L (page_path L p) (omega (arith, long))) (below_taken p L L)

module _ (L : ℕ) (some : 1 ≤ L) where
  -- the span at an index
  abbrev s : ℕ → ℕ
  s i = span_size L (i ∷ [])

  count : (i : ℕ) → position_count L ≡ 512 * s i
  count i = ap (λ n. 2 ^ n) (let e : 12 + 9 * L ≡ 12 + 9 * (L + 1 - 0 - 1) = omega arith in e) ∙ next_size L [] i some

  middle : (a b c : Bool) → b ≡ false → (a && b && c) ≡ false
  middle true b c h = ap (λ b. b && c) h
  middle false b c h = refl

  -- past the last index nothing is met
  past : (low high i : ℕ) → high < position_count L → 512 ≤ i → meets L low high (i ∷ []) ≡ false
  past low high i inside large =
      let up = mul-le-mul_right (s i) large in let all = count i in
      middle (nat_le low high) (nat_le (span_start L (i ∷ [])) high) _ (lt-leb (span_start L (i ∷ [])) high (omega (arith, up, all, inside)))

  -- a range of pages meets the indices from that of its first page to that of its last one
  met : (start end : ℕ) → start < position_count L → end + 0xfff < position_count L → start % 4096 ≡ 0 → end % 4096 ≡ 0 → start ≤ end
      → (i : ℕ) → i < 512 → meets L start (end + 0xfff) (i ∷ []) ≡ (nat_le (index L start) i && nat_le i (index L end))
  met start end start_there end_there first_page last_page ordered i small =
      let first = page_path L start in let last = page_path L end in
      let low = start_of_path L start some start_there first_page in let high = start_of_path L end some (omega (arith, end_there)) last_page in
      let of_pages = meets_at_pages L first last (length_path L start) (indices_small L start) (length_path L end) (indices_small L end) (omega (arith, low, high, ordered)) [] i some tt (λ none. absurd (none refl)) small in
      ap₂ (λ a b. meets L a (b + 0xfff) (i ∷ [])) (sym low) (sym high) ∙ of_pages
      ∙ ap₂ (λ a b. nat_le a i && nat_le i b) (first_index L start some) (first_index L end some)

  pub range_met : (shared : ℕ → Bool) (start end : ℕ) → start < position_count L → end + 0xfff < position_count L → start % 4096 ≡ 0 → end % 4096 ≡ 0 → start ≤ end
      → (test : Bool) → (IsTrue test ↔ ((i : ℕ) → shared i ≡ true → index L start ≤ i → i ≤ index L end → ⊥))
      → IsTrue test ↔ ((i : ℕ) → shared i ≡ true → meets L start (end + 0xfff) (i ∷ []) ≡ false)
  range_met shared start end start_there end_there first_page last_page ordered test tests = (
    λ t i on. ⊎_elim
        (λ small. let is = met start end start_there end_there first_page last_page ordered i small in
        elim (nat_le (index L start) i && nat_le i (index L end)) as (λ b. (nat_le (index L start) i && nat_le i (index L end)) ≡ b → meets L start (end + 0xfff) (i ∷ []) ≡ false) [
          | true ↦ λ b. let both = and_parts _ _ b in absurd (tests.0 t i on (leb-true _ _ both.0) (leb-true _ _ both.1))
          | false ↦ λ b. is ∙ b
        ] refl)
        (λ large. past start (end + 0xfff) i end_there large)
        (cases_lt i 512),
    λ none. tests.1 (λ i on low high.
        let small : i < 512 = (let e = index_small L end in omega (arith, high, e)) in
        let is = met start end start_there end_there first_page last_page ordered i small in
        let t : true ≡ false = sym (and_from _ _ (le-leb _ _ low) (le-leb _ _ high)) ∙ sym is ∙ none i on in cc),
  )

  -- all positions meet all indices
  pub all_met : (shared : ℕ → Bool) → (test : Bool) → (IsTrue test ↔ ((i : ℕ) → shared i ≡ true → 0 ≤ i → i ≤ 511 → ⊥))
      → IsTrue test ↔ ((i : ℕ) → shared i ≡ true → meets L 0 (position_count L - 1) (i ∷ []) ≡ false)
  all_met shared test tests = (
    λ t i on. ⊎_elim
        (λ small. absurd (tests.0 t i on (omega arith) (omega (arith, small))))
        (λ large. let all = count i in let pos = span_pos (L + 1 - 1) in past 0 (position_count L - 1) i (omega (arith, all, pos)) large)
        (cases_lt i 512),
    λ none. tests.1 (λ i on low high.
        let all = count i in let pos = span_pos (L + 1 - 1) in let few = mul-le-mul_right (s i) high in
        let t : true ≡ false = sym (and_from _ _ (and_from _ _ (le-leb 0 (position_count L - 1) (omega arith)) (le-leb (span_start L (i ∷ [])) (position_count L - 1) (omega (arith, all, pos, few))))
        (lt-ltb 0 (span_start L (i ∷ []) + span_size L (i ∷ [])) (omega (arith, pos)))) ∙ none i on in cc),
  )

-- ---- address spaces

-- a call that leaves the entries of the root at the shared indices keeps the address spaces that share them
pub spaces_kept : SpacesStay → CallsKeepRootEntries → {Lent : Type 0} (h : Hierarchy Lent) → 3 < h.layout.levels → IsParentFlags h.layout.added_flags → IsMapping h.layout.places
    → (store : Store) → TakesBack store.take_back → StoreFits h store → (call : Call) → IsCall h.layout.levels call
    → (reply : Reply) (after : Hierarchy Lent) (rest : List ℕ) → KeepsPool h.layout store.serves h.memory store.frames after.memory rest → Stepped h store call reply after rest
    → (shared : ℕ → Bool) → KeepsShared h shared call → KeepsSpaces shared h store after rest
spaces_kept stay root_stays h four adds mapping store gives fits call is reply after rest keeps step shared spares spaces member are =
    stay shared spaces h.layout member mapping (omega (arith, four)) store.serves h.memory after.memory store.frames rest are keeps
    (root_stays shared h.layout four adds store.take_back gives store.serves h.memory after.memory store.frames rest (call ∷ []) (is, tt) fits
    (sym (ap (λ (x : AfterStep Reply). x.state) step)) (spares, tt))
