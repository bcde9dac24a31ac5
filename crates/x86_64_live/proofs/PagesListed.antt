-- An array of the pages of a range, page by page, and why a range ends.
use Rattle.std.proofs.Common.{suc, ◌≡◌, ◌≢◌, ◌⊎◌, inl, inr, ⊎_elim, ◌<◌, ◌≤◌, ◌+◌, ◌-◌, ◌*◌, ◌/◌, ◌%◌, ◌==◌, ◌&&◌, ◌||◌, ℕ, Bool, true, false, nat_le, List, [], ◌∷◌, ◌++◌, length, map, drop, set, slice_set, Err, refl, sym, ap, ap₂, ◌∙◌, subst, arith, append_assoc, eqb-true, get_or, not}
use Rattle.std.proofs.lemmas.Bool.{and_parts, cases_lt, eqb-false, leb-true, leb-false, ne_eqb}
use Rattle.std.proofs.lemmas.List.{length-append, length-map, map-append}
use Rattle.std.proofs.Math.Seq.{set-append_seam, drop-cons, drop-nil}
use Rattle.std.proofs.Math.Nat.{div-add-mod, mod-lt, mul_comm, mul-div_left}
use Rattle.std.proofs.Math.Bool.{and-false}
use Rattle.x86_64_live.specs.DroppedRanges.{EndsAtPage}
use Rattle.x86_64_live.specs.PageRanges.{HasNoPage, PageEntry, AllWhole, EndsFor, ListsPages, SeesPages, HasPageAt, is_page, page_entries, reached, told}
use Rattle.x86_64_live.specs.private.RangeSteps.{IsFirstPage, SearchFinds, IsSpot, IsWithin, leads_down}
use Rattle.x86_64_live.specs.declared.ranges.PageWord.{PageWord}
use Rattle.x86_64_live.specs.declared.ranges.RangeEnd.{RangeEnd}
use Rattle.x86_64_live.specs.declared.ranges.RangeEnd.TheVariants.{All, More, LargerPage}
use Rattle.x86_64_live.specs.declared.ranges.search.Spot.{Spot}
use Rattle.x86_64_live.proofs.PageSpots.{none_joined, path_same, span_pages}
use Rattle.x86_64_live.proofs.PagesBetween.{between_none, between_past, between_split, none_between, none_is_whole, one_between, one_is_whole, whole_joined}
use Rattle.x86_64_model.specs.Entry.{used, huge}
use Rattle.x86_64_model.specs.Memory.{Words}
use Rattle.x86_64_model.specs.Path.{path_at}
use Rattle.x86_64_model.specs.PathMap.{PathMap, entry}
use Rattle.x86_64_model.specs.Position.{span}
use Rattle.x86_64_model.specs.Validity.{IsValid}
use Rattle.x86_64_model.proofs.Lemmas.Paths.Pages.{length_taken, span_pos}

append_none : {X : Type 0} (xs : List X) → xs ++ [] ≡ xs
append_none [] = refl
append_none (x ∷ xs) = ap (λ ys. x ∷ ys) (append_none xs)

nonzero : (n : ℕ) → n ≢ 0 → 0 < n
nonzero n some = omega (arith, some)

-- a page names no table
pub page_ends : (wanted : ℕ → Bool) (level e : ℕ) → is_page wanted level e ≡ true → leads_down level e ≡ false
page_ends wanted level e page = by (level == 1) (huge e) (used e) (and_parts (wanted e) ((level == 1) || huge e) page).1
  where
    by : (one h u : Bool) → (one || h) ≡ true → (not one && (u && not h)) ≡ false
    by true h u is = refl
    by false true true is = refl
    by false true false is = refl
    by false false u is = absurd (let t : false ≡ true = is in cc)

module _ (L : ℕ) (wanted : ℕ → Bool) (M : PathMap) where
  module _ (first : ℕ) (whole : first % 4096 ≡ 0) (before : List PageWord) where
    pub listed_none : ListsPages L wanted M first first 0 before before
    listed_none = record {
      number = sym (ap length (between_none L wanted M first));
      array = ap (λ xs. map (told L) xs ++ before) (sym (between_none L wanted M first));
      whole = λ x level from to low high page. absurd (omega (arith, from, to));
    }

    listed_same : (p q count : ℕ) (after : List PageWord) → page_entries L wanted M first p ≡ page_entries L wanted M first q → AllWhole L wanted M first q
        → ListsPages L wanted M first p count before after → ListsPages L wanted M first q count before after
    listed_same p q count after same all listed = record {
      number = listed.number ∙ ap length same;
      array = listed.array ∙ ap (λ xs. map (told L) xs ++ drop count before) same;
      whole = all;
    }

    -- up to a later position, without a page
    pub same_up : (p q : ℕ) → first ≤ p → p ≤ q → p % 4096 ≡ 0 → HasNoPage L wanted M p q → page_entries L wanted M first p ≡ page_entries L wanted M first q
    same_up p q from to aligned none = sym (between_split L wanted M first p q from to whole aligned ∙ ap (λ xs. page_entries L wanted M first p ++ xs) (none_between L wanted M p q to none) ∙ append_none (page_entries L wanted M first p))

    pub listed_up : (p q count : ℕ) (after : List PageWord) → first ≤ p → p ≤ q → p % 4096 ≡ 0 → HasNoPage L wanted M p q
        → ListsPages L wanted M first p count before after → ListsPages L wanted M first q count before after
    listed_up p q count after from to aligned none listed = listed_same p q count after (same_up p q from to aligned none)
        (whole_joined L wanted M first p q from to listed.whole (none_is_whole L wanted M p q none)) listed

    pub same_all : (p end : ℕ) → IsWithin first end p → HasNoPage L wanted M p end → page_entries L wanted M first p ≡ page_entries L wanted M first end
    same_all p end within none = ⊎_elim
        (λ less. let is : p ≡ first = ⊎_elim (λ to. absurd (omega (arith, less, to))) (λ is. is) within.to in
        ap (page_entries L wanted M first) is ∙ between_none L wanted M first ∙ sym (between_past L wanted M first end (omega (arith, less, is))))
        (λ least. same_up p end within.from least within.aligned none)
        (cases_lt end p)

    all_whole : (p end : ℕ) → IsWithin first end p → HasNoPage L wanted M p end → AllWhole L wanted M first p → AllWhole L wanted M first end
    all_whole p end within none before = ⊎_elim
        (λ less x level from to low high page. let is : p ≡ first = ⊎_elim (λ to. absurd (omega (arith, less, to))) (λ is. is) within.to in absurd (omega (arith, from, to, less, is)))
        (λ least. whole_joined L wanted M first p end within.from least before (none_is_whole L wanted M p end none))
        (cases_lt end p)

    pub listed_all : (p end count : ℕ) (after : List PageWord) → IsWithin first end p → HasNoPage L wanted M p end
        → ListsPages L wanted M first p count before after → ListsPages L wanted M first end count before after
    listed_all p end count after within none listed = listed_same p end count after (same_all p end within none) (all_whole p end within none listed.whole) listed

  module _ (T : Words) (root : ℕ) (valid : IsValid L T root M) (three : 3 ≤ L) (zero_not : wanted 0 ≡ false) where
    low_page : (s : Spot) → IsSpot L root M s → is_page wanted s.level s.word ≡ true → s.level ≤ 3
    low_page s spot page = ⊎_elim
        (λ more. absurd (let t : false ≡ true = sym (by more) ∙ page in cc))
        (λ few. few) (cases_lt 3 s.level)
      where
        by : 3 < s.level → is_page wanted s.level s.word ≡ false
        by more =
            let q = path_at L s.level s.position in
            let long : length q ≡ L + 1 - s.level = length_taken s.position (L + 1 - s.level) L (let low = spot.way.low in omega (arith, low)) in
            let plain : huge s.word ≡ false = sym (ap huge spot.reads) ∙ valid.none_huge q (let high = spot.way.high in omega (arith, long, more, high)) in
            let none : ((s.level == 1) || huge s.word) ≡ false = ap₂ (λ a b. a || b) (ne_eqb s.level 1 (λ one. omega (arith, one, more))) plain in
            ap (λ b. wanted s.word && b) none ∙ and-false (wanted s.word)

    module _ (first last : ℕ) (whole : first % 4096 ≡ 0) (last_whole : last % 4096 ≡ 0) (before : List PageWord) (p count : ℕ) (after : List PageWord)
        (within : IsWithin first (last + 4096) p) (listed : ListsPages L wanted M first p count before after)
        (s : Spot) (relation : Bool) (found : IsFirstPage L root wanted M p (last + 4096) s relation) where
      abbrev this : PageEntry
      this = record { start = s.position; level = s.level; word = s.word }

      pub top : s.level ≤ 3
      top = low_page s found.spot found.page

      here_listed : ListsPages L wanted M first s.position count before after
      here_listed = listed_up first whole before p s.position count after within.from found.after within.aligned found.none listed

      from_first : first ≤ s.position
      from_first = let a = within.from in let b = found.after in omega (arith, a, b)

      to_last : s.position ≤ last
      to_last = let a = found.aligned in let b = found.before in omega (arith, a, b, last_whole)

      entry_is : is_page wanted s.level (entry M (path_at L s.level s.position)) ≡ true
      entry_is = ap (is_page wanted s.level) found.spot.reads ∙ found.page

      has_page : {Relation : ℕ → Type 0} → Relation s.level → HasPageAt L wanted M first last s.position Relation
      has_page is = record { from = from_first; to = to_last; level = s.level; low = found.spot.way.low; high = top; page = entry_is; is = is }

      -- the array is full
      pub stops_more : relation ≡ true → count ≡ length before
          → ListsPages L wanted M first s.position count before after
          × ((count ≡ length before) × HasPageAt L wanted M first last s.position (λ level. (s.position % span level ≡ 0) × (s.position + span level ≤ last + 4096)))
      stops_more is full =
          let parts = and_parts (s.position % span s.level == 0) (nat_le (s.position + span s.level) (last + 4096)) (found.is ∙ is) in
          (here_listed, (full, has_page (eqb-true (s.position % span s.level) 0 parts.0, leb-true (s.position + span s.level) (last + 4096) parts.1)))

      -- a larger page is only partly in the range
      pub stops_larger : relation ≡ false → ListsPages L wanted M first s.position count before after
          × HasPageAt L wanted M first last s.position (λ level. (s.position / span level * span level < first) ⊎ (last + 4096 < s.position / span level * span level + span level))
      stops_larger is = (here_listed, has_page (by (s.position % span s.level == 0) refl (found.is ∙ is)))
        where
          low_is : s.position / span s.level * span s.level + s.position % span s.level ≡ s.position
          low_is = let all = div-add-mod s.position (span s.level) in let c = mul_comm (s.position / span s.level) (span s.level) in omega (arith, all, c)

          start : ℕ
          start = s.position / span s.level * span s.level

          before_first : s.position % span s.level ≢ 0 → first ≤ start → ⊥
          before_first some from =
              let same : start / span s.level ≡ s.position / span s.level = mul-div_left (s.position / span s.level) (span_pos s.level) in
              let less : start < s.position = (let nz = nonzero (s.position % span s.level) some in omega (arith, low_is, nz)) in
              let page : is_page wanted s.level (entry M (path_at L s.level start)) ≡ true =
              ap (λ q. is_page wanted s.level (entry M q)) (path_same L s.level s.position start found.spot.way.low found.spot.way.high same) ∙ entry_is in
              let in_it = here_listed.whole start s.level from less found.spot.way.low top page in
              let end : start / span s.level * span s.level + span s.level ≤ s.position = in_it.1 in
              let again : start / span s.level * span s.level ≡ start = ap (λ n. n * span s.level) same in
              let rest = mod-lt s.position (span_pos s.level) in
              omega (arith, end, again, low_is, rest)

          by : (a : Bool) → (s.position % span s.level == 0) ≡ a → ((s.position % span s.level == 0) && nat_le (s.position + span s.level) (last + 4096)) ≡ false
              → (start < first) ⊎ (last + 4096 < start + span s.level)
          by true at none =
              let none_right : nat_le (s.position + span s.level) (last + 4096) ≡ false = ap (λ a. a && nat_le (s.position + span s.level) (last + 4096)) (sym at) ∙ none in
              let zero = eqb-true (s.position % span s.level) 0 at in let far = leb-false (s.position + span s.level) (last + 4096) none_right in
              inr (omega (arith, low_is, zero, far))
          by false at none = ⊎_elim (λ less. inl less) (λ from. absurd (before_first (λ z. eqb-false (s.position % span s.level) 0 at z) from)) (cases_lt start first)

      -- the page gets a place in the array
      module _ (is : relation ≡ true) where
        parts : ((s.position % span s.level == 0) ≡ true) × (nat_le (s.position + span s.level) (last + 4096) ≡ true)
        parts = and_parts (s.position % span s.level == 0) (nat_le (s.position + span s.level) (last + 4096)) (found.is ∙ is)

        pub starts : s.position % span s.level ≡ 0
        starts = eqb-true (s.position % span s.level) 0 parts.0

        pub next_is : s.position / span s.level * span s.level + span s.level ≡ s.position + span s.level
        next_is = let all = div-add-mod s.position (span s.level) in let c = mul_comm (s.position / span s.level) (span s.level) in omega (arith, all, c, starts)

        pub next_within : IsWithin first (last + 4096) (s.position + span s.level)
        next_within = let end = leb-true (s.position + span s.level) (last + 4096) parts.1 in record {
          from = omega (arith, from_first);
          to = inl end;
          aligned = (let a = found.aligned in let pages = span_pages s.level found.spot.way.low in omega (arith, a, pages));
        }

        ends : leads_down s.level s.word ≡ false
        ends = page_ends wanted s.level s.word found.page

        abbrev next : ℕ
        next = s.position + span s.level

        pub pages_more : page_entries L wanted M first next ≡ page_entries L wanted M first p ++ this ∷ []
        pages_more = between_split L wanted M first s.position next from_first (omega arith) whole found.aligned
            ∙ ap₂ (λ xs ys. xs ++ ys) same (one_between L wanted M T root valid three zero_not s found.spot ends top found.page starts)
          where
            same : page_entries L wanted M first s.position ≡ page_entries L wanted M first p
            same = between_split L wanted M first p s.position within.from found.after whole within.aligned
                ∙ ap (λ xs. page_entries L wanted M first p ++ xs) (none_between L wanted M p s.position found.after found.none) ∙ append_none (page_entries L wanted M first p)

        pub whole_more : AllWhole L wanted M first next
        whole_more = whole_joined L wanted M first s.position next from_first (omega arith) here_listed.whole (one_is_whole L wanted M T root valid three zero_not s found.spot ends top found.page starts)

        pub listed_more : count < length before → (array : List PageWord) → array ≡ slice_set after count (told L this)
            → ListsPages L wanted M first next (count + 1) before array
        listed_more room array set_is =
            let xs = page_entries L wanted M first p in
            let size : length (map (told L) xs) ≡ count = length-map xs (told L) ∙ sym listed.number in record {
              number = ap (λ n. n + 1) listed.number ∙ sym (length-append xs (this ∷ [])) ∙ ap length (sym pages_more);
              array = set_is
                  ∙ ap₂ (λ a n. set a n (told L this)) (listed.array ∙ ap (λ ys. map (told L) xs ++ ys) (drop-cons before count PageWordNone room)) (sym size)
                  ∙ set-append_seam (map (told L) xs) (get_or before count PageWordNone) (drop (suc count) before) (told L this)
                  ∙ sym (append_assoc (map (told L) xs) (told L this ∷ []) (drop (suc count) before))
                  ∙ ap (λ ys. ys ++ drop (suc count) before) (sym (map-append (told L) xs (this ∷ [])))
                  ∙ ap₂ (λ ys n. map (told L) ys ++ drop n before) (sym pages_more) (let e : suc count ≡ count + 1 = omega arith in e);
              whole = whole_more;
            }
          where
            PageWordNone : PageWord
            PageWordNone = record { page = 0; size = 0; word = 0 }

    -- ---- why a range ends, by a search that found no page to go on with

    module _ (Levels : Type 0) (first last : ℕ) (whole : first % 4096 ≡ 0) (last_whole : last % 4096 ≡ 0) (before : List PageWord) (p count : ℕ) (after : List PageWord)
        (within : IsWithin first (last + 4096) p) (listed : ListsPages L wanted M first p count before after) where
      pub ends_listed : (end : RangeEnd Levels) → SearchFinds L root wanted M p (last + 4096) (Err end) → SeesPages L wanted M first last before after (record { count = count; end = end })
      ends_listed All none = record { listed = listed_all first whole before p (last + 4096) count after within none listed; end = tt }
      ends_listed (More next) none = absurd none
      ends_listed (LargerPage next) found =
          let stop = stops_larger first last whole last_whole before p count after within listed found.0 false found.2 refl in
          subst (λ n. SeesPages {Levels = Levels} L wanted M first last before after (record { count = count; end = LargerPage n })) found.1 (record { listed = stop.0; end = stop.1 })

      pub pages_reached : (end : RangeEnd Levels) → SearchFinds L root wanted M p (last + 4096) (Err end) → page_entries L wanted M first p ≡ page_entries L wanted M first (reached last end)
      pages_reached All none = same_all first whole before p (last + 4096) within none
      pages_reached (More next) none = absurd none
      pages_reached (LargerPage next) found = let s = found.0 in let is = found.2 in
          same_up first whole before p s.position within.from is.after within.aligned is.none ∙ ap (page_entries L wanted M first) found.1

    -- pages that go into no array

    pub listed_alone : (first p : ℕ) → AllWhole L wanted M first p → ListsPages L wanted M first p (length (page_entries L wanted M first p)) [] (map (told L) (page_entries L wanted M first p))
    listed_alone first p all = let pages = page_entries L wanted M first p in record {
      number = refl;
      array = sym (ap (λ ys. map (told L) pages ++ ys) (drop-nil (length pages)) ∙ append_none (map (told L) pages));
      whole = all;
    }

    module _ (Levels : Type 0) (first last : ℕ) (whole : first % 4096 ≡ 0) (last_whole : last % 4096 ≡ 0) (p : ℕ) (within : IsWithin first (last + 4096) p) (all : AllWhole L wanted M first p) where
      at_page : (places count : ℕ) (end : RangeEnd Levels) → SearchFinds L root wanted M p (last + 4096) (Err end) → EndsFor L wanted M first last places count end → EndsAtPage L wanted M first last end
      at_page places count All none is = tt
      at_page places count (More next) none is = none
      at_page places count (LargerPage next) found is = is

      pub ends_alone : (end : RangeEnd Levels) → SearchFinds L root wanted M p (last + 4096) (Err end) → AllWhole L wanted M first (reached last end) × EndsAtPage L wanted M first last end
      ends_alone end found =
          let pages = page_entries L wanted M first p in
          let sees = ends_listed Levels first last whole last_whole [] p (length pages) (map (told L) pages) within (listed_alone first p all) end found in
          (sees.listed.whole, at_page 0 (length pages) end found sees.end)

    pub none_reached : (Levels : Type 0) (first last p : ℕ) → HasNoPage L wanted M first p → (end : RangeEnd Levels) → SearchFinds L root wanted M p (last + 4096) (Err end) → HasNoPage L wanted M first (reached last end)
    none_reached Levels first last p before All none = none_joined L T root M valid wanted first p (last + 4096) before none
    none_reached Levels first last p before (More next) none = absurd none
    none_reached Levels first last p before (LargerPage next) found =
        subst (HasNoPage L wanted M first) found.1 (none_joined L T root M valid wanted first p found.0.position before found.2.none)
