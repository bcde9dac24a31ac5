-- The pages between two positions, one after another.
use Rattle.std.proofs.Common.{zero, suc, ◌≡◌, ◌≢◌, ⊎_elim, ◌<◌, ◌≤◌, ◌+◌, ◌-◌, ◌*◌, ◌/◌, ◌%◌, ◌==◌, ◌&&◌, ℕ, Bool, true, false, cond, [], ◌∷◌, ◌++◌, map, Option, Some, None, refl, sym, ap, ap₂, ◌∙◌, subst, arith, eq-eqb}
use Rattle.std.specs.List.{cons_option, flat_map, range_with_len}
use Rattle.std.proofs.lemmas.Bool.{cases_eq, cases_lt, ne_eqb}
use Rattle.std.proofs.lemmas.Grind.{flat_map-append}
use Rattle.std.proofs.Math.Bool.{and-false}
use Rattle.std.proofs.Math.Nat.{div-add-mod, mul_comm}
use Rattle.x86_64_live.specs.PageRanges.{HasNoPage, PageEntry, AllWhole, is_page, page_entry_at, pages_at, page_entries}
use Rattle.x86_64_live.specs.private.RangeSteps.{IsSpot, leads_down, wanted_by}
use Rattle.x86_64_live.specs.declared.ranges.search.Spot.{Spot}
use Rattle.x86_64_live.specs.declared.ranges.search.Wanted.{Wanted}
use Rattle.x86_64_live.specs.declared.ranges.search.Wanted.TheVariants.{Used, Present}
use Rattle.x86_64_live.proofs.PageSpots.{span_pages, here, only_here}
use Rattle.x86_64_model.specs.Memory.{Words}
use Rattle.x86_64_model.specs.Path.{path_at}
use Rattle.x86_64_model.specs.PathMap.{PathMap, entry}
use Rattle.x86_64_model.specs.Position.{span}
use Rattle.x86_64_model.specs.Range.{exclusive_range, starts_from}
use Rattle.x86_64_model.specs.Validity.{IsValid}
use Rattle.x86_64_model.proofs.Lemmas.Entries.Bits.{zero_absent}
use Rattle.x86_64_model.proofs.Lemmas.Hierarchies.Changes.{zero_not_used}
use Rattle.x86_64_model.proofs.Lemmas.Mappings.SpanEnds.{same_number}
use Rattle.x86_64_model.proofs.Lemmas.Paths.Pages.{span_pos}

pub zero_not_wanted : (wanted : Wanted) → wanted_by wanted 0 ≡ false
zero_not_wanted Used = zero_not_used
zero_not_wanted Present = zero_absent

-- ---- starts

shifted : (size first second a b n : ℕ) → first + a * size ≡ second + b * size → map (λ k. first + k * size) (range_with_len a n) ≡ map (λ k. second + k * size) (range_with_len b n)
shifted size first second a b zero same = refl
shifted size first second a b (suc n) same = ap₂ (λ x xs. x ∷ xs) same (shifted size first second (a + 1) (b + 1) n (next first a ∙ ap (λ x. x + size) same ∙ sym (next second b)))
  where
    next : (first a : ℕ) → first + (a + 1) * size ≡ first + a * size + size
    next first a = grind arith

first_start : (first n : ℕ) → starts_from 4096 first (suc n) ≡ first ∷ starts_from 4096 (first + 4096) n
first_start first n = ap₂ (λ x xs. x ∷ xs) (let e : first + 0 * 4096 ≡ first = omega arith in e) (shifted 4096 first (first + 4096) 1 0 n (let e : first + 1 * 4096 ≡ first + 4096 + 0 * 4096 = omega arith in e))

starts_split : (a first b : ℕ) → starts_from 4096 first (a + b) ≡ starts_from 4096 first a ++ starts_from 4096 (first + a * 4096) b
starts_split zero first b = ap (starts_from 4096 first) (let z : 0 + b ≡ b = omega arith in z) ∙ ap (λ x. starts_from 4096 x b) (let e : first ≡ first + 0 * 4096 = omega arith in e)
starts_split (suc a) first b =
    ap (starts_from 4096 first) (let e : suc a + b ≡ suc (a + b) = omega arith in e) ∙ first_start first (a + b)
    ∙ ap (λ xs. first ∷ xs) (starts_split a (first + 4096) b ∙ ap (λ x. starts_from 4096 (first + 4096) a ++ starts_from 4096 x b) (let e : first + 4096 + a * 4096 ≡ first + suc a * 4096 = omega arith in e))
    ∙ ap (λ xs. xs ++ starts_from 4096 (first + suc a * 4096) b) (sym (first_start first a))

module _ (L : ℕ) (wanted : ℕ → Bool) (M : PathMap) where
  -- ---- parts

  pub between_split : (first p q : ℕ) → first ≤ p → p ≤ q → first % 4096 ≡ 0 → p % 4096 ≡ 0 → page_entries L wanted M first q ≡ page_entries L wanted M first p ++ page_entries L wanted M p q
  unfolding page_entries
  between_split first p q from to whole aligned =
      ap (λ n. flat_map (pages_at L wanted M) (starts_from 4096 first n)) (let e : (q - first) / 4096 ≡ (p - first) / 4096 + (q - p) / 4096 = omega (arith, from, to, whole, aligned) in e)
      ∙ ap (flat_map (pages_at L wanted M)) (starts_split ((p - first) / 4096) first ((q - p) / 4096)
      ∙ ap (λ x. starts_from 4096 first ((p - first) / 4096) ++ starts_from 4096 x ((q - p) / 4096)) (let e : first + (p - first) / 4096 * 4096 ≡ p = omega (arith, from, whole, aligned) in e))
      ∙ flat_map-append (pages_at L wanted M) (exclusive_range 4096 first p) (exclusive_range 4096 p q)

  pub between_none : (p : ℕ) → page_entries L wanted M p p ≡ []
  unfolding page_entries
  between_none p = ap (λ n. flat_map (pages_at L wanted M) (starts_from 4096 p n)) (let e : (p - p) / 4096 ≡ 0 = omega arith in e)

  -- if the end comes first
  pub between_past : (p q : ℕ) → q ≤ p → page_entries L wanted M p q ≡ []
  unfolding page_entries
  between_past p q order = ap (λ n. flat_map (pages_at L wanted M) (starts_from 4096 p n)) (let e : (q - p) / 4096 ≡ 0 = omega (arith, order) in e)

  empty_starts : (n p q : ℕ) → p + n * 4096 ≤ q → ((x : ℕ) → p ≤ x → x < q → pages_at L wanted M x ≡ []) → flat_map (pages_at L wanted M) (starts_from 4096 p n) ≡ []
  empty_starts zero p q most none = refl
  empty_starts (suc n) p q most none =
      ap (flat_map (pages_at L wanted M)) (first_start p n)
      ∙ ap (λ xs. xs ++ flat_map (pages_at L wanted M) (starts_from 4096 (p + 4096) n)) (none p (omega arith) (omega (arith, most)))
      ∙ empty_starts n (p + 4096) q (omega (arith, most)) (λ x from to. none x (omega (arith, from)) to)

  empty_between : (p q : ℕ) → p ≤ q → ((x : ℕ) → p ≤ x → x < q → pages_at L wanted M x ≡ []) → page_entries L wanted M p q ≡ []
  unfolding page_entries
  empty_between p q order none = empty_starts ((q - p) / 4096) p q (omega (arith, order)) none

  no_page_at : (x level : ℕ) → ((x % span level == 0) && is_page wanted level (entry M (path_at L level x))) ≡ false → page_entry_at L wanted M x level ≡ None
  no_page_at x level none = ap (λ b. cond b (Some (record { start = x; level = level; word = entry M (path_at L level x) })) None) none

  none_of_three : (x : ℕ) → ((level : ℕ) → 1 ≤ level → level ≤ 3 → page_entry_at L wanted M x level ≡ None) → pages_at L wanted M x ≡ []
  none_of_three x none = ap (λ o. cons_option o (cons_option (page_entry_at L wanted M x 2) (cons_option (page_entry_at L wanted M x 3) []))) (none 1 (omega arith) (omega arith))
      ∙ ap (λ o. cons_option o (cons_option (page_entry_at L wanted M x 3) [])) (none 2 (omega arith) (omega arith)) ∙ ap (λ o. cons_option o []) (none 3 (omega arith) (omega arith))

  -- where no position is one of a page
  pub none_between : (p q : ℕ) → p ≤ q → HasNoPage L wanted M p q → page_entries L wanted M p q ≡ []
  none_between p q order none = empty_between p q order (λ x from to. none_of_three x (λ level low high.
      no_page_at x level (ap (λ b. (x % span level == 0) && b) (none x level from to low high) ∙ and-false (x % span level == 0))))

  pub none_is_whole : (p q : ℕ) → HasNoPage L wanted M p q → AllWhole L wanted M p q
  none_is_whole p q none x level from to low high page = absurd (let t : false ≡ true = sym (none x level from to low high) ∙ page in cc)

  -- a page more
  pub whole_joined : (p q r : ℕ) → p ≤ q → q ≤ r → AllWhole L wanted M p q → AllWhole L wanted M q r → AllWhole L wanted M p r
  whole_joined p q r left right first second x level from to low high page = ⊎_elim
      (λ less. let in_first = first x level from less low high page in (in_first.0, omega (arith, in_first.1, right)))
      (λ least. let in_second = second x level least to low high page in (omega (arith, in_second.0, left), in_second.1))
      (cases_lt x q)

  one_of_three : (x k : ℕ) (e : PageEntry) → 1 ≤ k → k ≤ 3 → page_entry_at L wanted M x k ≡ Some e → ((level : ℕ) → 1 ≤ level → level ≤ 3 → level ≢ k → page_entry_at L wanted M x level ≡ None) → pages_at L wanted M x ≡ e ∷ []
  one_of_three x k e low high is others = ⊎_elim
      (λ one. gather (page_entry_at L wanted M x 1) (page_entry_at L wanted M x 2) (page_entry_at L wanted M x 3) (Some e) None None (subst (λ k. page_entry_at L wanted M x k ≡ Some e) one is) (others 2 (omega arith) (omega arith) (omega (arith, one))) (others 3 (omega arith) (omega arith) (omega (arith, one))))
      (λ not_one. ⊎_elim
      (λ two. gather (page_entry_at L wanted M x 1) (page_entry_at L wanted M x 2) (page_entry_at L wanted M x 3) None (Some e) None (others 1 (omega arith) (omega arith) (omega (arith, two))) (subst (λ k. page_entry_at L wanted M x k ≡ Some e) two is) (others 3 (omega arith) (omega arith) (omega (arith, two))))
      (λ not_two. let three : k ≡ 3 = omega (arith, low, high, not_one, not_two) in
      gather (page_entry_at L wanted M x 1) (page_entry_at L wanted M x 2) (page_entry_at L wanted M x 3) None None (Some e) (others 1 (omega arith) (omega arith) (omega (arith, three))) (others 2 (omega arith) (omega arith) (omega (arith, three))) (subst (λ k. page_entry_at L wanted M x k ≡ Some e) three is))
      (cases_eq k 2)) (cases_eq k 1)
    where
      gather : (a b c a' b' c' : Option PageEntry) → a ≡ a' → b ≡ b' → c ≡ c' → cons_option a (cons_option b (cons_option c [])) ≡ cons_option a' (cons_option b' (cons_option c' []))
      gather a b c a' b' c' p q r = λ i. cons_option (p i) (cons_option (q i) (cons_option (r i) []))

  module _ (T : Words) (root : ℕ) (valid : IsValid L T root M) (three : 3 ≤ L) (zero_not : wanted 0 ≡ false)
      (s : Spot) (spot : IsSpot L root M s) (ends : leads_down s.level s.word ≡ false) (high : s.level ≤ 3)
      (page : is_page wanted s.level s.word ≡ true) (starts : s.position % span s.level ≡ 0) where
    abbrev end : ℕ
    end = s.position + span s.level

    abbrev this : PageEntry
    this = record { start = s.position; level = s.level; word = s.word }

    start_is : s.position / span s.level * span s.level ≡ s.position
    start_is = mul_comm (s.position / span s.level) (span s.level) ∙ (let all = div-add-mod s.position (span s.level) in omega (arith, all, starts))

    in_span : (x : ℕ) → s.position ≤ x → x < end → x / span s.level ≡ s.position / span s.level
    in_span x from to = same_number s.level s.position x (omega (arith, start_is, from)) (omega (arith, start_is, to))

    others : (x : ℕ) → s.position ≤ x → x < end → (level : ℕ) → 1 ≤ level → level ≤ 3 → level ≢ s.level → page_entry_at L wanted M x level ≡ None
    others x from to level low top other = no_page_at x level (
        ap (λ b. (x % span level == 0) && b) (only_here L T root M valid s spot ends x (in_span x from to) wanted zero_not level low (omega (arith, top, three)) other)
        ∙ and-false (x % span level == 0))

    at_start : pages_at L wanted M s.position ≡ this ∷ []
    at_start = one_of_three s.position s.level this spot.way.low high
        (ap₂ (λ b w. cond b (Some (record { start = s.position; level = s.level; word = w })) None)
        (ap₂ (λ a b. a && b) (eq-eqb (s.position % span s.level) 0 starts) (ap (is_page wanted s.level) (here L T root M valid s spot ends s.position refl) ∙ page))
        (here L T root M valid s spot ends s.position refl))
        (others s.position (omega arith) (let pos = span_pos s.level in omega (arith, pos)))

    behind : (x : ℕ) → s.position + 4096 ≤ x → x < end → pages_at L wanted M x ≡ []
    behind x from to = none_of_three x (λ level low top. ⊎_elim
        (λ is. no_page_at x level (ap (λ b. b && is_page wanted level (entry M (path_at L level x))) (ne_eqb (x % span level) 0 (λ z. no_start (subst (λ k. x % span k ≡ 0) is z)))))
        (others x (omega (arith, from)) to level low top) (cases_eq level s.level))
      where
        no_start : x % span s.level ≢ 0
        no_start z =
            let all = div-add-mod x (span s.level) in let number = in_span x (omega (arith, from)) to in
            let c = mul_comm (x / span s.level) (span s.level) in
            let same : x / span s.level * span s.level ≡ s.position = ap (λ n. n * span s.level) number ∙ start_is in
            absurd (omega (arith, all, c, same, z, from))

    -- the page is all that starts in its span
    pub one_between : page_entries L wanted M s.position end ≡ this ∷ []
    unfolding page_entries
    one_between =
        let pages = span_pages s.level spot.way.low in let pos = span_pos s.level in
        let some : (end - s.position) / 4096 ≡ suc ((end - (s.position + 4096)) / 4096) = omega (arith, pages, pos) in
        ap (λ n. flat_map (pages_at L wanted M) (starts_from 4096 s.position n)) some
        ∙ ap (flat_map (pages_at L wanted M)) (first_start s.position ((end - (s.position + 4096)) / 4096))
        ∙ ap₂ (λ xs ys. xs ++ ys) at_start (empty_starts ((end - (s.position + 4096)) / 4096) (s.position + 4096) end (omega (arith, pages, pos)) behind)

    pub one_is_whole : AllWhole L wanted M s.position end
    one_is_whole x level from to low top is = ⊎_elim
        (λ same. subst (λ k. (s.position ≤ x / span k * span k) × (x / span k * span k + span k ≤ end)) (sym same)
        (let at : x / span s.level * span s.level ≡ s.position = ap (λ n. n * span s.level) (in_span x from to) ∙ start_is in (omega (arith, at), omega (arith, at))))
        (λ other. absurd (let t : false ≡ true = sym (only_here L T root M valid s spot ends x (in_span x from to) wanted zero_not level low (omega (arith, top, three)) other) ∙ is in cc))
        (cases_eq level s.level)
