-- Pages in ascending order, and those of a segment.
use Rattle.std.proofs.Common.{zero, suc, ◌≡◌, ◌<◌, ◌≤◌, ◌+◌, ◌-◌, ◌*◌, ◌/◌, ◌%◌, ◌^◌, ◌++◌, ◌==◌, nat_lt, ℕ, Bool, true, false, cond, List, [], ◌∷◌, map, refl, sym, ap, ◌∙◌, subst, subst₂, arith}
use Rattle.std.proofs.Math.Nat.{add-mul-mod_self_right}
use Rattle.std.proofs.lemmas.Bool.{ltb-true}
use Rattle.std.specs.List.{AllByRecursion, range_with_len}
use Rattle.x86_64_model.specs.Call.{MapTo}
use Rattle.x86_64_model.specs.Hierarchy.{Hierarchy, allows}
use Rattle.x86_64_model.specs.PageMappings.{PageMapping, AreApart, EachApart}
use Rattle.x86_64_model.specs.Position.{span}
use Rattle.x86_64_model.proofs.Lemmas.Lists.All.{all_mapped}
use Rattle.x86_64_tables.specs.PageTableFlags.{bits_of}
use Rattle.x86_64_loader.specs.private.Loads.{pages_by}
use Rattle.x86_64_loader.specs.Segments.{IsAllowed, count_before, count_large, large_pages, page_mapping, pages_of_part, run_of, size_of, small_pages}
use Rattle.x86_64_loader.specs.declared.loader.Sizes.{Sizes}
use Rattle.x86_64_loader.specs.declared.loader.Sizes.TheVariants as sizes
use Rattle.x86_64_loader.specs.declared.segment.Segment.{Segment}
use Rattle.x86_64_loader.proofs.Listed.{all_both_lists, all_in_run}
use Rattle.x86_64_loader.proofs.Runs.{one_more_page}
use Rattle.x86_64_loader.proofs.SizedParts.{part_may}

-- each page starts at or after the end of the one before, between two positions
abbrev pub Ascends : (low high : ℕ) → List PageMapping → Type 0
Ascends low high [] = low ≤ high
Ascends low high (x ∷ xs) = (low ≤ x.page) × Ascends (x.page + span x.level) high xs

lower : (a b c : ℕ) (xs : List PageMapping) → a ≤ b → Ascends b c xs → Ascends a c xs
lower a b c [] le up = omega (arith, le, up)
lower a b c (x ∷ xs) le up = (let from = up.0 in omega (arith, le, from), up.1)

ascends_then : (a b c : ℕ) (xs ys : List PageMapping) → Ascends a b xs → Ascends b c ys → Ascends a c (xs ++ ys)
ascends_then a b c [] ys one two = lower a b c ys one two
ascends_then a b c (x ∷ xs) ys one two = (one.0, ascends_then (x.page + span x.level) b c xs ys one.1 two)

ascends_run : (level page frame given n : ℕ) → Ascends page (page + n * span level) (run_of level page frame given n)
ascends_run level page frame given n = subst₂ (λ a b. Ascends a b (run_of level page frame given n)) (let e : page + 0 * span level ≡ page = omega arith in e)
    (let e : page + (0 + n) * span level ≡ page + n * span level = omega arith in e) (from 0 n)
  where
    nth : ℕ → PageMapping
    nth k = page_mapping level (page + k * span level) (frame + k * span level) given

    from : (a n : ℕ) → Ascends (page + a * span level) (page + (a + n) * span level) (map nth (range_with_len a n))
    from a zero = omega arith
    from a (suc n) = (
      omega arith,
      subst₂ (λ low high. Ascends low high (map nth (range_with_len (a + 1) n)))
          (let next = one_more_page a (span level) in let e : page + (a + 1) * span level ≡ page + a * span level + span level = omega (arith, next) in e)
          (ap (λ m. page + m * span level) (let e : a + 1 + n ≡ a + suc n = omega arith in e))
          (from (a + 1) n),
    )

up_to : (low high : ℕ) (xs : List PageMapping) → Ascends low high xs → low ≤ high
up_to low high [] up = up
up_to low high (x ∷ xs) up = let from = up.0 in let to = up_to (x.page + span x.level) high xs up.1 in omega (arith, from, to)

-- the pages lie between these positions
pub ascending_within : (low high : ℕ) (xs : List PageMapping) → Ascends low high xs → AllByRecursion (λ x. (low ≤ x.page) × (x.page + span x.level ≤ high)) xs
ascending_within low high [] up = tt
ascending_within low high (x ∷ xs) up = (
  (up.0, up_to (x.page + span x.level) high xs up.1),
  all_mapped (λ y. (x.page + span x.level ≤ y.page) × (y.page + span y.level ≤ high)) (λ y. (low ≤ y.page) × (y.page + span y.level ≤ high))
      (λ y within. let from = within.0 in let start = up.0 in (omega (arith, from, start), within.1)) xs (ascending_within (x.page + span x.level) high xs up.1),
)

-- the pages lie apart from each other
pub ascending_apart : (low high : ℕ) (xs : List PageMapping) → Ascends low high xs → EachApart xs
ascending_apart low high [] up = tt
ascending_apart low high (x ∷ xs) up = (
  all_mapped (λ y. (x.page + span x.level ≤ y.page) × (y.page + span y.level ≤ high)) (AreApart x)
      (λ y within p from to its_from its_to. let behind = within.0 in omega (arith, behind, to, its_from)) xs (ascending_within (x.page + span x.level) high xs up.1),
  ascending_apart (x.page + span x.level) high xs up.1,
)

-- ---- the pages of a segment

-- properties of each page of a segment
pub record IsPageOf {Lent : Type 0} (h : Hierarchy Lent) (s : Segment) (x : PageMapping) : Type 0 where
  pub low : 1 ≤ x.level
  pub high : x.level ≤ 2
  pub multiple : x.page % span x.level ≡ 0
  pub below : x.page < 2 ^ 48
  pub given : x.flags ≡ bits_of s.flags
  pub allowed : allows h (MapTo x.level x.page x.frame x.flags) ≡ true

-- at the first page of 2MiB, page and frame start at a multiple of 2MiB
large_aligned : (s : Segment) → s.page % 0x1000 ≡ 0 → 0 < count_large s → (s.page + count_before s * 0x1000) % 0x20_0000 ≡ 0
large_aligned s aligned some = by (s.frame / 0x1000 % 512 == s.page / 0x1000 % 512) refl
  where
    number : ℕ
    number = s.page / 0x1000 % 512

    before : ℕ
    before = (512 - number) % 512

    by : (b : Bool) → (s.frame / 0x1000 % 512 == number) ≡ b → (s.page + count_before s * 0x1000) % 0x20_0000 ≡ 0
    by false is =
        let all : count_before s ≡ s.pages = ap (λ b. cond b (cond (nat_lt before s.pages) before s.pages) s.pages) is in
        absurd (omega (arith, some, all))
    by true is = within (nat_lt before s.pages) refl
      where
        within : (c : Bool) → nat_lt before s.pages ≡ c → (s.page + count_before s * 0x1000) % 0x20_0000 ≡ 0
        within false none =
            let all : count_before s ≡ s.pages = ap (λ b. cond b (cond (nat_lt before s.pages) before s.pages) s.pages) is ∙ ap (λ b. cond b before s.pages) none in
            absurd (omega (arith, some, all))
        within true few =
            let first : count_before s ≡ before = ap (λ b. cond b (cond (nat_lt before s.pages) before s.pages) s.pages) is ∙ ap (λ b. cond b before s.pages) few in
            ap (λ n. (s.page + n * 0x1000) % 0x20_0000) first ∙ omega (arith, aligned)

count_few : (s : Segment) → count_before s ≤ s.pages
count_few s = by (s.frame / 0x1000 % 512 == s.page / 0x1000 % 512) refl
  where
    before : ℕ
    before = (512 - s.page / 0x1000 % 512) % 512

    by : (b : Bool) → (s.frame / 0x1000 % 512 == s.page / 0x1000 % 512) ≡ b → count_before s ≤ s.pages
    by false is = subst (λ n. n ≤ s.pages) (sym (ap (λ b. cond b (cond (nat_lt before s.pages) before s.pages) s.pages) is)) (omega arith)
    by true is = subst (λ n. n ≤ s.pages) (sym (ap (λ b. cond b (cond (nat_lt before s.pages) before s.pages) s.pages) is)) (within (nat_lt before s.pages) refl)
      where
        within : (c : Bool) → nat_lt before s.pages ≡ c → cond (nat_lt before s.pages) before s.pages ≤ s.pages
        within false none = subst (λ n. n ≤ s.pages) (sym (ap (λ b. cond b before s.pages) none)) (omega arith)
        within true few = let less = ltb-true before s.pages few in subst (λ n. n ≤ s.pages) (sym (ap (λ b. cond b before s.pages) few)) (omega (arith, less))

-- the pages of a segment ascend through it
pub segment_ascends : (way : Sizes) (s : Segment) → Ascends s.page (s.page + size_of s) (pages_by way s)
segment_ascends sizes.Small s = lower s.page (s.page + 0 * 0x1000) (s.page + size_of s) (small_pages s) (omega arith)
    (subst (λ high. Ascends (s.page + 0 * 0x1000) high (small_pages s)) (let e : s.page + 0 * 0x1000 + s.pages * span 1 ≡ s.page + size_of s = omega arith in e)
    (ascends_run 1 (s.page + 0 * 0x1000) (s.frame + 0 * 0x1000) (bits_of s.flags) s.pages))
segment_ascends sizes.Large s =
    let first = count_before s in let large = count_large s in let behind = first + large * 512 in let few = count_few s in
    lower s.page (s.page + 0 * 0x1000) (s.page + size_of s) (large_pages s) (omega arith)
    (ascends_then (s.page + 0 * 0x1000) (s.page + first * 0x1000) (s.page + size_of s) (pages_of_part 1 s 0 first) (pages_of_part 2 s first large ++ pages_of_part 1 s behind (s.pages - behind))
    (subst (λ high. Ascends (s.page + 0 * 0x1000) high (pages_of_part 1 s 0 first)) (let e : s.page + 0 * 0x1000 + first * span 1 ≡ s.page + first * 0x1000 = omega arith in e)
    (ascends_run 1 (s.page + 0 * 0x1000) (s.frame + 0 * 0x1000) (bits_of s.flags) first))
    (ascends_then (s.page + first * 0x1000) (s.page + behind * 0x1000) (s.page + size_of s) (pages_of_part 2 s first large) (pages_of_part 1 s behind (s.pages - behind))
    (subst (λ high. Ascends (s.page + first * 0x1000) high (pages_of_part 2 s first large)) (let e : s.page + first * 0x1000 + large * span 2 ≡ s.page + behind * 0x1000 = omega arith in e)
    (ascends_run 2 (s.page + first * 0x1000) (s.frame + first * 0x1000) (bits_of s.flags) large))
    (subst (λ high. Ascends (s.page + behind * 0x1000) high (pages_of_part 1 s behind (s.pages - behind))) (let e : s.page + behind * 0x1000 + (s.pages - behind) * span 1 ≡ s.page + size_of s = omega (arith, few) in e)
    (ascends_run 1 (s.page + behind * 0x1000) (s.frame + behind * 0x1000) (bits_of s.flags) (s.pages - behind)))))

module _ {Lent : Type 0} (h : Hierarchy Lent) (some : 3 < h.layout.levels) (s : Segment) (aligned : s.page % 0x1000 ≡ 0) (allowed : IsAllowed h s) where
  part_pages : (level first count : ℕ) → 1 ≤ level → level ≤ 2 → (0 < count → (s.page + first * 0x1000) % span level ≡ 0) → first * 0x1000 + count * span level ≤ size_of s
      → AllByRecursion (IsPageOf h s) (pages_of_part level s first count)
  part_pages level first count low high multiple within = all_in_run level (s.page + first * 0x1000) (s.frame + first * 0x1000) (bits_of s.flags) (IsPageOf h s) count
      (λ k below. let may = part_may h s level (span level) first count refl low (omega (arith, high)) allowed within (omega (arith, high, some)) k below in record {
        low = low;
        high = high;
        multiple = add-mul-mod_self_right (s.page + first * 0x1000) k (span level) ∙ multiple (omega (arith, below));
        below = may.page_there;
        given = refl;
        allowed = may.allowed;
      })

  -- each page may be mapped
  pub segment_pages : (way : Sizes) → AllByRecursion (IsPageOf h s) (pages_by way s)
  segment_pages sizes.Small = part_pages 1 0 s.pages (omega arith) (omega arith) (λ more. omega (arith, aligned)) (omega arith)
  segment_pages sizes.Large =
      let first = count_before s in let large = count_large s in let behind = first + large * 512 in let few = count_few s in
      all_both_lists (IsPageOf h s) (pages_of_part 1 s 0 first) (pages_of_part 2 s first large ++ pages_of_part 1 s behind (s.pages - behind))
      (part_pages 1 0 first (omega arith) (omega arith) (λ more. omega (arith, aligned)) (omega (arith, few)))
      (all_both_lists (IsPageOf h s) (pages_of_part 2 s first large) (pages_of_part 1 s behind (s.pages - behind))
      (part_pages 2 first large (omega arith) (omega arith) (large_aligned s aligned) (omega (arith, few)))
      (part_pages 1 behind (s.pages - behind) (omega arith) (omega arith) (λ more. omega (arith, aligned)) (omega (arith, few))))
