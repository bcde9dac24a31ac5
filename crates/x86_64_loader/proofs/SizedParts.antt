-- Parts of a segment, mapped with pages of one size.
use Rattle.std.proofs.Common.{zero, suc, ◌≡◌, ◌<◌, ◌≤◌, ◌+◌, ◌-◌, ◌*◌, ◌/◌, ◌%◌, ◌^◌, ℕ, ◌||◌, not, Bool, true, false, List, [], ◌∷◌, drop, take, Option, Some, None, refl, sym, ap, ◌∙◌, subst, subst₂, arith, eq-eqb, pow_pos}
use Rattle.std.proofs.Math.Nat.{mul_assoc, mul-le-mul_right}
use Rattle.std.proofs.lemmas.Bool.{and_from, and_parts}
use Rattle.x86_64_model.specs.Allowed.{map_allowed}
use Rattle.x86_64_model.specs.Entry.{present, huge}
use Rattle.x86_64_model.specs.MapRule.{parent_part}
use Rattle.x86_64_model.specs.Hierarchy.{Hierarchy, IsMappedAs, paths}
use Rattle.x86_64_model.specs.Path.{is_small, path_at}
use Rattle.x86_64_model.specs.PathMap.{PathMap}
use Rattle.x86_64_model.specs.Position.{span, page_path}
use Rattle.x86_64_model.specs.Refusal.{Refusal}
use Rattle.x86_64_model.specs.Window.{Window, begins_with}
use Rattle.x86_64_model.proofs.Lemmas.Machines.Effects.{map_may}
use Rattle.x86_64_model.proofs.Lemmas.Maps.Arrives.{first_alone}
use Rattle.x86_64_model.proofs.Lemmas.Paths.Pages.{length_taken}
use Rattle.x86_64_tables.specs.PageTableFlags.{bits_of}
use Rattle.x86_64_mappers.specs.Supplies.{Supply}
use Rattle.x86_64_loader.specs.private.Held.{IsHeld}
use Rattle.x86_64_loader.specs.private.Loads.{HoldsPart, IsHalted, IsStopped}
use Rattle.x86_64_loader.specs.Pages.{MayBeMapped, RunStands}
use Rattle.x86_64_loader.specs.Segments.{AllStand, IsAllowed, page_mapping, pages_of_part, size_of}
use Rattle.x86_64_loader.specs.declared.segment.Segment.{Segment}
use Rattle.x86_64_loader.proofs.Holding.{held_reached, run_is_held, run_outside}
use Rattle.x86_64_model.proofs.Lemmas.Machines.PageMappings.{will_be_present}
use Rattle.x86_64_loader.proofs.Listed.{all_in_run, run_cut}
use Rattle.x86_64_loader.proofs.Runs.{one_more_page}

-- ---- if a page of 4KiB may be mapped, a larger one may be

outside_alike : (window : Option Window) (k j : ℕ) (t : List ℕ) → 1 ≤ k → 1 ≤ j → begins_with window (take k t) ≡ false → begins_with window (take j t) ≡ false
outside_alike window zero j t low low' h = absurd (omega (arith, low))
outside_alike window (suc k) zero t low low' h = absurd (omega (arith, low'))
outside_alike None (suc k) (suc j) [] low low' h = refl
outside_alike (Some w) (suc k) (suc j) [] low low' h = refl
outside_alike window (suc k) (suc j) (i ∷ t) low low' h = first_alone window i (take k t) (take j t) h

or_true : (b c : Bool) → c ≡ true → (b || c) ≡ true
or_true true c h = refl
or_true false c h = h

small_at_one : (L p : ℕ) → is_small L (path_at L 1 p) ≡ true
small_at_one L p = let long = length_taken p (L + 1 - 1) L (omega arith) in eq-eqb _ _ (omega (arith, long))

or_is : (b c : Bool) → b ≡ false → (b || c) ≡ true → c ≡ true
or_is true c h e = cc
or_is false c h e = e

-- with PRESENT, if a page of 4KiB may be mapped, one of any size outside the window may be
elsewhere_allowed : (L : ℕ) (window : Option Window) (M : PathMap) (p given : ℕ) (q : List ℕ) → present given ≡ true
    → map_allowed L window M (path_at L 1 p) given (parent_part given) ≡ true → begins_with window q ≡ false → map_allowed L window M q given (parent_part given) ≡ true
elsewhere_allowed L window M p given q is_present allowed outside =
    let p5 = and_parts _ _ allowed in let p4 = and_parts _ _ p5.0 in let p3 = and_parts _ _ p4.0 in
    let plain : not (huge given) ≡ true = or_is _ _ (ap not (small_at_one L p)) p3.1 in
    and_from _ _ (and_from _ _ (and_from _ _ p3.0 (or_true (not (is_small L q)) _ plain)) (will_be_present M q given is_present)) (ap not outside)

larger_allowed : (L : ℕ) (window : Option Window) (M : PathMap) (level p given : ℕ) → 1 ≤ level → level ≤ L → present given ≡ true
    → map_allowed L window M (path_at L 1 p) given (parent_part given) ≡ true → map_allowed L window M (path_at L level p) given (parent_part given) ≡ true
larger_allowed L window M level p given low high is_present allowed =
    elsewhere_allowed L window M p given (path_at L level p) is_present allowed
    (outside_alike window (L + 1 - 1) (L + 1 - level) (page_path L p) (omega (arith, low, high)) (omega (arith, low, high)) (map_may L window M (path_at L 1 p) given (parent_part given) allowed).outside)

-- ---- the pages of a part

-- the number of 4KiB pages in a page of a level
small_pages : (level : ℕ) → 1 ≤ level → level ≤ 3 → span level ≡ (span level / 0x1000) * 0x1000
small_pages zero low high = absurd (omega arith)
small_pages (suc zero) low high = refl
small_pages (suc (suc zero)) low high = refl
small_pages (suc (suc (suc zero))) low high = refl
small_pages (suc (suc (suc (suc n)))) low high = absurd (omega arith)

-- a part starts at a multiple of its size, if this is so for sizes above 4KiB
pub part_aligned : (level size start : ℕ) → size ≡ span level → 1 ≤ level → (1 < level → start % size ≡ 0) → start % 0x1000 ≡ 0 → start % size ≡ 0
part_aligned zero size start spans low large small = absurd (omega (arith, low))
part_aligned (suc zero) size start spans low large small = ap (λ z. start % z) spans ∙ small
part_aligned (suc (suc n)) size start spans low large small = large (omega arith)

module _ {Lent : Type 0} (h : Hierarchy Lent) (s : Segment) (level size first count : ℕ) (spans : size ≡ span level) (low : 1 ≤ level) (high : level ≤ 3)
    (allowed : IsAllowed h s) (within : first * 0x1000 + count * size ≤ size_of s) where
  whole : size ≡ size / 0x1000 * 0x1000
  whole = spans ∙ small_pages level low high ∙ ap (λ z. z / 0x1000 * 0x1000) (sym spans)

  -- page k of the part begins with this 4KiB page of the segment
  in_small : (k : ℕ) → first * 0x1000 + k * size ≡ (first + k * (size / 0x1000)) * 0x1000
  in_small k = let each : k * size ≡ k * (size / 0x1000) * 0x1000 = ap (λ z. k * z) whole ∙ sym (mul_assoc k (size / 0x1000) 0x1000) in omega (arith, each)

  some : 0 < size
  some = subst (λ z. 0 < z) (sym spans) (pow_pos (12 + 9 * (level - 1)))

  -- page k of the part begins with this 4KiB page, counted from any start
  moved : (start k : ℕ) → start + first * 0x1000 + k * size ≡ start + (first + k * (size / 0x1000)) * 0x1000
  moved start k = let is = in_small k in omega (arith, is)

  room : (k : ℕ) → k < count → (first + k * (size / 0x1000)) * 0x1000 + size ≤ size_of s
  room k less =
      let more : (k + 1) * size ≤ count * size = mul-le-mul_right size (omega (arith, less)) in
      let next = one_more_page k size in let is = in_small k in
      omega (arith, more, next, is, within)

  below : (k : ℕ) → k < count → first + k * (size / 0x1000) < s.pages
  below k less = let left = room k less in omega (arith, left, some)

  pub part_number : (k : ℕ) → k < count → first + k * (size / 0x1000) < 2 ^ 36
  part_number k less = let there = (allowed.each_page (first + k * (size / 0x1000)) (below k less)).page_there in omega (arith, there)

  pub part_may : level ≤ h.layout.levels → (k : ℕ) → k < count → MayBeMapped h level size (s.page + first * 0x1000) (s.frame + first * 0x1000) (bits_of s.flags) k
  part_may levels k less =
      let may = allowed.each_page (first + k * (size / 0x1000)) (below k less) in
      let page_is = sym (moved s.page k) in
      record {
        page_there = subst (λ p. p < 2 ^ 48) page_is may.page_there;
        frame_there = subst (λ p. p < 2 ^ 52) (sym (moved s.frame k)) may.frame_there;
        allowed = subst (λ p. map_allowed h.layout.levels h.layout.window (paths h) (path_at h.layout.levels level p) (bits_of s.flags) (parent_part (bits_of s.flags)) ≡ true) page_is
            (larger_allowed h.layout.levels h.layout.window (paths h) level _ (bits_of s.flags) low levels allowed.is_present may.allowed);
      }

  module _ (after : Hierarchy Lent) (rest : Supply) (levels : level ≤ h.layout.levels) (aligned : (s.page + first * 0x1000) % size ≡ 0) where
    -- if the part's first n pages stand, their positions are held
    pub part_held : (n : ℕ) → n ≤ count → after.layout ≡ h.layout → RunStands after level size (s.page + first * 0x1000) (s.frame + first * 0x1000) (bits_of s.flags) n
        → HoldsPart after s (first * 0x1000) (first * 0x1000 + n * size)
    part_held n few layout stand o from to =
        let page_is : s.page + first * 0x1000 + (o - first * 0x1000) ≡ s.page + o = omega (arith, from) in
        let frame_is : s.frame + first * 0x1000 + (o - first * 0x1000) ≡ s.frame + o = omega (arith, from) in
        subst₂ (λ p f. IsHeld after p f (bits_of s.flags)) page_is frame_is
        (run_is_held after level size (s.page + first * 0x1000) (s.frame + first * 0x1000) (bits_of s.flags) n spans aligned stand
        (λ k less. run_outside h after level size (s.page + first * 0x1000) (s.frame + first * 0x1000) (bits_of s.flags) k (part_may levels k (omega (arith, less, few))) layout)
        (o - first * 0x1000) (omega (arith, from, to)))

    -- the part's first n pages stand
    pub part_stand : (n : ℕ) → RunStands after level size (s.page + first * 0x1000) (s.frame + first * 0x1000) (bits_of s.flags) n → AllStand after (pages_of_part level s first n)
    part_stand n stand = all_in_run level (s.page + first * 0x1000) (s.frame + first * 0x1000) (bits_of s.flags) (λ x. IsMappedAs after x.level x.page x.frame x.flags) n
        (λ k below. subst (λ z. IsMappedAs after level (s.page + first * 0x1000 + k * z) (s.frame + first * 0x1000 + k * z) (bits_of s.flags)) spans (stand k below))

    pub part_halted : (supply : Supply) (mapped : ℕ) (why : Refusal)
        → IsStopped h supply level size (s.page + first * 0x1000) (s.frame + first * 0x1000) (bits_of s.flags) count mapped why after rest
        → IsHalted h supply s (pages_of_part level s first count) (first * 0x1000) (first + mapped * (size / 0x1000)) why after rest
    part_halted supply mapped why stopped =
        let is = in_small mapped in let kept = stopped.leaves.kept in record {
          above = omega arith;
          within = below mapped stopped.within;
          pages_before = λ o from to. held_reached after (s.page + o) (s.frame + o) (bits_of s.flags)
              (part_held mapped (let end = stopped.within in omega (arith, end)) kept.layout stopped.stand o from (omega (arith, to, is))) kept.fits.valid;
          kept = kept;
          before = pages_of_part level s first mapped;
          next = page_mapping level (s.page + first * 0x1000 + mapped * span level) (s.frame + first * 0x1000 + mapped * span level) (bits_of s.flags);
          left = drop (suc mapped) (pages_of_part level s first count);
          cut = run_cut level (s.page + first * 0x1000) (s.frame + first * 0x1000) (bits_of s.flags) mapped count stopped.within;
          page = ap (λ z. s.page + first * 0x1000 + mapped * z) (sym spans) ∙ moved s.page mapped;
          refused = stopped.refused;
        }
