-- Ranges of pages that end in a half of the address space.
use Rattle.std.proofs.Common.{◌≡◌, ◌⊎◌, inl, inr, ℕ, ◌+◌, ◌-◌, ◌*◌, ◌<◌, ◌≤◌, nat_le, cond, Some, None, sym, ap, ap₂, ◌∙◌, subst, subst₂, arith, rules}
use Rattle.std.specs.Option.{option_or}
use Rattle.std.proofs.Math.Nat.{mul-le-mul_right, add-mul}
use Rattle.std.proofs.lemmas.Bool.{cases_lt, leb-true, lt-ltb, le-ltb}
use Rattle.x86_64_model.specs.Position.{lower_half, position_count, span}
use Rattle.x86_64_mappers.specs.Ranges.{range_of}
use Rattle.x86_64_c.specs.Arguments.{IsPageOf, wrong_page, level_of_page_size, position_of}
use Rattle.x86_64_c.specs.Ranges.{half_end, bad_frames, bad_maps, bad_pages, range_asked}
use Rattle.x86_64_c.specs.Status.{bad_page}
use Rattle.x86_64_c.specs.declared.arguments.MapRequest.{MapRequest}
use Rattle.x86_64_c.specs.declared.arguments.Page.{Page}
use Rattle.x86_64_c.proofs.SpaceArguments.{none_both, unless_none}

-- each of a number of pages starts before the end of them all
pub page_before : (p count k size end : ℕ) → 0 < size → k < count → p + count * size ≤ end → p + k * size < end
page_before p count k size end some less within =
    let most : (k + 1) * size ≤ count * size = mul-le-mul_right size (let l : k + 1 ≤ count = omega (arith, less) in l) in
    let one = add-mul k 1 size in
    omega (arith, most, one, some, within)

-- a half ends with the address space or before, and behind each position in it
half_within : (L : ℕ) → (L ≡ 4) ⊎ (L ≡ 5) → lower_half L ≤ position_count L
half_within L known = elim known [
  | inl four ↦ subst (λ L. lower_half L ≤ position_count L) (sym four) (omega arith)
  | inr five ↦ subst (λ L. lower_half L ≤ position_count L) (sym five) (omega arith)
]

ends : (L : ℕ) → (L ≡ 4) ⊎ (L ≡ 5) → (p : ℕ) → p < position_count L → (p ≤ half_end L p) × (half_end L p ≤ position_count L)
ends L known p inside = let low = half_within L known in elim (cases_lt p (lower_half L)) [
  | inl below ↦ subst (λ b. (p ≤ cond b (lower_half L) (position_count L)) × (cond b (lower_half L) (position_count L) ≤ position_count L)) (sym (lt-ltb p (lower_half L) below)) (omega (arith, below), low)
  | inr above ↦ subst (λ b. (p ≤ cond b (lower_half L) (position_count L)) × (cond b (lower_half L) (position_count L) ≤ position_count L)) (sym (le-ltb p (lower_half L) above)) (omega (arith, inside), omega arith)
]

-- the size of a page is that of its level
pub size_is : (L : ℕ) (page : Page) → wrong_page L page ≡ None → page.size ≡ span (level_of_page_size page.size)
size_is L page good = search rules

-- so right pages end there, since they end in the half of the first one
pub ends_there : (L : ℕ) → (L ≡ 4) ⊎ (L ≡ 5) → (page : Page) (level position count : ℕ) → bad_pages L page count ≡ None → IsPageOf L page level position
    → position + count * span level ≤ position_count L
ends_there L known page level position count good is =
    let p = position_of L page.start in
    let right = none_both (wrong_page L page) _ good in
    let fits : count * page.size ≤ half_end L p - p = leb-true (count * page.size) (half_end L p - p) (unless_none (nat_le (count * page.size) (half_end L p - p)) bad_page right.1) in
    let inside : p < position_count L = elim known [
      | inl four ↦ subst (λ L. position_of L page.start < position_count L) (sym four) (omega arith)
      | inr five ↦ subst (λ L. position_of L page.start < position_count L) (sym five) (omega arith)
    ] in
    let end = ends L known p inside in
    let low = end.0 in let high = end.1 in
    let same : p + count * page.size ≤ position_count L = omega (arith, fits, low, high) in
    subst₂ (λ q s. q + count * s ≤ position_count L) (sym is.position_is) (size_is L page right.0 ∙ ap span (sym is.level_is)) same

-- what is wrong with maps of right pages is what is wrong with the frames
only_frames : (L : ℕ) (request : MapRequest) (count size level position : ℕ) → bad_pages L request.page count ≡ None → IsPageOf L request.page level position → size ≡ span level
    → bad_maps L request count ≡ bad_frames size request.frame count
only_frames L request count size level position good is spans =
    ap (λ o. option_or o (bad_frames request.page.size request.frame count)) good
    ∙ ap (λ s. bad_frames s request.frame count) (size_is L request.page (none_both (wrong_page L request.page) _ good).0 ∙ ap span (sym is.level_is) ∙ sym spans)

module _ (request : MapRequest) (count : ℕ) {L level position size : ℕ} (good : bad_pages L request.page count ≡ None) (is : IsPageOf L request.page level position) (spans : size ≡ span level) where
  pub right_frames : bad_frames size request.frame count ≡ None → bad_maps L request count ≡ None
  right_frames right = only_frames L request count size level position good is spans ∙ right

  pub wrong_frames : (why : ℕ) → bad_frames size request.frame count ≡ Some why → bad_maps L request count ≡ Some why
  wrong_frames why wrong = only_frames L request count size level position good is spans ∙ wrong

-- the range from a page on is the one that is asked for
pub asked : (L : ℕ) (request : MapRequest) (level position : ℕ) → IsPageOf L request.page level position
    → range_of level position request.frame request.flags request.parent_flags ≡ range_asked L request
asked L request level position is = ap₂ (λ v p. range_of v p request.frame request.flags request.parent_flags) is.level_is is.position_is
