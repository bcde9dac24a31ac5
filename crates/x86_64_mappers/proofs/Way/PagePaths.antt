-- The path of a page as the first of its indices, and the page's start.
use Rattle.std.proofs.Common.{◌≡◌, ◌↔◌, ◌+◌, ◌-◌, ◌*◌, ◌%◌, ◌<◌, ◌≤◌, ℕ, true, List, fold, length, inl, inr, ap, ap₂, sym, ◌∙◌, subst, arith}
use Rattle.std.proofs.lemmas.List.{take_all}
use Rattle.x86_64_addr.specs.Levels.{IsLevelCount}
use Rattle.x86_64_model.proofs.Lemmas.Paths.Begins.{begins_itself}
use Rattle.x86_64_model.proofs.Lemmas.Machines.Effects.{below_taken}
use Rattle.x86_64_model.proofs.Lemmas.Machines.Spares.{length_path}
use Rattle.x86_64_model.proofs.Lemmas.Paths.Spans.{spans_are_intervals}
use Rattle.x86_64_model.specs.Path.{AllBelow, begins, span_size, span_start}
use Rattle.x86_64_model.specs.Position.{page_path, position_count, lower_half, span}

-- ---- the first position of a 4KiB page's path

pub start_of_path : (L p : ℕ) → 1 ≤ L → p < position_count L → p % 4096 ≡ 0 → span_start L (page_path L p) ≡ p
start_of_path L p some inside multiple = at_multiple (fold (λ n i. n * 512 + i) 0 q) (span_size L q) size (spans.0 (begins_itself q))
  where
    q : List ℕ
    q = page_path L p

    long : length q ≡ L
    long = length_path L p

    below : AllBelow q
    below = subst AllBelow (take_all L q (omega (arith, long))) (below_taken p L L)

    size : span_size L q ≡ 4096
    size = ap span (let e : L + 1 - length q ≡ 1 = omega (arith, long) in e)

    spans : begins q (page_path L p) ≡ true ↔ (span_start L q ≤ p) × (p < span_start L q + span_size L q)
    spans = spans_are_intervals L q p (omega (arith, long)) (omega (arith, long)) below inside

    at_multiple : (n size : ℕ) → size ≡ 4096 → (n * size ≤ p) × (p < n * size + size) → n * size ≡ p
    at_multiple n size is h =
        let low : n * 4096 ≤ p = rw is at h.0 in
        let high : p < n * 4096 + 4096 = rw is at h.1 in
        ap (λ s. n * s) is ∙ (let e : n * 4096 ≡ p = omega (arith, multiple) in e)

pub page_start : (L levels page : ℕ) (indices : List ℕ) → 1 ≤ L → levels ≡ L → indices ≡ page_path L page → page < position_count L → page % 4096 ≡ 0 → span_start levels indices ≡ page
page_start L levels page indices some known is inside multiple = ap₂ span_start known is ∙ start_of_path L page some inside multiple

-- ---- the page that contains a frame's own address

-- the page that contains a position starts there if the position is a multiple of the size
pub starts_there : (frame size position page : ℕ) → frame % size ≡ 0 → position ≡ frame → page ≡ position - position % size → page ≡ frame
starts_there frame size position page aligned here page_is =
    let page_at : page ≡ frame - frame % size = page_is ∙ ap (λ n. n - n % size) here in
    omega (arith, page_at, aligned)

at_four : (address : ℕ) → address < lower_half 4 → address % position_count 4 ≡ address
at_four address low = omega (arith, low)

at_five : (address : ℕ) → address < lower_half 5 → address % position_count 5 ≡ address
at_five address low = omega (arith, low)

-- an address of the lower half is its own position
pub own_position : (L address : ℕ) → IsLevelCount L → address < lower_half L → address % position_count L ≡ address
own_position L address (inl four) = subst (λ L. address < lower_half L → address % position_count L ≡ address) (sym four) (at_four address)
own_position L address (inr five) = subst (λ L. address < lower_half L → address % position_count L ≡ address) (sym five) (at_five address)
