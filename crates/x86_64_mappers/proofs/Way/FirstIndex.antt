-- The first index of a page's path is that of the highest level.
use Rattle.std.proofs.Common.{zero, suc, ◌≡◌, ◌≤◌, ◌<◌, ◌+◌, ◌-◌, ℕ, ◌==◌, Bool, false, ◌∷◌, take, Option, Some, None, option_map, not, refl, ap, sym, ◌∙◌, arith}
use Rattle.x86_64_model.specs.Position.{index, page_path}
use Rattle.x86_64_model.specs.Path.{path_at}
use Rattle.x86_64_model.specs.Window.{Window, begins_with}

-- whether there is a recursive index equal to this one
abbrev pub is_index : (r : Option ℕ) → (i : ℕ) → Bool
is_index None i = false
is_index (Some r) i = i == r

pub first_index : (window : Option Window) (L level p : ℕ) → 3 < L → level ≤ 3 → begins_with window (path_at L level p) ≡ is_index (option_map (λ w. w.index) window) (index L p)
unfolding page_path
first_index None L level p some low = refl
first_index (Some w) zero level p some low = absurd (omega (arith, some))
first_index (Some w) (suc n) level p some low =
    let one : suc n + 1 - level ≡ suc (n + 1 - level) = omega (arith, some, low) in
    ap (λ k. begins_with (Some w) (take k (index (suc n) p ∷ page_path n p))) one

-- the first index of an address's path
pub first_of_all : (window : Option Window) (L p : ℕ) → 3 < L → begins_with window (page_path L p) ≡ is_index (option_map (λ w. w.index) window) (index L p)
unfolding page_path
first_of_all None L p some = refl
first_of_all (Some w) zero p some = absurd (omega (arith, some))
first_of_all (Some w) (suc n) p some = refl

-- if there is a recursive index r, a page is outside it if its index of the highest level differs from r
pub is_outside_test : (window : Option Window) (L n level p : ℕ) → L ≡ n → 3 < n → level ≤ 3 → (r i : ℕ) → option_map (λ w. w.index) window ≡ Some r → i ≡ index n p
    → (test : Bool) → test ≡ not (i == r) → test ≡ not (begins_with window (path_at L level p))
is_outside_test window L n level p levels some low r i recursive of_page test tests =
    let is : begins_with window (path_at n level p) ≡ (index n p == r) = first_index window n level p some low ∙ ap (λ o. is_index o (index n p)) recursive in
    tests ∙ ap (λ i. not (i == r)) of_page ∙ ap not (sym is) ∙ ap (λ L. not (begins_with window (path_at L level p))) (sym levels)
