-- The paths of pages of one table, one after another: they differ in the last index.
use Rattle.std.proofs.Common.{zero, suc, ◌≡◌, ◌<◌, ◌≤◌, ◌+◌, ◌-◌, ◌*◌, ◌/◌, ◌%◌, ◌^◌, ℕ, [], ◌∷◌, ◌++◌, length, take, get_or, sym, ap, ap₂, ◌∙◌, subst, arith}
use Rattle.std.proofs.lemmas.List.{same_from_push}
use Rattle.std.proofs.lemmas.Nat.{pow-add}
use Rattle.std.proofs.Math.Nat.{div-div-eq-div-mul, add-mul-div_right}
use Rattle.x86_64_model.specs.Path.{path_at}
use Rattle.x86_64_model.specs.Position.{index, span, page_path}
use Rattle.x86_64_model.proofs.Lemmas.Paths.Pages.{length_taken, span_pos, span_up}
use Rattle.x86_64_mappers.proofs.Way.Pages.{path_parted}

-- the number of a page is that many more
number_after : (level p j : ℕ) → (p + j * span level) / span level ≡ p / span level + j
number_after level p j = add-mul-div_right p j (span_pos level)

same_above : (v j : ℕ) → v % 512 + j < 512 → (v + j) / 512 ≡ v / 512
same_above v j h = omega (arith, h)

sum_here : (v j : ℕ) → v % 512 + j < 512 → (v + j) % 512 ≡ v % 512 + j
sum_here v j h = omega (arith, h)

module _ (level p j : ℕ) (low : 1 ≤ level) (within : index level p + j < 512) where
  small : p / span level % 512 + j < 512
  unfolding index
  small = within

  -- the page's own index
  index_here : index level (p + j * span level) ≡ index level p + j
  unfolding index
  index_here = ap (λ v. v % 512) (number_after level p j) ∙ sum_here (p / span level) j small

  -- an index of a level above
  index_above : (k : ℕ) → level < k → index k (p + j * span level) ≡ index k p
  unfolding index
  index_above k above = ap (λ x. x % 512) (part (p + j * span level) ∙ ap (λ v. v / 2 ^ (9 * (k - level - 1))) (ap (λ v. v / 512) (number_after level p j) ∙ same_above (p / span level) j small) ∙ sym (part p))
    where
      power : 2 ^ (9 * (k - level)) ≡ 512 * 2 ^ (9 * (k - level - 1))
      power = ap (λ n. 2 ^ n) (let e : 9 * (k - level) ≡ 9 + 9 * (k - level - 1) = omega (arith, above) in e) ∙ pow-add 2 9 (9 * (k - level - 1))

      part : (x : ℕ) → x / span k ≡ x / span level / 512 / 2 ^ (9 * (k - level - 1))
      part x = ap (λ s. x / s) (span_up level k low (omega (arith, above)))
          ∙ sym (div-div-eq-div-mul x (span level) (2 ^ (9 * (k - level))))
          ∙ ap (λ s. x / span level / s) power
          ∙ sym (div-div-eq-div-mul (x / span level) 512 (2 ^ (9 * (k - level - 1))))

  -- k indices above the page's own
  along : (k m : ℕ) → level + k ≡ m → take (suc k) (page_path m (p + j * span level)) ≡ take k (page_path m p) ++ (index level p + j) ∷ []
  unfolding page_path
  along zero zero h = absurd (omega (arith, h, low))
  along zero (suc m) h = ap (λ i. i ∷ []) (ap (λ n. index n (p + j * span level)) (let e : suc m ≡ level = omega (arith, h) in e) ∙ index_here)
  along (suc k) zero h = absurd (omega (arith, h))
  along (suc k) (suc m) h = ap₂ (λ i q. i ∷ q) (index_above (suc m) (omega (arith, h))) (along k m (omega (arith, h)))

plus_nothing : (p s : ℕ) → p + 0 * s ≡ p
plus_nothing p s = omega arith

index_small : (level p : ℕ) → index level p < 512
unfolding index
index_small level p = omega arith

module _ (L level p : ℕ) (low : 1 ≤ level) (high : level ≤ L) where
  abbrev k : ℕ
  k = L - level

  long : L + 1 - level ≡ suc k
  long = omega (arith, high)

  -- the page's own path, as the parents and the last index
  own : path_at L level p ≡ take k (page_path L p) ++ index level p ∷ []
  own = ap (λ n. take n (page_path L p)) long
      ∙ ap (λ x. take (suc k) (page_path L x)) (sym (plus_nothing p (span level)))
      ∙ along level p 0 low (let s = index_small level p in omega (arith, s)) k L (omega (arith, high))
      ∙ ap (λ i. take k (page_path L p) ++ i ∷ []) (let e : index level p + 0 ≡ index level p = omega arith in e)

  -- the path of a page after it in the same table
  pub path_after : (j : ℕ) → get_or (path_at L level p) (length (path_at L level p) - 1) 0 + j < 512
      → path_at L level (p + j * span level) ≡ take (length (path_at L level p) - 1) (path_at L level p) ++ (get_or (path_at L level p) (length (path_at L level p) - 1) 0 + j) ∷ []
  path_after j within =
      let q = path_at L level p in
      let size : length q ≡ L + 1 - level = length_taken p (L + 1 - level) L (omega (arith, low)) in
      let parted = path_parted q (length q - 1) (omega (arith, size, high)) in
      let parts = same_from_push (take (length q - 1) q) (take k (page_path L p)) (get_or q (length q - 1) 0) (index level p) (parted ∙ own) in
      ap (λ n. take n (page_path L (p + j * span level))) long
      ∙ along level p j low (subst (λ i. i + j < 512) parts.1 within) k L (omega (arith, high))
      ∙ ap₂ (λ t i. t ++ (i + j) ∷ []) (sym parts.0) (sym parts.1)
