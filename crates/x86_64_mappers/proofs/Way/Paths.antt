-- Paths as slices of indices.
use Rattle.std.proofs.Common.{◌≡◌, ◌<◌, ◌≤◌, ◌+◌, ◌-◌, ◌==◌, ◌&&◌, ℕ, Bool, List, [], ◌∷◌, length, get_or, refl, ap₂, arith}
use Rattle.std.proofs.lemmas.List.{get_or_read}
use Rattle.std.specs.List.{starts_with}
use Rattle.x86_64_model.specs.Path.{begins}

-- a path has a last index
pub has_last_index : (q : List ℕ) → 0 < length q → length q ≡ length q - 1 + 1
has_last_index q some = omega (arith, some)

pub last_item : (q : List ℕ) (i : ℕ) → length q ≡ length q - 1 + 1 → i ≡ get_or q (length q - 1) i → i ≡ get_or q (length q - 1) 0
last_item q i size is = get_or_read q (length q - 1) i (omega (arith, size)) is 0

-- the path of a page has a last index
pub some_index_of : (L : ℕ) (q : List ℕ) (level : ℕ) → length q + level ≡ L + 1 → level ≤ L → 0 < length q
some_index_of L q level size high = omega (arith, size)

-- there is a level above those of pages
pub page_below_root : (L level : ℕ) → 3 < L → level ≤ 3 → level ≤ L
page_below_root L level some high = omega (arith, some, high)

pub positive_levels : (L : ℕ) → 3 < L → 0 < L
positive_levels L some = omega (arith, some)

-- whether a slice starts with a path
pub begins_from : (E : ℕ → ℕ → Bool) → ((i j : ℕ) → E i j ≡ (i == j)) → (q p : List ℕ) → starts_with E p q ≡ begins q p
begins_from E same [] p = refl
begins_from E same (i ∷ q) [] = refl
begins_from E same (i ∷ q) (j ∷ p) = ap₂ (λ a b. a && b) (same i j) (begins_from E same q p)
