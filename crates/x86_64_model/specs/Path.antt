-- Paths: lists of indices, the highest level first, that name the entries of a hierarchy of L levels.
-- A path of n indices names an entry of level L + 1 - n. Intel SDM vol. 3A, "Hierarchical Paging Structures: an Overview".
use Rattle.std.specs.Prelude.{zero, suc, ℕ, ◌+◌, ◌*◌, ◌-◌, ◌<◌, ◌≤◌, ◌==◌, ◌&&◌, Bool, true, false, List, [], ◌∷◌, ◌++◌, length, take, map, fold}
use Rattle.std.specs.List.{flat_map, range_with_len}
use Rattle.x86_64_model.specs.Position.{span, page_path}

-- The level of the entry at a path.
abbrev pub level_of : (L : ℕ) → List ℕ → ℕ
level_of L q = L + 1 - length q

-- The front part of a path that names the entry of a level.
abbrev pub front_at : (L level : ℕ) → List ℕ → List ℕ
front_at L level q = take (L + 1 - level) q

-- The path of the entry of a level at a position (the number of an address counted without the gap of the address space).
abbrev pub path_at : (L level position : ℕ) → List ℕ
path_at L level p = front_at L level (page_path L p)

-- The parents of a path: its nonempty proper front parts, the shortest first.
abbrev pub parents : List ℕ → List (List ℕ)
parents [] = []
parents (i ∷ []) = []
parents (i ∷ j ∷ q) = (i ∷ []) ∷ map (λ p. i ∷ p) (parents (j ∷ q))

-- Whether a path begins with the indices of q.
abbrev pub begins : (q path : List ℕ) → Bool
begins [] p = true
begins (i ∷ q) [] = false
begins (i ∷ q) (j ∷ p) = (i == j) && begins q p

-- Whether a path begins with the indices of q and is longer.
abbrev pub is_below : (q path : List ℕ) → Bool
is_below [] [] = false
is_below [] (j ∷ p) = true
is_below (i ∷ q) [] = false
is_below (i ∷ q) (j ∷ p) = (i == j) && is_below q p

-- The number of positions that the entry at a path spans: those whose first indices are the path's.
abbrev pub span_size : (L : ℕ) → List ℕ → ℕ
span_size L q = span (level_of L q)

-- The first position that the entry at a path spans, that is the first whose first indices are the path's. A position is the
-- number of an address counted without the gap of the address space.
abbrev pub span_start : (L : ℕ) → List ℕ → ℕ
span_start L q = fold (λ n i. n * 512 + i) 0 q * span_size L q

-- ---- the paths of pages

-- Whether the entry at a path is of level one, like that of a 4KiB page.
abbrev pub is_small : (L : ℕ) → List ℕ → Bool
is_small L q = length q == L

-- Each index of a path is below 512, the number of entries of a table.
abbrev pub AllBelow : List ℕ → Type 0
AllBelow [] = Unit {0}
AllBelow (i ∷ q) = (i < 512) × AllBelow q

-- The path of a 4KiB, 2MiB or 1GiB page: its entry is of level one, two or three.
pub record IsPage (L : ℕ) (q : List ℕ) : Type 0 where
  pub nonempty : 1 ≤ length q
  pub at_least : L ≤ length q + 2
  pub at_most : length q ≤ L
  pub below : AllBelow q

-- ---- all paths

-- The indices of a table in ascending order, from 0 to 511.
unfoldable pub indices : List ℕ
indices = range_with_len 0 512

-- All paths of one to n more indices below q, each after the paths below it, otherwise in ascending order of indices.
unfoldable pub paths_below : (n : ℕ) → List ℕ → List (List ℕ)
paths_below zero q = []
paths_below (suc n) q = flat_map (λ i. paths_below n (q ++ i ∷ []) ++ (q ++ i ∷ []) ∷ []) indices
