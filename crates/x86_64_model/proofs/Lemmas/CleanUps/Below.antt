-- Parts of a clean up: what it leaves and frees of the paths below one, and of those at the first indices of its table.
use Rattle.std.proofs.Common.{◌≡◌, ℕ, ◌+◌, ◌-◌, ◌==◌, ◌&&◌, Bool, true, false, not, List, [], ◌∷◌, ◌++◌, length, filter, map, nat_lt}
use Rattle.std.specs.List.{flat_map, list_all, range_with_len}
use Rattle.std.specs.FinMap.{retain_keys}
use Rattle.x86_64_model.specs.Entry.{address}
use Rattle.x86_64_model.specs.Path.{parents, is_below, paths_below}
use Rattle.x86_64_model.specs.PathMap.{PathMap, entry}
use Rattle.x86_64_model.specs.CleanUp.{in_range, is_removed}

-- whether a path begins with q and an index below i
abbrev pub is_before : (q : List ℕ) → (i : ℕ) → (path : List ℕ) → Bool
is_before [] i [] = false
is_before [] i (j ∷ p) = nat_lt j i
is_before (k ∷ q) i [] = false
is_before (k ∷ q) i (j ∷ p) = (k == j) && is_before q i p

-- the path map once the removed paths of a part of it are gone
unfoldable pub cleaned : (L : ℕ) → PathMap → (low high : ℕ) → (part : List ℕ → Bool) → PathMap
cleaned L M low high part = retain_keys M (λ p. not (part p && is_removed L M low high p))

-- the frames of the tables of the removed ones of these paths
unfoldable pub back_of : (L : ℕ) → PathMap → (low high : ℕ) → (paths : List (List ℕ)) → List ℕ
back_of L M low high ps = map (λ p. address (entry M p)) (filter (is_removed L M low high) ps)

-- once all tables below q were cleaned up
abbrev pub cleaned_below : (L : ℕ) → PathMap → (low high : ℕ) → List ℕ → PathMap
cleaned_below L M low high q = cleaned L M low high (is_below q)

abbrev pub back_below : (L : ℕ) → PathMap → (low high : ℕ) → List ℕ → List ℕ
back_below L M low high q = back_of L M low high (paths_below (L - 1 - length q) q)

-- once those at the indices below i of the table at q were, and all below them
abbrev pub cleaned_before : (L : ℕ) → PathMap → (low high : ℕ) → List ℕ → (i : ℕ) → PathMap
cleaned_before L M low high q i = cleaned L M low high (is_before q i)

-- the paths at index i of the table at q, and up to n indices more below it
abbrev pub paths_at : (n : ℕ) → List ℕ → (i : ℕ) → List (List ℕ)
paths_at n q i = paths_below n (q ++ i ∷ []) ++ (q ++ i ∷ []) ∷ []

abbrev pub back_before : (L : ℕ) → PathMap → (low high : ℕ) → List ℕ → (i : ℕ) → List ℕ
back_before L M low high q i = back_of L M low high (flat_map (paths_at (L - 1 - (length q + 1)) q) (range_with_len 0 i))

-- a clean up comes to the table at q: the parents of its entries are in range
abbrev pub Visits : (L : ℕ) → PathMap → (low high : ℕ) → List ℕ → Type 0
Visits L M low high q = (i : ℕ) → list_all (in_range L M low high) (parents (q ++ i ∷ [])) ≡ true
