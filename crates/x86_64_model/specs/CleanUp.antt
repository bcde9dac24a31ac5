-- Clean up: which empty tables are freed, and in which order. One condition on paths defines it.
-- Positions are the numbers of addresses counted without the gap of the address space.
use Rattle.std.specs.Prelude.{ℕ, ◌+◌, ◌-◌, ◌&&◌, ◌||◌, nat_lt, nat_le, Bool, not, List, [], length, filter, map}
use Rattle.std.specs.List.{list_all}
use Rattle.std.specs.FinMap.{keys, retain_keys}
use Rattle.x86_64_model.specs.Entry.{present, huge, address}
use Rattle.x86_64_model.specs.Path.{parents, is_below, span_start, span_size, paths_below}
use Rattle.x86_64_model.specs.PathMap.{PathMap, entry}

-- Whether the span of a path (the positions whose first indices are the path's) overlaps the positions from low to high, inclusive.
abbrev pub meets : (L low high : ℕ) → List ℕ → Bool
meets L low high q = nat_le low high && nat_le (span_start L q) high && nat_lt low (span_start L q + span_size L q)

-- Whether the entry at path q is present and names a table, and its span overlaps the positions from low to high, inclusive.
abbrev pub in_range : (L : ℕ) → PathMap → (low high : ℕ) → List ℕ → Bool
in_range L paths low high q = nat_lt (length q) L && present (entry paths q) && not (huge (entry paths q)) && meets L low high q

-- Whether a clean up of the positions from low to high, inclusive, removes the entry at path q: the entry, all its parents and
-- every used entry below it are present table entries whose spans overlap these positions.
unfoldable pub is_removed : (L : ℕ) → PathMap → (low high : ℕ) → List ℕ → Bool
is_removed L paths low high q = in_range L paths low high q && list_all (in_range L paths low high) (parents q)
    && list_all (λ p. not (is_below q p) || in_range L paths low high p) (keys paths)

-- What a clean up leaves: the path map, and the frames that it frees, in order.
pub record AfterCleanUp : Type 0 where
  pub paths : PathMap
  pub back : List ℕ

-- The outcome of a clean up of the positions from low to high, inclusive: the removed entries become absent, and the frames of
-- their tables are freed, each after those below it, otherwise in ascending order of indices.
unfoldable pub clean_up : (L : ℕ) → PathMap → (low high : ℕ) → AfterCleanUp
clean_up L paths low high = record {
  paths = retain_keys paths (λ q. not (is_removed L paths low high q));
  back = map (λ q. address (entry paths q)) (filter (is_removed L paths low high) (paths_below (L - 1) []));
}
